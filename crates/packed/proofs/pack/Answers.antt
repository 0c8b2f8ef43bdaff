-- `packed::pack` meets its contract: 15, then 16, then the list.
use Rattle.std.proofs.lemmas.Result.{err_from_is_err_and}
use Rattle.packed.proofs.Packing.{has_room, not_entries, not_room, packs}
use Rattle.packed.proofs.pack.Goals as goal

pub returns-in_err-check_entries : goal.returns-in_err-check_entries
returns-in_err-check_entries c =
    let p = err_from_is_err_and c.from_residual.result c.from_residual.ensures.1 in
    rw (p.1, p.2) (not_entries _ _ _ c.in_err-check_entries.ensures)

pub returns-in_err-check_room : goal.returns-in_err-check_room
returns-in_err-check_room c =
    let p = err_from_is_err_and c.from_residual-in_err-check_room.result
    c.from_residual-in_err-check_room.ensures.1 in
    rw (p.1, p.2) (not_room _ _ c.in_ok-check_entries.ensures _ c.in_err-check_room.ensures)

pub write_list-requires : goal.write_list-requires
write_list-requires c = has_room _ _ c.in_ok-check_room.ensures

pub returns : goal.returns
returns c =
    packs _ _ c.in_ok-check_entries.ensures c.in_ok-check_room.ensures c.write_list.ensures.bytes
    c.write_list.ensures.output
