-- `packed::read` meets its contract: a refusal, or the part of the file's entries.
use native.Mathlib.Omega.{arith}
use Rattle.std.proofs.lemmas.Result.{err_from_is_err_and}
use Rattle.packed.proofs.Opening.{opened}
use Rattle.packed.proofs.Filling.{reads_not, reads}
use Rattle.packed.proofs.read.Goals as goal

pub returns-in_err-list : goal.returns-in_err-list
returns-in_err-list c =
    let p = err_from_is_err_and c.from_residual.result c.from_residual.ensures.1 in
    rw (p.1, p.2) (reads_not _ _ _ _ c.in_err-list.ensures)

pub read_part-requires : goal.read_part-requires
read_part-requires c = omega (arith, (opened _ c.in_ok-list.ensures).inside)

pub returns : goal.returns
returns c = reads _ _ _ c.in_ok-list.ensures c.read_part.ensures.count c.read_part.ensures.run
