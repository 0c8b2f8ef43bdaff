-- `convert::convert` meets its contract: the first ground that is found, or all bytes.
use mathlib.Core.Path.{refl, sym, ap, ◌∙◌}
use mathlib.Core.List.{[], ◌∷◌}
use native.Mathlib.Omega.{arith}
use lib.ListN.{length}
use Rattle.model.specs.Reply.{answered, convert_reply}
use Rattle.model.specs.Convert.{convert_meaning}
use Rattle.model.proofs.Codes.{number_pos, handed_reply}
use Rattle.model.proofs.Grounds.{reply_answered}
use Rattle.model.proofs.Check.{accepted_tables}
use Rattle.sheets.proofs.Tables.{size_converted}
use Rattle.convert.proofs.Whole.{convert_first, convert_second, text_accepted}
use Rattle.convert.proofs.Whole.{few_converted, full_room, output_kept, output_written, file_small}
use Rattle.convert.proofs.convert.Goals as goal

pub returns-in_err-check_text : goal.returns-in_err-check_text
unfolding convert_meaning
returns-in_err-check_text c =
    let a = c.args in
    let e = convert_first a.shape.now a.text.now (length a.out.now) c.in_err-check_text.ensures (number_pos _) in
    record {
      result_value = handed_reply convert_reply (λ e. refl) _ _ _ c.from_residual.ensures.1 e;
      out_after = output_kept _ _ _ (λ z. number_pos _ (e ∙ z));
    }

pub returns-in_err-check_room : goal.returns-in_err-check_room
unfolding convert_meaning
returns-in_err-check_room c =
    let a = c.args in
    let e = convert_second a.shape.now a.text.now (length a.out.now) c.in_ok-check_text.ensures
    c.in_err-check_room.ensures in
    record {
      result_value = handed_reply convert_reply (λ e. refl) _ _ _ c.from_residual-in_err-check_room.ensures.1 e;
      out_after = output_kept _ _ _ (λ z. number_pos _ (e ∙ z));
    }

pub check_room-requires : goal.check_room-requires
check_room-requires c =
    (text_accepted c.args.shape.now c.args.text.now c.in_ok-check_text.ensures, c.count_rows-counts.ensures)

pub size-bytes-requires : goal.size-bytes-requires
size-bytes-requires c =
    let fit = c.in_ok-check_text.ensures in (
      text_accepted c.args.shape.now c.args.text.now fit,
      few_converted _ _ _ _ fit c.in_ok-check_room.ensures c.count_rows-counts.ensures,
    )

pub overflow_cast-bytes : goal.overflow_cast-bytes
overflow_cast-bytes c =
    let fit = c.in_ok-check_text.ensures in
    omega (
      arith,
      c.size-bytes.ensures,
      file_small _ _ (text_accepted c.args.shape.now c.args.text.now fit)
          (few_converted _ _ _ _ fit c.in_ok-check_room.ensures c.count_rows-counts.ensures),
    )

pub write-requires : goal.write-requires
write-requires c =
    let fit = c.in_ok-check_text.ensures in
    let full = c.in_ok-check_room.ensures in (
      text_accepted c.args.shape.now c.args.text.now fit,
      c.count_rows-counts.ensures,
      few_converted _ _ _ _ fit full c.count_rows-counts.ensures,
      full_room _ _ _ full,
    )

pub returns : goal.returns
unfolding convert_meaning
returns c =
    let a = c.args in
    let fit = c.in_ok-check_text.ensures in
    let size = c.size-bytes.ensures
    ∙ size_converted a.shape.now a.text.now c.count_rows-counts.result
    (accepted_tables a.shape.now (text_accepted a.shape.now a.text.now fit)) c.count_rows-counts.ensures in
    let z = sym (convert_second a.shape.now a.text.now (length a.out.now) fit c.in_ok-check_room.ensures) in
    record {
      result_value = ap (λ n. answered (n ∷ [])) size ∙ reply_answered _ z;
      out_after = output_written a.shape.now a.text.now a.out.now z c.write.ensures;
    }
