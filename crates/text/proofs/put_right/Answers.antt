use Rattle.std.proofs.Common.{sym, arith}
use Rattle.columns.proofs.Test.{if_eq_yes, if_eq_no}
use Rattle.model.specs.Text.{right_text}
use Rattle.text.proofs.Puts.{puts_same}
use Rattle.text.proofs.put_right.Goals as goal

pub returns-then-right-eq-ROW : goal.returns-then-right-eq-ROW
unfolding right_text
returns-then-right-eq-ROW c = puts_same (sym (if_eq_yes _ (omega arith))) c.put_word.ensures

pub returns : goal.returns
unfolding right_text
returns c = puts_same (sym (if_eq_no _ (λ e. omega arith))) c.put_number.ensures
