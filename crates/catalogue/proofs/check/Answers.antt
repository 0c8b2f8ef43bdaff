-- `catalogue::check` meets its contract: a ground is the refusal; else tables and sets are told.
use mathlib.Core.Path.{refl}
use native.Mathlib.Omega.{arith}
use Rattle.columns.proofs.Test.{is_if_eq}
use Rattle.model.specs.Reply.{reply_of, check_reply}
use Rattle.model.specs.Check.{check_meaning}
use Rattle.model.proofs.Codes.{handed_reply}
use Rattle.catalogue.proofs.check.Goals as goal

pub returns-in_err-check : goal.returns-in_err-check
unfolding check_meaning
returns-in_err-check c = handed_reply check_reply (λ e. refl) _ _ _ c.from_residual.ensures.1 c.in_err-check.ensures

pub returns : goal.returns
unfolding check_meaning reply_of
returns c = is_if_eq _ (omega arith) cc
