-- `passing::passed` meets its contract.
use mathlib.Core.Path.{sym}
use native.Mathlib.Omega.{arith}
use Rattle.columns.proofs.Test.{if_lt_yes, if_lt_no}
use Rattle.passing.specs.Pass.{passed_by}
use Rattle.passing.proofs.passed.Goals as goal

pub returns-then-w-entries : goal.returns-then-w-entries
unfolding passed_by
returns-then-w-entries c = sym (if_lt_yes _ (omega arith))

pub returns : goal.returns
unfolding passed_by
returns c = sym (if_lt_no _ (omega arith))
