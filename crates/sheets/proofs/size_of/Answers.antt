-- `sheets::size_of` meets its contract: a table with not too many rows is small.
use Prim.Native.Nat.{ℕ, ◌+◌, ◌*◌}
use mathlib.Core.Path.{ap, ◌∙◌}
use native.Mathlib.Omega.{arith}
use lib.ListN.{get_or}
use Rattle.sheets.proofs.Tables.{size_small, size_is}
use Rattle.sheets.proofs.size_of.Goals as goal

pub overflow_mul-result-2 : goal.overflow_mul-result-2
overflow_mul-result-2 c =
    omega (arith, size_small c.columns-columns.result _ (omega arith) c.requires.1)

pub overflow_add-result-2 : goal.overflow_add-result-2
overflow_add-result-2 c =
    omega (arith, size_small c.columns-columns.result _ (omega arith) c.requires.1)

pub returns : goal.returns
returns c =
    let a = c.args in record {
      is = ap (λ (k : ℕ). 6 + get_or a.counts.now a.table 0 * (2 + 4 * k)) c.columns-columns.ensures
          ∙ size_is a.shape.now a.counts.now a.table;
      small = omega (arith, size_small c.columns-columns.result _ (omega arith) c.requires.1);
    }
