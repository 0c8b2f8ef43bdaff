-- Laws of grouping: no row has its leader yet, one row more has, and all have.
use Prim.Native.Nat.{ℕ, ◌+◌, ◌<◌}
use mathlib.Core.Path.{◌≡◌, refl, ap, ◌∙◌}
use mathlib.Core.Bool.{Bool, true, false}
use Rattle.std.proofs.Common.{◌&&◌, ◌↔◌}
use mathlib.Core.List.{List}
use native.Mathlib.Omega.{arith}
use lib.ListN.{length, get_or, replicate, length-set}
use lib.Seq.{get_or-set_same, get_or-set_other}
use Rattle.model.specs.Bounds.{row_bound}
use Rattle.model.proofs.Truth.{true_is}
use Rattle.leaders.specs.Keys.{first_same}
use Rattle.filled.proofs.Below.{below_more}
use Rattle.grouping.specs.Chains.{chains, Chained, Placed}
use Rattle.grouping.specs.Grouped.{Grouped}
use Rattle.grouping.proofs.Chains.{chained_begun}

-- the rows before q have their leaders, and r says whether they lead themselves
pub record Grouping (ws : List ℕ) (q : ℕ) (heads links out : List ℕ) (r : Bool) : Type 0 where
  pub chained : Chained ws q heads links
  pub grouped : Grouped ws q out r

pub grouping_begun : (ws out : List ℕ) → length out ≡ row_bound
    → Grouping ws 0 (replicate chains 0) (replicate row_bound 0) out true
grouping_begun ws out long = record {
  chained = chained_begun ws;
  grouped = record {
    long = long;
    leaders = λ p l. absurd (omega arith);
    alone = (λ e p l. absurd (omega arith), λ h. refl);
  };
}

grouped_more : (ws : List ℕ) (q : ℕ) (heads links before after : List ℕ) (r s : Bool) → q < row_bound
    → Placed ws q heads links before after s → Grouped ws q before r → Grouped ws (q + 1) after (r && s)
grouped_more ws q heads links before after r s l placed g = record {
  long = ap length placed.leader ∙ length-set before q (first_same ws q) ∙ g.long;
  leaders = λ p i.
      ap (λ (out : List ℕ). get_or out p 0) placed.leader
      ∙ below_more (λ r j. get_or-set_other before q r (first_same ws q) 0 (λ e. omega arith) ∙ g.leaders r j)
      (get_or-set_same before q (first_same ws q) 0 (omega (arith, g.long))) p i;
  alone = alone r s g.alone placed.leads;
}
  where
    alone : (r s : Bool) → (r ≡ true) ↔ ((p : ℕ) → p < q → first_same ws p ≡ p) → (s ≡ true) ↔ (first_same ws q ≡ q)
        → (r && s ≡ true) ↔ ((p : ℕ) → p < q + 1 → first_same ws p ≡ p)
    alone true s f g = (λ e. below_more (f.0 refl) (g.0 e), λ h. g.1 (h q (omega arith)))
    alone false s f g = (λ e. absurd (true_is e), λ h. f.1 (λ p l. h p (omega arith)))
