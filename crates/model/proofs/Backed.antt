-- Backed left sides: the tests of specs/View.antt say what the propositions say, each subset of a backed left is
-- backed, and the empty left is backed exactly if there is a row. For any view.
use Prim.Native.Nat.{ℕ, ◌<◌}
use mathlib.Core.Path.{◌≡◌}
use mathlib.Core.Logic.{◌↔◌}
use mathlib.Core.Bool.{Bool, true, false, not, ◌||◌}
use native.Mathlib.Omega.{arith}
use lib.Dec.{T}
use Rattle.columns.specs.Set.{without_of}
use Rattle.columns.proofs.Bits.{bit_past}
use Rattle.model.specs.View.{View, is_in, Within, PresentOn, present_on, Backed, backed}
use Rattle.model.proofs.Truth.{is_true, true_is, is_false, false_is, implies_is, all_below_is, some_below_is}
use Rattle.model.proofs.View.{is_in_is, without_within}

-- the tests say what the propositions say
pub present_on_is : (v : View) (x p : ℕ) → T (present_on v x p) ↔ PresentOn v x p
unfolding present_on
present_on_is v x p = (
  λ t k l i. (implies_is (is_in k x) (v.present k p)).0 ((all_below_is v.members test).0 t k l) ((is_in_is k x).1 i),
  λ h. (all_below_is v.members test).1
      (λ k l. (implies_is (is_in k x) (v.present k p)).1 (λ i. h k l ((is_in_is k x).0 i))),
)
  where
    test : ℕ → Bool
    test k = not (is_in k x) || v.present k p

pub backed_is : (v : View) (x : ℕ) → T (backed v x) ↔ Backed v x
unfolding backed
backed_is v x = (
  λ t.
      let w = (some_below_is v.rows (present_on v x)).0 t in
      record { witness = w.0; exists = w.1; present = (present_on_is v x w.0).0 w.2 },
  λ b. (some_below_is v.rows (present_on v x)).1
      (b.witness, b.exists, (present_on_is v x b.witness).1 b.present),
)

-- the same as equations
pub backed_true : (v : View) (x : ℕ) → backed v x ≡ true → Backed v x
backed_true v x e = (backed_is v x).0 (true_is e)

pub true_backed : (v : View) (x : ℕ) → Backed v x → backed v x ≡ true
true_backed v x b = is_true ((backed_is v x).1 b)

pub backed_false : (v : View) (x : ℕ) → backed v x ≡ false → Backed v x → ⊥
backed_false v x e b = false_is e ((backed_is v x).1 b)

pub false_backed : (v : View) (x : ℕ) → (Backed v x → ⊥) → backed v x ≡ false
false_backed v x n = is_false (λ t. n ((backed_is v x).0 t))

-- each subset of a backed left is backed, by the same row
pub backed_within : (v : View) (x y : ℕ) → Within v y x → Backed v x → Backed v y
backed_within v x y w b =
    record {
      witness = b.witness;
      exists = b.exists;
      present = λ k l i. b.present k l (w k l i);
    }

pub backed_without : (v : View) (x k : ℕ) → Backed v x → Backed v (without_of x k)
backed_without v x k b = backed_within v x (without_of x k) (without_within v x k) b

-- the empty left is backed exactly if there is a row
pub backed_empty : (v : View) → Backed v 0 ↔ (0 < v.rows)
backed_empty v = (
  λ b. let l = b.exists in omega arith,
  λ l.
      record {
        witness = 0;
        exists = l;
        present = λ k m i. absurd (omega (arith, bit_past 0 0 k (omega arith) (omega arith)));
      },
)

-- where there is no row, nothing is backed
pub no_rows_unbacked : (v : View) (x : ℕ) → v.rows ≡ 0 → Backed v x → ⊥
no_rows_unbacked v x e b = let l = b.exists in omega arith
