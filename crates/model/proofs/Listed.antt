-- The test of what is listed passes exactly for what is listed; of a backed left side 'minimal' and 'minimal among the
-- backed lefts' are the same; where there is no row nothing is listed; and what is minimal and dropped is a listed key.
use Prim.Native.Nat.{ℕ}
use mathlib.Core.Path.{◌≡◌, refl}
use mathlib.Core.Logic.{◌⊎◌, inl, inr, ⊎_elim, ◌↔◌}
use mathlib.Core.Bool.{Bool, not, ◌&&◌, ◌||◌}
use lib.Dec.{T, eqb}
use Rattle.columns.specs.Set.{without_of}
use Rattle.model.specs.Bounds.{row}
use Rattle.model.specs.View.{View, Equivalence, In, Key, holds, Minimal, Least, minimal, Backed, backed}
use Rattle.model.specs.Listed.{Listed, listed, LeastBacked}
use Rattle.model.specs.Listing.{Listing, Stands}
use Rattle.model.specs.declared.Entry.{Entry}
use Rattle.model.proofs.Truth.{decided, and_is, or_is, not_is, eqb_is}
use Rattle.model.proofs.View.{holds_is, minimal_is, minimal_least, without_within, without_lacks}
use Rattle.model.proofs.Backed.{backed_is, backed_without, no_rows_unbacked}
use Rattle.model.proofs.Minimal.{key_minimal}

-- the right is the row, or the left is no key
pub undropped_is : (v : View) (x a : ℕ) → T (eqb a row || not (holds v x row)) ↔ ((a ≡ row) ⊎ (Key v x → ⊥))
undropped_is v x a = (
  λ t.
      ⊎_elim (λ (e : T (eqb a row)). inl ((eqb_is a row).0 e))
      (λ (n : T (not (holds v x row))). inr (λ k. (not_is (holds v x row)).0 n ((holds_is v x row).1 k)))
      ((or_is (eqb a row) (not (holds v x row))).0 t),
  λ u.
      (or_is (eqb a row) (not (holds v x row))).1
      (⊎_elim (λ (e : a ≡ row). inl ((eqb_is a row).1 e))
      (λ (n : Key v x → ⊥). inr ((not_is (holds v x row)).1 (λ t. n ((holds_is v x row).0 t)))) u),
)

pub listed_is : (v : View) (x a : ℕ) → T (listed v x a) ↔ Listed v x a
unfolding listed
listed_is v x a = (
  λ t.
      let h = (and_is (backed v x) (minimal v x a && stays)).0 t in
      let m = (and_is (minimal v x a) stays).0 h.1 in
      record {
        backed = (backed_is v x).0 h.0;
        minimal = (minimal_is v x a).0 m.0;
        undropped = (undropped_is v x a).0 m.1;
      },
  λ l.
      (and_is (backed v x) (minimal v x a && stays)).1 (
        (backed_is v x).1 l.backed,
        (and_is (minimal v x a) stays).1 ((minimal_is v x a).1 l.minimal, (undropped_is v x a).1 l.undropped),
      ),
)
  where
    stays : Bool
    stays = eqb a row || not (holds v x row)

-- minimal among all and minimal among the backed lefts
pub minimal_backed : (v : View) (x a : ℕ) → Backed v x → Minimal v x a ↔ LeastBacked v x a
minimal_backed v x a b = (
  λ m.
      let w : Least v x a = (minimal_least v x a).0 m in
      record {
        holds = w.holds;
        outside = w.outside;
        least = λ y c. w.least y;
      },
  λ w.
      record {
        holds = w.holds;
        outside = w.outside;
        spare = λ k l i h.
            w.least (without_of x k) (backed_without v x k b) (without_within v x k) k l i (without_lacks x k) h;
      },
)

pub listed_least : (v : View) (x a : ℕ)
    → Listed v x a ↔ (Backed v x × LeastBacked v x a × ((a ≡ row) ⊎ (Key v x → ⊥)))
listed_least v x a = (
  λ h. (h.backed, (minimal_backed v x a h.backed).0 h.minimal, h.undropped),
  λ h. record { backed = h.0; minimal = (minimal_backed v x a h.0).1 h.1; undropped = h.2 },
)

-- what is backed and minimal is listed, or its left is a listed key
pub listed_or_key : (v : View) → Equivalence v → (x a : ℕ) → (In row x → ⊥) → Backed v x → Minimal v x a
    → Listed v x a ⊎ Listed v x row
listed_or_key v eq x a low b m = at (decided (holds v x row))
  where
    at : T (holds v x row) ⊎ (T (holds v x row) → ⊥) → Listed v x a ⊎ Listed v x row
    at (inl t) =
        inr (record {
          backed = b;
          minimal = key_minimal v eq x a low ((holds_is v x row).0 t) m;
          undropped = inl refl;
        })
    at (inr n) = inl (record { backed = b; minimal = m; undropped = inr (λ k. n ((holds_is v x row).1 k)) })

-- a table without rows lists nothing
pub no_rows_unlisted : (l : Listing) (e : Entry) → (l.view e.target).rows ≡ 0 → Stands l e → ⊥
no_rows_unlisted l e none s = no_rows_unbacked (l.view e.target) e.left none s.listed.backed
