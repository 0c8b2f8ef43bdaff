-- The codes of a row, stored attribute by attribute.
use Prim.Native.Nat.{ℕ, ◌<◌}
use mathlib.Core.Path.{◌≡◌, sym, ap, ◌∙◌}
use mathlib.Core.List.{List, []}
use native.Mathlib.Decide.{ℕ_discrete}
use native.Mathlib.Omega.{arith}
use lib.ListN.{length, drop, get_or, set, replicate, length-set, length-replicate, get_or-replicate}
use lib.Seq.{get_or-set_same, get_or-set_other}
use Rattle.columns.specs.Test.{if_eq}
use Rattle.columns.specs.Bound.{column_bound}
use Rattle.columns.proofs.Test.{if_eq_yes, if_eq_no}
use Rattle.model.specs.Bounds.{missing}
use Rattle.model.specs.Forest.{value_or}
use Rattle.model.specs.Form.{number_in, capped, quoted_in, cells_in}
use Rattle.attributes.specs.Tags.{NextAttribute, Codes}
use Rattle.attributes.proofs.Digits.{capped_small, capped_is}
use Rattle.attributes.proofs.Tags.{passing_at, passing_done}

-- a loop that stores the codes of the tag from p on, at q: the attributes from q on change each as all do
pub record Storing (s : List ℕ) (p : ℕ) (codes : List ℕ) (q : ℕ) : Type 0 where
  pub size : length codes ≡ column_bound
  pub each : (k : ℕ) → k < column_bound
      → value_or k (get_or codes k 0) (cells_in (drop q s)) ≡ value_or k missing (cells_in (drop p s))

-- a column below the bound gets the code if its number is read, and else keeps its own
stored : (codes : List ℕ) (k n m x : ℕ) → k < length codes → k < missing → m ≡ capped n
    → get_or (set codes m x) k 0 ≡ if_eq n k x (get_or codes k 0)
stored codes k n m x h l e = at (ℕ_discrete m k)
  where
    at : Dec (m ≡ k) → get_or (set codes m x) k 0 ≡ if_eq n k x (get_or codes k 0)
    at (yes f) =
        ap (λ (j : ℕ). get_or (set codes j x) k 0) f ∙ get_or-set_same codes k x 0 h
        ∙ sym (if_eq_yes _ (capped_is e (omega arith) ∙ f))
    at (no f) =
        get_or-set_other codes m k x 0 (λ g. f (sym g))
        ∙ sym (if_eq_no x (λ g. f (e ∙ sym (capped_small (omega arith)) ∙ g)))

module _ (s : List ℕ) (p : ℕ) where
  pub storing_begun : Storing s p (replicate column_bound missing) p
  storing_begun =
      record {
        size = length-replicate column_bound missing;
        each = λ k h.
            ap (λ (x : ℕ). value_or k x (cells_in (drop p s))) (get_or-replicate column_bound k missing 0 h);
      }

  pub storing_more : {codes after : List ℕ} {q i m x : ℕ} → Storing s p codes q → NextAttribute s q i
      → m ≡ capped (number_in (drop i s)) → x ≡ capped (quoted_in (drop i s)) → after ≡ set codes m x
      → Storing s p after i
  unfolding value_or
  storing_more {codes} {after} {q} {i} {m} {x} w n e f g =
      record {
        size = ap length g ∙ length-set codes m x ∙ w.size;
        each = λ k l.
            ap (λ (y : ℕ). value_or k y (cells_in (drop i s)))
            (ap (λ (c : List ℕ). get_or c k 0) g
            ∙ stored codes k (number_in (drop i s)) m x (omega (arith, w.size)) (omega arith) e
            ∙ ap (λ (y : ℕ). if_eq (number_in (drop i s)) k y (get_or codes k 0)) f)
            ∙ passing_at (value_or k (get_or codes k 0)) s q n (w.each k l);
      }

  pub storing_done : {codes : List ℕ} {q : ℕ} → Storing s p codes q → cells_in (drop q s) ≡ []
      → Codes (cells_in (drop p s)) codes
  unfolding value_or
  storing_done {codes} {q} w h =
      record { size = w.size; each = λ k l. passing_done (value_or k (get_or codes k 0)) s q h (w.each k l) }
