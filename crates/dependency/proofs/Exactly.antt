-- What the two contracts say in the words of demand 2 and of document 02, a: an answered question is 'holds' exactly if
-- all rows that agree on the left agree on the right; the pair is 'none' exactly then, and otherwise the first breaking
-- pair.
use Prim.Native.Nat.{ℕ}
use mathlib.Core.Path.{◌≡◌, refl, sym, ap, ap₂, ◌∙◌}
use mathlib.Core.Logic.{◌↔◌}
use mathlib.Core.List.{List, [], ◌∷◌}
use mathlib.Core.Bool.{Bool, true, false}
use native.Mathlib.Omega.{arith}
use Rattle.std.specs.Prelude.{Result, Ok, Err, Option, Some, None}
use Rattle.columns.specs.Test.{pick}
use Rattle.model.specs.Question.{question_code, ask_meaning, pair_meaning}
use Rattle.model.specs.Reply.{answered, ask_reply, pair_reply}
use Rattle.model.specs.declared.Refusal.{Refusal}
use Rattle.model.specs.declared.RowPair.{RowPair}
use Rattle.model.specs.View.{Holds, holds}
use Rattle.model.specs.Pair.{FirstPair, first_pair}
use Rattle.model.specs.Target.{view}
use Rattle.model.proofs.View.{holds_true, true_holds}
use Rattle.model.proofs.Pair.{first_pair_is, first_exists_lem, none_holds}
use Rattle.model.proofs.Target.{view_equivalence}
use Rattle.dependency.proofs.Replies.{ask_meant, pair_meant}

-- two rows
abbrev pub row_pair : ℕ → ℕ → RowPair
row_pair p q = record { first = p; second = q }

-- there is a first breaking pair exactly if the dependency does not hold
pub pair_exists : (cat : List ℕ) (t x a : ℕ)
    → ((p : ℕ) × (q : ℕ) × FirstPair (view cat t) x a p q) ↔ (Holds (view cat t) x a → ⊥)
pair_exists cat t x a = first_exists_lem (view cat t) x a (view_equivalence cat t)

module _ (cat : List ℕ) (t x a w : ℕ) (z : question_code cat t x a w ≡ 0) where
  -- what is answered is the first pair's rows
  rows_told : {rows : List ℕ} → answered rows ≡ pair_meaning cat t x a w → first_pair (view cat t) x a ≡ rows
  rows_told {rows} m = let e = pair_meant cat t x a w z ∙ sym m in cc

  pub ask_exactly : (r : Result Bool Refusal) → ask_reply r ≡ ask_meaning cat t x a w → (r ≡ Ok true)
      ↔ Holds (view cat t) x a
  ask_exactly r e =
      (λ f. holds_true (view cat t) x a (said (holds (view cat t) x a) refl (ap ask_reply f)), λ h. at r e h)
    where
      meant : ask_reply r ≡ answered (pick (holds (view cat t) x a) 1 0 ∷ [])
      meant = e ∙ sym (ask_meant cat t x a w z)

      said : (h : Bool) → holds (view cat t) x a ≡ h → ask_reply r ≡ answered (1 ∷ []) → holds (view cat t) x a ≡ true
      said true f g = f
      said false f g =
          let k : answered (0 ∷ []) ≡ answered (1 ∷ []) =
          ap (λ (h : Bool). answered (pick h 1 0 ∷ [])) (sym f) ∙ sym meant ∙ g in
          let n : ◌≡◌ {A = ℕ} 0 1 = cc in
          absurd (omega arith)

      at : (r : Result Bool Refusal) → ask_reply r ≡ ask_meaning cat t x a w → Holds (view cat t) x a → r ≡ Ok true
      at (Ok true) e h = refl
      at (Ok false) e h =
          let k : answered (0 ∷ []) ≡ answered (1 ∷ []) =
          e ∙ sym (ask_meant cat t x a w z)
          ∙ ap (λ (h : Bool). answered (pick h 1 0 ∷ [])) (true_holds (view cat t) x a h) in
          let n : ◌≡◌ {A = ℕ} 0 1 = cc in
          absurd (omega arith)
      at (Err q) e h =
          let k = e ∙ sym (ask_meant cat t x a w z) in
          let n : ◌≡◌ {A = ℕ} 0 1 = cc in
          absurd (omega arith)

  -- the pair is 'none' exactly if the dependency holds, and two rows exactly if they are the first breaking pair
  pub pair_exactly : (r : Result (Option RowPair) Refusal) → pair_reply r ≡ pair_meaning cat t x a w → (r ≡ Ok None)
      ↔ Holds (view cat t) x a
  pair_exactly r m = (
    λ f. (none_holds (view cat t) x a (view_equivalence cat t)).0 (rows_told (ap pair_reply (sym f) ∙ m)),
    λ h.
        back r (m ∙ sym (pair_meant cat t x a w z)
        ∙ ap answered ((none_holds (view cat t) x a (view_equivalence cat t)).1 h)),
  )
    where
      back : (r : Result (Option RowPair) Refusal) → pair_reply r ≡ answered [] → r ≡ Ok None
      back (Ok (Some p)) e = let n : ◌≡◌ {A = ℕ} 0 1 = cc in absurd (omega arith)
      back (Ok None) e = refl
      back (Err q) e = let n : ◌≡◌ {A = ℕ} 0 1 = cc in absurd (omega arith)

  pub pair_first : (r : Result (Option RowPair) Refusal) (p q : ℕ) → pair_reply r ≡ pair_meaning cat t x a w → (r ≡ Ok (Some (row_pair p q)))
      ↔ FirstPair (view cat t) x a p q
  pair_first r p q m = (
    λ f. (first_pair_is (view cat t) x a p q).0 (rows_told (ap pair_reply (sym f) ∙ m)),
    λ h. back r (m ∙ sym (pair_meant cat t x a w z) ∙ ap answered ((first_pair_is (view cat t) x a p q).1 h)),
  )
    where
      back : (r : Result (Option RowPair) Refusal) → pair_reply r ≡ answered (p ∷ q ∷ []) → r ≡ Ok (Some (row_pair p q))
      back (Ok (Some m)) e =
          let f : m.first ≡ p = cc in
          let g : m.second ≡ q = cc in
          ap₂ (λ (p q : ℕ). Ok (Some (row_pair p q))) f g
      back (Ok None) e = let n : ◌≡◌ {A = ℕ} 0 1 = cc in absurd (omega arith)
      back (Err q) e = let n : ◌≡◌ {A = ℕ} 0 1 = cc in absurd (omega arith)
