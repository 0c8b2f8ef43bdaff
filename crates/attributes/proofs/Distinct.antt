-- No attribute twice: those seen so far, and one attribute after the other.
use Prim.Native.Nat.{ℕ, ◌≤◌, ◌<◌}
use mathlib.Core.Path.{◌≡◌, refl, sym, ap, ap₂, ◌∙◌}
use mathlib.Core.Bool.{Bool, true, false, ◌&&◌, not}
use mathlib.Core.List.{List, [], ◌∷◌}
use native.Mathlib.Decide.{dec_lt, ℕ_discrete}
use native.Mathlib.Omega.{arith}
use lib.Dec.{eqb}
use lib.ListN.{length, drop, get_or, set, replicate, length-set, length-replicate, get_or-replicate, get_or-eq_default}
use lib.Seq.{get_or-set_same, get_or-set_other}
use borrow.Author.Tests.{eq-eqb, ne_eqb}
use Rattle.columns.specs.Bound.{column_bound}
use Rattle.model.specs.Forest.{Cells}
use Rattle.model.specs.Xml.{is_fresh}
use Rattle.model.specs.Form.{number_in, capped, cells_in, is_distinct}
use Rattle.attributes.specs.Tags.{cells_at, NextAttribute, unseen, distinct_beside, Noted}
use Rattle.attributes.proofs.Digits.{capped_is, capped_least}
use Rattle.attributes.proofs.Tags.{passing_at, passing_done}

-- conjunctions in another order
swap : (f z n : Bool) → z && (f && n) ≡ f && (z && n)
swap true z n = refl
swap false true n = refl
swap false false n = refl

regroup : (f d n : Bool) → (f && d) && n ≡ f && (d && n)
regroup true d n = refl
regroup false d n = refl

sorted : (f d z u : Bool) → (f && d) && (z && u) ≡ z && (d && (f && u))
sorted f d z u =
    regroup f d (z && u) ∙ ap (λ (b : Bool). f && b) (swap z d u) ∙ sym (swap f z (d && u))
    ∙ ap (λ (b : Bool). z && b) (swap d f u)

true_after : (b : Bool) → b && true ≡ b
true_after true = refl
true_after false = refl

not_not : (b : Bool) → not (not b) ≡ b
not_not true = refl
not_not false = refl

-- the attribute at p is of column k, or those behind it decide
pub fresh_by : (s : List ℕ) (p k : ℕ) {r t : Bool} → r ≡ eqb (number_in (drop p s)) k → r ≡ t
    → is_fresh k (cells_at s p) ≡ not t && is_fresh k (cells_in (drop p s))
fresh_by s p k e h = ap (λ (b : Bool). not b && is_fresh k (cells_in (drop p s))) (sym e ∙ h)

-- where nothing is seen, there is none of it
clear_at : (n k : ℕ) → get_or (replicate n false) k false ≡ false
clear_at n k = at (dec_lt k n)
  where
    at : Dec (k < n) → get_or (replicate n false) k false ≡ false
    at (yes h) = get_or-replicate n k false false h
    at (no h) = get_or-eq_default (replicate n false) false (rw (length-replicate {A = Bool} n false) (omega arith))

unseen_clear : (n : ℕ) (cs : Cells) → unseen (replicate n false) cs ≡ true
unfolding unseen
unseen_clear n [] = refl
unseen_clear n (c ∷ cs) = ap₂ ◌&&◌ (ap not (clear_at n c.0)) (unseen_clear n cs)

distinct_clear : (n : ℕ) (cs : Cells) → distinct_beside (replicate n false) cs ≡ is_distinct cs
unfolding distinct_beside
distinct_clear n cs = ap (λ (b : Bool). is_distinct cs && b) (unseen_clear n cs) ∙ true_after (is_distinct cs)

-- one column more is seen
unseen_more : (seen : List Bool) (k : ℕ) → k < length seen → (cs : Cells)
    → unseen (set seen k true) cs ≡ is_fresh k cs && unseen seen cs
unfolding unseen
unseen_more seen k h [] = refl
unseen_more seen k h (c ∷ cs) = at (ℕ_discrete c.0 k) (unseen_more seen k h cs)
  where
    decided : Bool → Bool
    decided b = (not b && is_fresh k cs) && (not (get_or seen c.0 false) && unseen seen cs)

    at : Dec (c.0 ≡ k) → unseen (set seen k true) cs ≡ is_fresh k cs && unseen seen cs
        → not (get_or (set seen k true) c.0 false) && unseen (set seen k true) cs
        ≡ decided (eqb c.0 k)
    at (yes e) r =
        ap (λ (x : Bool). not x && unseen (set seen k true) cs)
        (ap (λ (j : ℕ). get_or (set seen k true) j false) e ∙ get_or-set_same seen k true false h)
        ∙ sym (ap decided (eq-eqb _ k e))
    at (no e) r =
        ap₂ (λ (x : Bool) (b : Bool). not x && b) (get_or-set_other seen k c.0 true false e) r
        ∙ swap (is_fresh k cs) (not (get_or seen c.0 false)) (unseen seen cs)
        ∙ sym (ap decided (ne_eqb _ k e))

-- the answer on one attribute: a high column is looked for in the rest, and a low one among those seen
module _ (s : List ℕ) (p : ℕ) (seen : List Bool) where
  pub noted_high : {k : ℕ} {r : Bool} → length seen ≡ column_bound → k ≡ capped (number_in (drop p s))
      → column_bound ≤ k
      → r ≡ not (is_fresh (number_in (drop p s)) (cells_in (drop p s))) → Noted s p seen seen r
  unfolding distinct_beside is_distinct unseen
  noted_high l e h a =
      let n = number_in (drop p s) in
      let cs = cells_in (drop p s) in
      let out : length seen ≤ n = omega (arith, capped_least e (omega arith) h) in
      record {
        same_length = refl;
        decides =
            ap (λ (x : Bool). (is_fresh n cs && is_distinct cs) && (not x && unseen seen cs))
            (get_or-eq_default seen false out)
            ∙ regroup (is_fresh n cs) (is_distinct cs) (unseen seen cs)
            ∙ ap (λ (b : Bool). b && (is_distinct cs && unseen seen cs)) (sym (ap not a ∙ not_not (is_fresh n cs)));
      }

  pub noted_low : {k : ℕ} {r : Bool} → length seen ≡ column_bound → k ≡ capped (number_in (drop p s)) → k < column_bound
      → r ≡ get_or seen k false → Noted s p seen (set seen k true) r
  unfolding distinct_beside is_distinct unseen
  noted_low {k} {r} l e h a =
      record {
        same_length = length-set seen k true;
        decides =
            ap at (capped_is e (omega arith)) ∙ sorted f d z u
            ∙ ap₂ (λ (x y : Bool). x && (d && y)) (sym (ap not a))
            (sym (unseen_more seen k (omega arith) cs));
      }
    where
      cs : Cells
      cs = cells_in (drop p s)

      f : Bool
      f = is_fresh k cs

      d : Bool
      d = is_distinct cs

      z : Bool
      z = not (get_or seen k false)

      u : Bool
      u = unseen seen cs

      at : ℕ → Bool
      at n = (is_fresh n cs && d) && (not (get_or seen n false) && u)

-- a loop over the attributes of the tag from p on, at q: those from q on, beside the seen ones, decide
pub record Sifting (s : List ℕ) (p : ℕ) (seen : List Bool) (q : ℕ) : Type 0 where
  pub size : length seen ≡ column_bound
  pub decides : distinct_beside seen (cells_in (drop q s)) ≡ is_distinct (cells_in (drop p s))

module _ (s : List ℕ) (p : ℕ) where
  pub sifting_begun : Sifting s p (replicate column_bound false) p
  sifting_begun =
      record {
        size = length-replicate {A = Bool} column_bound false;
        decides = distinct_clear column_bound (cells_in (drop p s));
      }

  module _ {seen after : List Bool} {q i : ℕ} {r : Bool} (w : Sifting s p seen q) (n : NextAttribute s q i)
      (a : Noted s i seen after r) where
    answer : {t : Bool} → r ≡ t
        → not t && distinct_beside after (cells_in (drop i s)) ≡ is_distinct (cells_in (drop p s))
    answer e =
        sym (a.decides ∙ ap (λ (b : Bool). not b && distinct_beside after (cells_in (drop i s))) e)
        ∙ passing_at (distinct_beside seen) s q n w.decides

    pub sifting_twice : r ≡ true → false ≡ is_distinct (cells_in (drop p s))
    sifting_twice e = answer e

    pub sifting_more : r ≡ false → Sifting s p after i
    sifting_more e = record { size = a.same_length ∙ w.size; decides = answer e }

  pub sifting_done : {seen : List Bool} {q : ℕ} → Sifting s p seen q → cells_in (drop q s) ≡ []
      → true ≡ is_distinct (cells_in (drop p s))
  unfolding distinct_beside is_distinct unseen
  sifting_done {seen} {q} w h = passing_done (distinct_beside seen) s q h w.decides
