-- Laws of one listing call, over any list of cells: what stands below a place, how many sets a call passes and what it
-- writes, step by step for the code that walks the cells, and the four outcomes of its grounds for refusal.
use Prim.Native.Nat.{ℕ, zero, suc, ◌+◌, ◌-◌, ◌≤◌, ◌<◌, zero-le}
use mathlib.Core.Path.{◌≡◌, refl, sym, ap, ◌∙◌}
use mathlib.Core.Logic.{◌⊎◌, inl, inr, ⊎_elim}
use mathlib.Core.List.{List, [], ◌∷◌, ◌++◌, append_assoc}
use native.Mathlib.Nat.{le_refl}
use native.Mathlib.Decide.{dec_le}
use native.Mathlib.Omega.{arith}
use lib.ListN.{length, take, drop, get_or, length-append, length-drop}
use lib.Seq.{take-add, drop-cons}
use Rattle.columns.proofs.Test.{if_eq_yes, if_eq_no, if_lt_yes, if_lt_no, if_le_yes, if_le_no}
use Rattle.model.specs.Bounds.{work_bound}
use Rattle.model.specs.Refusal.{number}
use Rattle.model.specs.Question.{words_code}
use Rattle.model.specs.Calls.{flat, passed, written, place_code, room_code, call_code}
use Rattle.model.specs.declared.Refusal.TheVariants.{TooFewWords, PastTheEnd, RunTooShort}
use Rattle.model.proofs.Grounds.{or_else_next, or_else_first}

-- one number is at most another, or above it
pub le_or_lt : (a b : ℕ) → (a ≤ b) ⊎ (b < a)
le_or_lt a b = go (dec_le a b)
  where
    go : Dec (a ≤ b) → (a ≤ b) ⊎ (b < a)
    go (yes h) = inl h
    go (no n) = inr (omega (arith, n))

-- no set, no entry
pub passed_nil : (A : Type 0) (g r : ℕ) → passed {A = A} g r [] ≡ 0
unfolding passed
passed_nil A g r = refl

pub written_nil : (A : Type 0) (g r : ℕ) → written {A = A} g r [] ≡ []
unfolding written passed
written_nil A g r = refl

module _ {A : Type 0} where
  -- the cells of two lists, one after the other
  pub flat_append : (xs ys : List (List A)) → flat (xs ++ ys) ≡ flat xs ++ flat ys
  flat_append [] ys = refl
  flat_append (x ∷ xs) ys = ap (λ (l : List A). x ++ l) (flat_append xs ys) ∙ sym (append_assoc x (flat xs) (flat ys))

  -- below place p + k stands what stands below p, and then the entries of the k sets from p on
  pub flat_take_add : (p k : ℕ) (cs : List (List A))
      → flat (take (p + k) cs) ≡ flat (take p cs) ++ flat (take k (drop p cs))
  flat_take_add p k cs = ap flat (take-add p k cs) ∙ flat_append (take p cs) (take k (drop p cs))

  -- it does not get shorter with the place
  pub flat_take_mono : (j k : ℕ) (cs : List (List A)) → j ≤ k → length (flat (take j cs)) ≤ length (flat (take k cs))
  flat_take_mono zero k cs h = zero-le
  flat_take_mono (suc j) zero cs h = absurd (omega arith)
  flat_take_mono (suc j) (suc k) [] h = zero-le
  flat_take_mono (suc j) (suc k) (c ∷ cs) h =
      let ih : length (flat (take j cs)) ≤ length (flat (take k cs)) = flat_take_mono j k cs (omega arith) in
      simp length-append (omega arith)

  pub flat_take_le : (k : ℕ) (cs : List (List A)) → length (flat (take k cs)) ≤ length (flat cs)
  flat_take_le zero cs = zero-le
  flat_take_le (suc k) [] = zero-le
  flat_take_le (suc k) (c ∷ cs) =
      let ih : length (flat (take k cs)) ≤ length (flat cs) = flat_take_le k cs in
      simp length-append (omega arith)

  pub flat_drop_le : (k : ℕ) (cs : List (List A)) → length (flat (drop k cs)) ≤ length (flat cs)
  flat_drop_le zero cs = le_refl _
  flat_drop_le (suc k) [] = zero-le
  flat_drop_le (suc k) (c ∷ cs) =
      let ih : length (flat (drop k cs)) ≤ length (flat cs) = flat_drop_le k cs in
      rw length-append (omega arith)

  -- one set has no more entries than all
  pub cell_le : (p : ℕ) (cs : List (List A)) → length (get_or cs p []) ≤ length (flat cs)
  cell_le p [] = zero-le
  cell_le zero (c ∷ cs) = simp length-append (omega arith)
  cell_le (suc p) (c ∷ cs) =
      let ih : length (get_or cs p []) ≤ length (flat cs) = cell_le p cs in
      simp length-append (omega arith)

  -- the sets passed, step by step: no set is left, no budget is left, the next does not fit, the next fits
  pub passed_end : (g r : ℕ) (cs : List (List A)) → length cs ≡ 0 → passed g r cs ≡ 0
  passed_end g r [] e = passed_nil A g r
  passed_end g r (c ∷ cs) e = absurd (omega arith)

  pub passed_spent : (r : ℕ) (cs : List (List A)) → passed 0 r cs ≡ 0
  unfolding passed
  passed_spent r [] = refl
  passed_spent r (c ∷ cs) = if_eq_yes _ refl

  pub passed_full : (g r : ℕ) (c : List A) (cs : List (List A)) → r < length c → passed g r (c ∷ cs) ≡ 0
  unfolding passed
  passed_full zero r c cs h = if_eq_yes _ refl
  passed_full (suc g) r c cs h = if_eq_no 0 (λ e. omega arith) ∙ if_le_no _ h

  pub passed_fit : (g r : ℕ) (c : List A) (cs : List (List A)) → 0 < g → length c ≤ r
      → passed g r (c ∷ cs) ≡ suc (passed (g - 1) (r - length c) cs)
  unfolding passed
  passed_fit g r c cs l h = if_eq_no 0 (λ e. omega arith) ∙ if_le_yes 0 h

  -- and what is written for them
  pub written_end : (g r : ℕ) (cs : List (List A)) → length cs ≡ 0 → written g r cs ≡ []
  unfolding written
  written_end g r cs e = rw (passed_end g r cs e)

  pub written_spent : (r : ℕ) (cs : List (List A)) → written 0 r cs ≡ []
  unfolding written
  written_spent r cs = rw (passed_spent r cs)

  pub written_full : (g r : ℕ) (c : List A) (cs : List (List A)) → r < length c → written g r (c ∷ cs) ≡ []
  unfolding written
  written_full g r c cs h = rw (passed_full g r c cs h)

  pub written_fit : (g r : ℕ) (c : List A) (cs : List (List A)) → 0 < g → length c ≤ r
      → written g r (c ∷ cs) ≡ c ++ written (g - 1) (r - length c) cs
  unfolding written
  written_fit g r c cs l h = rw (passed_fit g r c cs l h)

  -- the same from a place on
  pub passed_end_at : (g r p : ℕ) (cs : List (List A)) → length cs ≤ p → passed g r (drop p cs) ≡ 0
  passed_end_at g r p cs h = passed_end g r (drop p cs) (length-drop p cs ∙ omega arith)

  pub passed_fit_at : (g r p : ℕ) (cs : List (List A)) → p < length cs → 0 < g → length (get_or cs p []) ≤ r
      → passed g r (drop p cs) ≡ suc (passed (g - 1) (r - length (get_or cs p [])) (drop (suc p) cs))
  passed_fit_at g r p cs l b h =
      ap (passed g r) (drop-cons cs p [] l) ∙ passed_fit g r (get_or cs p []) (drop (suc p) cs) b h

  pub written_end_at : (g r p : ℕ) (cs : List (List A)) → length cs ≤ p → written g r (drop p cs) ≡ []
  written_end_at g r p cs h = written_end g r (drop p cs) (length-drop p cs ∙ omega arith)

-- the grounds, one by one
pub words_few : (w : ℕ) → w < work_bound → words_code w ≡ number TooFewWords
unfolding words_code
words_few w h = if_lt_yes 0 h

pub words_enough : (w : ℕ) → work_bound ≤ w → words_code w ≡ 0
unfolding words_code
words_enough w h = if_lt_no (number TooFewWords) h

pub place_past : (last p : ℕ) → last < p → place_code last p ≡ number PastTheEnd
unfolding place_code
place_past last p h = if_lt_yes 0 h

pub place_in : (last p : ℕ) → p ≤ last → place_code last p ≡ 0
unfolding place_code
place_in last p h = if_lt_no (number PastTheEnd) h

module _ {A : Type 0} where
  room_full : (g r : ℕ) (c : List A) (cs : List (List A)) → 0 < g → r < length c
      → room_code g r (c ∷ cs) ≡ number RunTooShort
  unfolding room_code
  room_full g r c cs b h = if_eq_no 0 (λ e. omega arith) ∙ if_lt_yes 0 h

  room_fit : (g r : ℕ) (c : List A) (cs : List (List A)) → (0 < g → length c ≤ r) → room_code g r (c ∷ cs) ≡ 0
  unfolding room_code
  room_fit zero r c cs h = if_eq_yes _ refl
  room_fit (suc g) r c cs h = if_eq_no 0 (λ e. omega arith) ∙ if_lt_no _ (h (omega arith))

  room_end : (g r : ℕ) (cs : List (List A)) → length cs ≡ 0 → room_code g r cs ≡ 0
  unfolding room_code
  room_end g r [] e = refl
  room_end g r (c ∷ cs) e = absurd (omega arith)

  pub room_short_at : (g r p : ℕ) (cs : List (List A)) → p < length cs → 0 < g → r < length (get_or cs p [])
      → room_code g r (drop p cs) ≡ number RunTooShort
  room_short_at g r p cs l b h =
      ap (room_code g r) (drop-cons cs p [] l) ∙ room_full g r (get_or cs p []) (drop (suc p) cs) b h

  pub room_fit_at : (g r p : ℕ) (cs : List (List A)) → (p < length cs → 0 < g → length (get_or cs p []) ≤ r)
      → room_code g r (drop p cs) ≡ 0
  room_fit_at g r p cs h = ⊎_elim at_end inside (le_or_lt (length cs) p)
    where
      at_end : length cs ≤ p → room_code g r (drop p cs) ≡ 0
      at_end l = room_end g r (drop p cs) (length-drop p cs ∙ omega arith)

      inside : p < length cs → room_code g r (drop p cs) ≡ 0
      inside l = ap (room_code g r) (drop-cons cs p [] l) ∙ room_fit g r (get_or cs p []) (drop (suc p) cs) (h l)

  -- the first ground against a call, in each of the four cases
  pub call_few : (cs : List (List A)) (p g r w : ℕ) → w < work_bound → call_code cs p g r w ≡ number TooFewWords
  unfolding call_code
  call_few cs p g r w h = rw (words_few w h) (or_else_first _ (λ e. omega arith))

  pub call_past : (cs : List (List A)) (p g r w : ℕ) → work_bound ≤ w → length cs < p
      → call_code cs p g r w ≡ number PastTheEnd
  unfolding call_code
  call_past cs p g r w h l =
      rw (words_enough w h, place_past (length cs) p l)
      (or_else_next _ refl ∙ or_else_first _ (λ e. omega arith))

  pub call_short : (cs : List (List A)) (p g r w : ℕ) → work_bound ≤ w → p < length cs → 0 < g
      → r < length (get_or cs p []) → call_code cs p g r w ≡ number RunTooShort
  unfolding call_code
  call_short cs p g r w h l b s =
      rw (words_enough w h, place_in (length cs) p (omega arith), room_short_at g r p cs l b s)
      (or_else_next _ refl ∙ or_else_next _ refl)

  pub call_none : (cs : List (List A)) (p g r w : ℕ) → work_bound ≤ w → p ≤ length cs
      → (p < length cs → 0 < g → length (get_or cs p []) ≤ r) → call_code cs p g r w ≡ 0
  unfolding call_code
  call_none cs p g r w h l f =
      rw (words_enough w h, place_in (length cs) p l, room_fit_at g r p cs f)
      (or_else_next _ refl ∙ or_else_next _ refl)

-- the four cases together, about the code of a call
pub data Outcome {A : Type 0} (cs : List (List A)) (p g r w code : ℕ) : Type 0 where
  few : code ≡ number TooFewWords → w < work_bound → Outcome cs p g r w code
  past : code ≡ number PastTheEnd → work_bound ≤ w → length cs < p → Outcome cs p g r w code
  short : code ≡ number RunTooShort → work_bound ≤ w → p < length cs → 0 < g → r < length (get_or cs p [])
      → Outcome cs p g r w code
  none : code ≡ 0 → work_bound ≤ w → p ≤ length cs → (p < length cs → 0 < g → length (get_or cs p []) ≤ r)
      → Outcome cs p g r w code

pub outcome : {A : Type 0} (cs : List (List A)) (p g r w : ℕ) → Outcome cs p g r w (call_code cs p g r w)
outcome cs p g r w =
    ⊎_elim (λ h. ⊎_elim (λ l. inside h l) (λ l. past (call_past cs p g r w h l) h l) (le_or_lt p (length cs)))
    (λ h. few (call_few cs p g r w h) h) (le_or_lt work_bound w)
  where
    fits : work_bound ≤ w → p ≤ length cs → (p < length cs → 0 < g → length (get_or cs p []) ≤ r)
        → Outcome cs p g r w (call_code cs p g r w)
    fits h l f = none (call_none cs p g r w h l f) h l f

    budgeted : work_bound ≤ w → p < length cs → 0 < g → Outcome cs p g r w (call_code cs p g r w)
    budgeted h l b =
        ⊎_elim (λ f. fits h (omega arith) (λ _ _. f)) (λ s. short (call_short cs p g r w h l b s) h l b s)
        (le_or_lt (length (get_or cs p [])) r)

    below : work_bound ≤ w → p < length cs → Outcome cs p g r w (call_code cs p g r w)
    below h l = ⊎_elim (λ z. fits h (omega arith) (λ _ b. absurd (omega arith))) (budgeted h l) (le_or_lt g 0)

    inside : work_bound ≤ w → p ≤ length cs → Outcome cs p g r w (call_code cs p g r w)
    inside h l = ⊎_elim (λ e. fits h l (λ b _. absurd (omega arith))) (below h) (le_or_lt (length cs) p)
