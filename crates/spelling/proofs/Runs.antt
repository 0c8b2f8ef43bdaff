-- Bytes that all pass a test, as far as they go: white space and digits are such runs. P says of a word that all its
-- bytes pass.
use Prim.Native.Nat.{ℕ, zero, suc, ◌+◌, ◌-◌, ◌≤◌, ◌<◌}
use mathlib.Core.Path.{◌≡◌, refl, sym, ap, subst, ◌∙◌}
use mathlib.Core.Bool.{Bool, true, false, not}
use mathlib.Core.List.{List, [], ◌∷◌}
use native.Mathlib.Decide.{ℕ_discrete, dec_lt}
use native.Mathlib.Omega.{arith}
use lib.Dec.{T, T_not, not_T}
use lib.ListN.{length, get_or-eq_default}
use Rattle.model.proofs.First.{FirstThat, first_from_is}
use Rattle.model.proofs.Truth.{is_false, false_is, not_is}
use Rattle.model.specs.Bytes.{byte_at}
use Rattle.model.specs.First.{first_from}
use Rattle.readers.specs.Stands.{Stands}
use Rattle.spelling.proofs.Stands.{stands_none, stands_one, stands_join, stands_byte, stands_rest}

-- where the bytes from p on that pass end
abbrev pub run_end : (ℕ → Bool) → List ℕ → ℕ → ℕ
run_end test s p = first_from (λ i. not (test (byte_at s i))) (length s - p) p

module _ (test : ℕ → Bool) (s : List ℕ) (p : ℕ) where
  ends : FirstThat (λ i. not (test (byte_at s i))) (length s - p) p (run_end test s p)
  ends = first_from_is (λ i. not (test (byte_at s i))) (length s - p) p

  pub run_le : p ≤ run_end test s p
  run_le = ends.low

  pub run_high : run_end test s p ≤ p + (length s - p)
  run_high = ends.high

  -- the byte at the end does not pass, also past the end of the text
  pub run_stops : test 0 ≡ false → test (byte_at s (run_end test s p)) ≡ false
  run_stops z = at (dec_lt (run_end test s p) (p + (length s - p)))
    where
      at : Dec (run_end test s p < p + (length s - p)) → test (byte_at s (run_end test s p)) ≡ false
      at (yes l) = is_false ((not_is (test (byte_at s (run_end test s p)))).0 (ends.passes l))
      at (no l) = ap test (get_or-eq_default s 0 (omega arith)) ∙ z

  -- those before it do
  run_passes : (i : ℕ) → p ≤ i → i < run_end test s p → T (test (byte_at s i))
  run_passes i l m = at (test (byte_at s i)) refl
    where
      at : (t : Bool) → test (byte_at s i) ≡ t → T t
      at true e = tt
      at false e = ends.lowest i l m (not_T (test (byte_at s i)) (false_is e))

module _ (test : ℕ → Bool) (P : List ℕ → Type 0) where
  -- positions whose bytes all pass hold a word whose bytes do
  passing_stands : P [] → ((x : ℕ) (w : List ℕ) → T (test x) → P w → P (x ∷ w)) → (s : List ℕ) (n p r : ℕ)
      → r ≡ p + n → r ≤ length s → ((i : ℕ) → p ≤ i → i < r → T (test (byte_at s i)))
      → (w : List ℕ) × P w × Stands s p w r
  passing_stands none more s zero p r e l f =
      ([], none, subst (λ (q : ℕ). Stands s p [] q) {x = p} (omega arith) (stands_none s p (omega arith)))
  passing_stands none more s (suc n) p r e l f =
      let k = passing_stands none more s n (p + 1) r (omega arith) l (λ i a b. f i (omega arith) b) in (
        byte_at s p ∷ k.0,
        more (byte_at s p) k.0 (f p (omega arith) (omega arith)) k.1,
        stands_join (stands_one s p (omega arith)) k.2,
      )

  -- and the other way
  stands_passing : ((x : ℕ) (w : List ℕ) → P (x ∷ w) → T (test x) × P w) → {s : List ℕ} {p : ℕ} (w : List ℕ) {q : ℕ}
      → Stands s p w q → P w → (i : ℕ) → p ≤ i → i < q → T (test (byte_at s i))
  stands_passing split [] h all i a b = absurd (omega arith)
  stands_passing split {s} {p} (x ∷ w) {q} h all i a b =
      at (ℕ_discrete i p) (stands_passing split {p = p + 1} w (stands_rest h) (split x w all).1)
    where
      at : Dec (i ≡ p) → ((j : ℕ) → p + 1 ≤ j → j < q → T (test (byte_at s j))) → T (test (byte_at s i))
      at (yes e) f = subst (λ (y : ℕ). T (test y)) (sym (ap (byte_at s) e ∙ stands_byte h)) (split x w all).0
      at (no n) f = f i (omega arith) b

  -- a word whose bytes pass, with one behind it that does not, ends where the run does
  pub run_complete : ((x : ℕ) (w : List ℕ) → P (x ∷ w) → T (test x) × P w) → {s : List ℕ} {p : ℕ} {w : List ℕ} {q : ℕ}
      → Stands s p w q → P w → test (byte_at s q) ≡ false → run_end test s p ≡ q
  run_complete split {s} {p} {w} {q} h all e = at (dec_lt (run_end test s p) q) (dec_lt q (run_end test s p))
    where
      at : Dec (run_end test s p < q) → Dec (q < run_end test s p) → run_end test s p ≡ q
      at (yes l) d =
          let m = h.within in
          absurd (T_not (test (byte_at s (run_end test s p))) ((ends test s p).passes (omega arith))
          (stands_passing split w h all (run_end test s p) (run_le test s p) l))
      at (no n) (yes l) = absurd (false_is e (run_passes test s p q (omega arith) l))
      at (no n) (no m) = omega arith

  -- what stands up to the end of the run
  pub run_sound : P [] → ((x : ℕ) (w : List ℕ) → T (test x) → P w → P (x ∷ w)) → (s : List ℕ) (p : ℕ) → p ≤ length s
      → (w : List ℕ) × P w × Stands s p w (run_end test s p)
  run_sound none more s p l =
      let low = run_le test s p in
      let high = run_high test s p in
      passing_stands none more s (run_end test s p - p) p (run_end test s p) (omega arith) (omega arith)
      (run_passes test s p)
