-- The plane of a right from the seeds: each word is selected and closed by itself, then the words are closed over the
-- columns from the fifth on.
use Prim.Native.Nat.{ℕ, ◌+◌, ◌-◌, ◌*◌, ◌/◌, ◌%◌, ◌^◌, ◌≤◌, ◌<◌}
use mathlib.Core.Path.{◌≡◌, ap, ◌∙◌}
use mathlib.Core.List.{List}
use native.Mathlib.Omega.{arith}
use borrow.Author.Count.{below_more}
use lib.ListN.{length, set}
use lib.Seq.{get_or-set_same, get_or-set_other}
use Rattle.columns.specs.Set.{bit}
use Rattle.table.specs.Words.{word, Above, Closed}
use Rattle.planes.specs.Bits.{SelectedWord, ClosedWord, PlaneFrom}
use Rattle.planes.proofs.Bits.{power_words, above_high, above_low, above_parts, plane_bit_parts}

-- the word at y selected and closed by itself
pub record FromWord (a y before after : ℕ) : Type 0 where
  pub sound : (x : ℕ) → x < 32 → bit after x ≡ 1
      → (s : ℕ) × (s < 32) × Above x s × (bit (y * 32 + s) a ≡ 0) × (bit before s ≡ 1)
  pub complete : (x s : ℕ) → x < 32 → s < 32 → Above x s → bit (y * 32 + s) a ≡ 0 → bit before s ≡ 1
      → bit after x ≡ 1

pub from_word : (a y before mid after : ℕ) → SelectedWord y a before mid → ClosedWord mid after
    → FromWord a y before after
from_word a y before mid after select close =
    record {
      sound = λ x l e.
          let f = close.sound x l e in
          let b = f.3 in
          (f.0, f.1, f.2, omega (arith, select f.0 f.1), omega (arith, select f.0 f.1));
      complete = λ x s l m up z e. close.complete x s l m up (omega (arith, select s m));
    }

-- the words below i are
abbrev pub FilledBelow : ℕ → ℕ → List ℕ → List ℕ → Type 0
FilledBelow a i seeds plane = (y : ℕ) → y < i → FromWord a y (word seeds y) (word plane y)

pub filling_more : (a i mid new : ℕ) (seeds plane : List ℕ) → i < length plane → SelectedWord i a (word seeds i) mid
    → ClosedWord mid new → FilledBelow a i seeds plane → FilledBelow a (i + 1) seeds (set plane i new)
filling_more a i mid new seeds plane l select close f =
    below_more _ _ (λ y m. rw (get_or-set_other plane i y new 0 (λ u. omega arith)) (f y m))
    (rw (get_or-set_same plane i new 0 l) (from_word a i (word seeds i) mid new select close))

-- and closed over the words
pub filled : (n a : ℕ) (seeds mid plane : List ℕ) → 5 ≤ n
    → ((y : ℕ) → y < 2 ^ (n - 5) → FromWord a y (word seeds y) (word mid y)) → Closed (n - 5) mid plane
    → PlaneFrom n a seeds plane
filled n a seeds mid plane h from close =
    record {
      sound = λ x l e.
          let f = close.sound (x / 32) (x % 32) (inside x l) e in
          let t = f.0 in
          let g = (from t f.1).sound (x % 32) (omega arith) f.3 in
          let s = g.0 in
          let lt = f.1 in
          let ls = g.1 in (
            t * 32 + s,
            omega (arith, power_words n h),
            above_parts x t s ls f.2 g.2,
            g.3,
            plane_bit_parts seeds t s ls ∙ g.4,
          );
      complete = λ x s l m up z e.
          close.complete (x / 32) (s / 32) (x % 32) (inside x l) (inside s m) (above_high x s up)
          ((from (s / 32) (inside s m)).complete (x % 32) (s % 32) (omega arith) (omega arith) (above_low x s up)
          (ap (λ (y : ℕ). bit y a) (whole s) ∙ z) e);
    }
  where
    inside : (x : ℕ) → x < 2 ^ n → x / 32 < 2 ^ (n - 5)
    inside x l = omega (arith, power_words n h)

    whole : (s : ℕ) → s / 32 * 32 + s % 32 ≡ s
    whole s = omega arith
