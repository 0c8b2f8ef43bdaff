-- Marks on a plane: one set more, none, a plane without any, and what marks say once closed; and that each set has its
-- place in the words.
use Prim.Native.Nat.{ℕ, ◌/◌, ◌%◌, ◌^◌, ◌<◌, ◌≤◌}
use mathlib.Core.Path.{◌≡◌, sym, ap, subst, ◌∙◌}
use mathlib.Core.Logic.{◌↔◌, ◌⊎◌, inl, inr}
use mathlib.Core.List.{List}
use native.Mathlib.Decide.{ℕ_discrete}
use native.Mathlib.Omega.{arith}
use lib.ListN.{length, set, replicate, length-replicate}
use lib.Seq.{get_or-set_same, get_or-set_other}
use lib.Bits.{bit_or}
use Rattle.columns.specs.Bound.{column_bound}
use Rattle.columns.specs.Set.{bit}
use Rattle.columns.proofs.Bits.{bit_past}
use Rattle.table.specs.Words.{word, Above}
use Rattle.table.proofs.Bits.{bit_none, bit_with_same, bit_with_other, word_blank}
use Rattle.planes.specs.Bits.{plane_bit, PlaneFrom}
use Rattle.planes.proofs.Bits.{power_words, seed_words_small}
use Rattle.planes.specs.Marks.{Marked, RoomFor}

-- one set more: its mark is set, and those of other sets stay
module _ (plane : List ℕ) (x : ℕ) (h : x / 32 < length plane) where
  after : List ℕ
  after = set plane (x / 32) (bit_or (word plane (x / 32)) (2 ^ (x % 32)))

  here : word after (x / 32) ≡ bit_or (word plane (x / 32)) (2 ^ (x % 32))
  unfolding after
  here = get_or-set_same plane (x / 32) (bit_or (word plane (x / 32)) (2 ^ (x % 32))) 0 h

  same : plane_bit after x ≡ 1
  same = ap (λ (w : ℕ). bit w (x % 32)) here ∙ bit_with_same (word plane (x / 32)) (x % 32)

  other : (y : ℕ) → (y ≡ x → ⊥) → plane_bit after y ≡ plane_bit plane y
  unfolding after
  other y n = at (ℕ_discrete (y / 32) (x / 32))
    where
      at : Dec (y / 32 ≡ x / 32)
          → plane_bit (set plane (x / 32) (bit_or (word plane (x / 32)) (2 ^ (x % 32)))) y ≡ plane_bit plane y
      at (yes e) =
          ap (λ (i : ℕ). bit (word (set plane (x / 32) (bit_or (word plane (x / 32)) (2 ^ (x % 32)))) i) (y % 32)) e
          ∙ ap (λ (w : ℕ). bit w (y % 32)) here
          ∙ bit_with_other (word plane (x / 32)) (y % 32) (x % 32) (λ f. n (omega arith))
          ∙ ap (λ (i : ℕ). bit (word plane i) (y % 32)) (sym e)
      at (no d) =
          ap (λ (w : ℕ). bit w (y % 32))
          (get_or-set_other plane (x / 32) (y / 32) (bit_or (word plane (x / 32)) (2 ^ (x % 32))) 0 d)

  pub marked_one : (p : ℕ) → p ≡ 2 ^ (x % 32)
      → Marked (λ y. y ≡ x) plane (set plane (x / 32) (bit_or (word plane (x / 32)) p))
  unfolding after
  marked_one p e =
      subst (λ (q : ℕ). Marked (λ y. y ≡ x) plane (set plane (x / 32) (bit_or (word plane (x / 32)) q))) (sym e)
      (record {
        marks = λ y. (
          λ b. at y b (ℕ_discrete y x),
          elim [ inl b ↦ kept y b (ℕ_discrete y x) | inr s ↦ ap (plane_bit after) s ∙ same ],
        );
      })
    where
      at : (y : ℕ) → plane_bit after y ≡ 1 → Dec (y ≡ x) → (plane_bit plane y ≡ 1) ⊎ (y ≡ x)
      at y b (yes s) = inr s
      at y b (no n) = inl (sym (other y n) ∙ b)

      kept : (y : ℕ) → plane_bit plane y ≡ 1 → Dec (y ≡ x) → plane_bit after y ≡ 1
      kept y b (yes s) = ap (plane_bit after) s ∙ same
      kept y b (no n) = other y n ∙ b

-- nothing more is marked
pub marked_none : {Wanted : ℕ → Type 0} (plane : List ℕ) → ((y : ℕ) → Wanted y → ⊥) → Marked Wanted plane plane
marked_none plane n = record { marks = λ y. (λ b. inl b, elim [ inl b ↦ b | inr w ↦ absurd (n y w) ]) }

-- one set, that is wanted for a reason
pub marked_for : {Reason : Type 0} (x z : ℕ) (before after : List ℕ) → Reason → x ≡ z
    → Marked (λ y. y ≡ x) before after → Marked (λ y. Reason × (y ≡ z)) before after
marked_for x z before _ reason e m =
    record {
      marks = λ y. (
        λ b. elim ((m.marks y).0 b) [ inl p ↦ inl p | inr i ↦ inr (reason, i ∙ e) ],
        elim [ inl p ↦ (m.marks y).1 (inl p) | inr w ↦ (m.marks y).1 (inr (w.1 ∙ sym e)) ],
      );
    }

-- each set has its place in the words of a plane
pub place_inside : (m x : ℕ) (plane : List ℕ) → RoomFor m plane → x < 2 ^ m → x / 32 < length plane
place_inside m x plane r l = let f = r.fits in omega (arith, power_words m r.word)

pub room_kept : {m : ℕ} {before after : List ℕ} → length after ≡ length before → RoomFor m before → RoomFor m after
room_kept e r = let f = r.fits in record { word = r.word; few = r.few; fits = omega arith }

-- a plane without marks, of as many words as `planes::PLANE` says
pub blank_plane : (n y : ℕ) → plane_bit (replicate n 0) y ≡ 0
blank_plane n y = ap (λ (w : ℕ). bit w (y % 32)) (word_blank n (y / 32)) ∙ bit_none (y % 32)

pub blank_room : (m : ℕ) → 5 ≤ m → m ≤ column_bound → RoomFor m (replicate 2048 0)
blank_room m l h =
    record { word = l; few = h; fits = omega (arith, seed_words_small m h, length-replicate {A = ℕ} 2048 0) }

-- marks of wanted sets alone, closed: a set is marked exactly if it lies inside a wanted one
pub closed_wanted : {Wanted : ℕ → Type 0} (m n : ℕ) (marks plane : List ℕ)
    → ((y : ℕ) → Wanted y → y < 2 ^ m) → Marked Wanted (replicate n 0) marks → PlaneFrom m m marks plane
    → (x : ℕ) → x < 2 ^ m → (plane_bit plane x ≡ 1) ↔ ((s : ℕ) × Above x s × Wanted s)
closed_wanted {Wanted} m n marks plane below mark fill x l = (
  λ b. let f = fill.sound x l b in (f.0, f.2, wanted f.0 ((mark.marks f.0).0 f.4)),
  λ f.
      let h = below f.0 f.2 in
      fill.complete x f.0 l h f.1 (bit_past f.0 m m h (omega arith)) ((mark.marks f.0).1 (inr f.2)),
)
  where
    wanted : (s : ℕ) → (plane_bit (replicate n 0) s ≡ 1) ⊎ Wanted s → Wanted s
    wanted s (inl b) = absurd (omega (arith, blank_plane n s))
    wanted s (inr w) = w
