-- The seeds: the plane of the test that says which agree sets occur. They stay the seeds while their words stay.
use Prim.Native.Nat.{ℕ, ◌+◌, ◌*◌, ◌/◌, ◌%◌, ◌^◌, ◌≤◌, ◌<◌}
use mathlib.Core.Path.{◌≡◌, sym, ap, ◌∙◌}
use mathlib.Core.Logic.{◌↔◌}
use mathlib.Core.Bool.{Bool}
use mathlib.Core.List.{List}
use native.Mathlib.Omega.{arith}
use lib.Dec.{T}
use Rattle.columns.specs.Set.{bit}
use Rattle.columns.specs.Test.{pick}
use Rattle.columns.proofs.SetBelow.{set_below_bit}
use Rattle.model.specs.View.{View}
use Rattle.table.specs.Words.{word}
use Rattle.table.specs.Broken.{Occurs}
use Rattle.table.proofs.Bits.{passes}
use Rattle.planes.specs.Bits.{plane_bit, plane_word}
use Rattle.planes.specs.Plane.{seed_words, SeedsBelow, Sown}
use Rattle.planes.proofs.Bits.{power_words}

plane_word_bit : (seen : ℕ → Bool) (s : ℕ) → bit (plane_word seen (s / 32)) (s % 32) ≡ pick (seen s) 1 0
plane_word_bit seen s =
    let e : s / 32 * 32 + s % 32 ≡ s = omega arith in
    set_below_bit 32 (λ j. seen (s / 32 * 32 + j)) (s % 32) (omega arith) ∙ ap (λ (i : ℕ). pick {A = ℕ} (seen i) 1 0) e

pub gathered_seeds : (v : View) (m : ℕ) (seen : ℕ → Bool) (ws : List ℕ)
    → ((s : ℕ) → s < 2 ^ m → T (seen s) ↔ Occurs v s)
    → ((i : ℕ) → i * 32 < 2 ^ m → word ws i ≡ plane_word seen i)
    → SeedsBelow v m ws
gathered_seeds v m seen ws occurs gathered s l =
    let is = ap (λ (w : ℕ). bit w (s % 32)) (gathered (s / 32) (omega arith)) ∙ plane_word_bit seen s in (
      λ e. (occurs s l).0 ((passes (seen s)).0 (sym is ∙ e)),
      λ f. is ∙ (passes (seen s)).1 ((occurs s l).1 f),
    )

-- the same seeds
pub sown_kept : (v : View) (n : ℕ) (before after : List ℕ) → 5 ≤ n
    → ((i : ℕ) → i < seed_words n → word after i ≡ word before i) → Sown v n before → Sown v n after
sown_kept v n before after h kept s =
    record {
      members = s.members;
      equivalence = s.equivalence;
      seeds = λ x l. (λ e. (s.seeds x l).0 (sym (same x l) ∙ e), λ f. same x l ∙ (s.seeds x l).1 f);
    }
  where
    same : (x : ℕ) → x < 2 ^ v.members → plane_bit after x ≡ plane_bit before x
    same x l =
        let p : 2 ^ v.members ≡ 2 ^ n = ap (λ (m : ℕ). 2 ^ m) s.members in
        ap (λ (w : ℕ). bit w (x % 32)) (kept (x / 32) (omega (arith, power_words n h)))
