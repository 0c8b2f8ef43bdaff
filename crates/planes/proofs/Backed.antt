-- Sets of present members, marked and closed: the plane says which left sides are backed. It may stand behind the
-- seeds.
use Prim.Native.Nat.{ℕ, suc, ◌+◌, ◌-◌, ◌/◌, ◌%◌, ◌^◌, ◌≤◌, ◌<◌}
use mathlib.Core.Path.{◌≡◌, sym, ap, ap₂, subst, ◌∙◌}
use mathlib.Core.Logic.{◌↔◌}
use mathlib.Core.List.{List}
use native.Mathlib.Nat.{two-pow-succ}
use native.Mathlib.Omega.{arith}
use lib.ListN.{replicate}
use lib.Pow.{pow_mono}
use Rattle.columns.specs.Set.{bit}
use Rattle.model.specs.View.{View}
use Rattle.table.specs.Words.{word, Above}
use Rattle.table.specs.Backed.{Witnessed, PresentSets, LaidSet}
use Rattle.table.proofs.Backed.{present_set_below, backed_by_set, laid_witnessed}
use Rattle.planes.specs.Bits.{plane_bit, PlaneFrom}
use Rattle.planes.specs.Marks.{Marked}
use Rattle.planes.specs.Plane.{seed_words, BackedPlane, BackedBehind}
use Rattle.planes.proofs.Bits.{power_words}
use Rattle.planes.proofs.Marks.{closed_wanted}

pub marked_backed : (v : View) (n m k end : ℕ) (sets marks plane : List ℕ) → PresentSets v n end sets → n ≤ m
    → Marked (LaidSet sets end) (replicate k 0) marks → PlaneFrom m m marks plane → BackedPlane v plane
marked_backed v n m k end sets marks plane laid h mark fill x l = (
  λ e.
      let f = is.0 e in
      let w = (laid_witnessed laid f.0).0 f.2 in
      (backed_by_set v x l).1 (f.0, below w, f.1, w),
  λ b.
      let f = (backed_by_set v x l).0 b in
      is.1 (f.0, f.2, (laid_witnessed laid f.0).1 f.3),
)
  where
    below : {s : ℕ} → Witnessed v s → s < 2 ^ v.members
    below {s} w = subst (λ (s : ℕ). s < 2 ^ v.members) w.2 (present_set_below v w.0)

    wide : {y : ℕ} → y < 2 ^ v.members → y < 2 ^ m
    wide l = let g : v.members ≤ m = omega (arith, laid.members) in omega (arith, pow_mono g)

    is : (plane_bit plane x ≡ 1) ↔ ((s : ℕ) × Above x s × LaidSet sets end s)
    is = closed_wanted m k marks plane (λ s w. wide (below ((laid_witnessed laid s).0 w))) mark fill x (wide l)

-- a plane that stands behind the seeds, and stays there
pub plane_behind : (v : View) (n : ℕ) (plane ws : List ℕ) → 5 ≤ n → v.members ≡ n
    → ((i : ℕ) → i < seed_words n → word ws (seed_words n + i) ≡ word plane i) → BackedPlane v plane
    → BackedBehind v n ws
plane_behind v n plane ws h e copied is x l =
    let b = is x (subst (λ (m : ℕ). x < 2 ^ m) (sym e) l) in
    (λ o. b.0 (sym same ∙ o), λ w. same ∙ b.1 w)
  where
    place : (2 ^ n + x) / 32 ≡ seed_words n + x / 32
    place = omega (arith, power_words n h)

    position : (2 ^ n + x) % 32 ≡ x % 32
    position = omega (arith, power_words n h)

    same : plane_bit ws (2 ^ n + x) ≡ plane_bit plane x
    same =
        ap₂ (λ (i j : ℕ). bit (word ws i) j) place position
        ∙ ap (λ (w : ℕ). bit w (x % 32)) (copied (x / 32) (omega (arith, power_words n h)))

-- seeds and plane together take twice the words
pub two_planes : (n : ℕ) → 5 ≤ n → 2 ^ (n - 4) ≡ seed_words n + seed_words n
two_planes n h =
    let e : n - 4 ≡ suc (n - 5) = omega arith in
    ap (λ (k : ℕ). 2 ^ k) e ∙ two-pow-succ (n - 5)

pub behind_kept : (v : View) (n : ℕ) (before after : List ℕ) → 5 ≤ n
    → ((i : ℕ) → i < seed_words n + seed_words n → word after i ≡ word before i)
    → BackedBehind v n before → BackedBehind v n after
behind_kept v n before after h kept is x l =
    let same = ap (λ (w : ℕ). bit w ((2 ^ n + x) % 32)) (kept ((2 ^ n + x) / 32) (omega (arith, power_words n h))) in
    (λ o. (is x l).0 (sym same ∙ o), λ w. same ∙ (is x l).1 w)
