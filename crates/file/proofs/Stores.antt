-- Writing a part of a slice is storing its numbers one after the other.
use Prim.Native.Nat.{ℕ, ◌+◌, ◌-◌, ◌≤◌}
use mathlib.Core.Path.{◌≡◌, refl, sym, ap, ◌∙◌}
use mathlib.Core.List.{List, ◌++◌}
use native.Mathlib.Omega.{arith}
use borrow.Rule.Slice.PartMut.{put_mid}
use lib.ListN.{length, take, drop}
use lib.Seq.{sets, sets-eq, take-length}
use Rattle.std.proofs.lemmas.Slice.{put_mid-paste}

pub stores : (l : List ℕ) (i e : ℕ) (vs : List ℕ) {ys : List ℕ} → ys ≡ vs → e ≡ i + length vs → e ≤ length l
    → put_mid i (e - i) l ys ≡ sets l i vs
stores l i e vs {ys} w p h =
    put_mid-paste i (e - i) l ys vs (length vs) w (omega arith) refl
    ∙ ap (λ (xs : List ℕ). take i l ++ xs ++ drop (i + length vs) l) (take-length vs)
    ∙ sym (sets-eq vs l i (omega arith))
