-- What `put` shows, over plain values.
use Prim.Native.Nat.{ℕ, suc, ◌-◌, ◌^◌, ◌≤◌, ◌<◌, suc-le-suc}
use mathlib.Core.Path.{◌≡◌, refl, ◌∙◌}
use mathlib.Core.List.{◌∷◌}
use native.Mathlib.Decide.{ℕ_discrete}
use native.Mathlib.Omega.{arith}
use lib.Pow.{pow_mono}
use Rattle.columns.specs.Bound.{column_bound}
use Rattle.columns.proofs.Bits.{bit_power_le}
use Rattle.columns.proofs.Test.{if_eq_yes, if_eq_no}
use Rattle.model.specs.Bounds.{row}
use Rattle.model.specs.Entry.{entry}
use Rattle.model.specs.Rights.{right_at}
use Rattle.rights.specs.Rights.{entries_of_mask, lowest}
use Rattle.rights.proofs.Mask.{entries_lowest, lowest_le, lowest_bit}
use Rattle.passing.specs.declared.Walk.{Walk}
use Rattle.steps.specs.Putting.{Puttable, with_pending, put_from}
use Rattle.steps.specs.declared.Stepped.TheVariants.{Put}

-- what is pending is put, the lowest right first
module _ (w : Walk) (p : Puttable w) where
  put_word : w.pending < 2 ^ 32
  put_word =
      let l : 2 ^ suc w.members ≤ 2 ^ suc column_bound = pow_mono (suc-le-suc p.members) in
      omega (arith, p.pending)

  pub put_lowest : lowest w.pending ≤ w.members
  put_lowest = lowest_le w.target w.left w.members w.pending p.some p.pending put_word

  pub put_power : 2 ^ lowest w.pending ≤ w.pending
  put_power =
      bit_power_le w.pending (lowest w.pending)
      (lowest_bit w.target w.left w.members w.pending p.some p.pending put_word)

  pub put_right : (n : ℕ) {r : ℕ} → r ≡ right_at n (lowest w.pending) → r < 2 ^ 8
  unfolding right_at
  put_right n {r} e = at (ℕ_discrete (lowest w.pending) n)
    where
      at : Dec (lowest w.pending ≡ n) → r < 2 ^ 8
      at (yes q) = let s = e ∙ if_eq_yes _ q in omega arith
      at (no q) = let s = e ∙ if_eq_no row q in omega (arith, put_lowest, p.members)

  -- what is put, from the number of the right and the power of its bit
  pub put_is : {r b : ℕ} → r ≡ right_at w.members (lowest w.pending) → b ≡ 2 ^ lowest w.pending
      → Put (entry w.target w.left r) (with_pending w (w.pending - b)) ≡ put_from w
  unfolding put_from
  put_is e q = rw e (rw q refl)

  pub put_entries : entries_of_mask w.target w.left w.members w.pending
      ≡ entry w.target w.left (right_at w.members (lowest w.pending))
      ∷ entries_of_mask w.target w.left w.members (w.pending - 2 ^ lowest w.pending)
  put_entries = entries_lowest w.target w.left w.members w.pending p.some p.pending put_word
