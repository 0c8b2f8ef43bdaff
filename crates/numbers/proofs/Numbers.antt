-- The value that goes back: that it fits 63 bits, of packing as of reading.
use Prim.Native.Nat.{ℕ, ◌<◌, ◌^◌}
use mathlib.Core.Path.{◌≡◌, refl, sym, subst}
use native.Mathlib.Decide.{ℕ_discrete}
use mathlib.Core.List.{[], ◌∷◌}
use lib.Dec.{lit<}
use Rattle.std.specs.Prelude.{Result, Ok, Err}
use Rattle.columns.proofs.Test.{if_eq_yes, if_eq_no}
use Rattle.model.specs.declared.Refusal.{Refusal}
use Rattle.model.specs.Reply.{Reply, answered, refused, reply_of, pack_reply, entries_reply}
use Rattle.numbers.specs.Number.{value_or}

-- the value of a reply that has one fits 63 bits if it does where there is no refusal
pub reply_fits : (code n : ℕ) → (code ≡ 0 → n < 2 ^ 63) → value_or 0 0 (reply_of code (n ∷ [])) < 2 ^ 63
unfolding reply_of
reply_fits code n h = go (ℕ_discrete code 0)
  where
    go : Dec (code ≡ 0) → value_or 0 0 (reply_of code (n ∷ [])) < 2 ^ 63
    go (yes z) = subst (λ (r : Reply). value_or 0 0 r < 2 ^ 63) (sym (if_eq_yes (refused code) z)) (h z)
    go (no m) = subst (λ (r : Reply). value_or 0 0 r < 2 ^ 63) (sym (if_eq_no (answered (n ∷ [])) m)) (lit< tt)

-- reading replies as packing does
pub read_as_packed : (r : Result ℕ Refusal) → entries_reply r ≡ pack_reply r
read_as_packed (Ok n) = refl
read_as_packed (Err r) = refl
