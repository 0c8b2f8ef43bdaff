-- The stop rule: what `passed` counts obeys it from every place up to the last, and nothing else does.
use Prim.Native.Nat.{ℕ, zero, suc, ◌-◌, ◌≤◌, ◌<◌, zero-le}
use mathlib.Core.Path.{◌≡◌, refl}
use mathlib.Core.Logic.{◌⊎◌, inl, inr, ⊎_elim}
use mathlib.Core.List.{List, [], ◌∷◌, ◌++◌}
use native.Mathlib.Omega.{arith}
use lib.ListN.{length, take, drop, length-append, length-drop}
use Rattle.model.specs.Calls.{flat, passed, written}
use Rattle.model.specs.Demand.{Stops}
use Rattle.model.proofs.Calls.{le_or_lt, flat_take_mono, flat_take_le, passed_end, passed_spent, passed_full}
use Rattle.model.proofs.Calls.{passed_fit}

-- the stop rule from the first cell on
pub record Halts {A : Type 0} (cs : List (List A)) (budget room k : ℕ) : Type 0 where
  pub in_budget : k ≤ budget
  pub in_range : k ≤ length cs
  pub fits : length (flat (take k cs)) ≤ room
  pub reason : (k ≡ budget) ⊎ ((k ≡ length cs) ⊎ (room < length (flat (take (suc k) cs))))

module _ {A : Type 0} where
  halts_end : (g r : ℕ) → Halts {A = A} [] g r 0
  halts_end g r = record { in_budget = zero-le; in_range = zero-le; fits = zero-le; reason = inr (inl refl) }

  halts_spent : (r : ℕ) (cs : List (List A)) → Halts cs 0 r 0
  halts_spent r cs = record { in_budget = zero-le; in_range = zero-le; fits = zero-le; reason = inl refl }

  halts_full : (g r : ℕ) (c : List A) (cs : List (List A)) → r < length c → Halts (c ∷ cs) g r 0
  halts_full g r c cs h =
      record {
        in_budget = zero-le;
        in_range = zero-le;
        fits = zero-le;
        reason = inr (inr (simp length-append (omega arith)));
      }

  halts_fit : (g r k : ℕ) (c : List A) (cs : List (List A)) → 0 < g → length c ≤ r → Halts cs (g - 1) (r - length c) k
      → Halts (c ∷ cs) g r (suc k)
  halts_fit g r k c cs b h t =
      record {
        in_budget = omega arith;
        in_range = omega arith;
        fits = simp length-append (omega arith);
        reason = ⊎_elim (λ e. inl (omega arith)) (λ s. inr (later s)) t.reason;
      }
    where
      later : (k ≡ length cs) ⊎ (r - length c < length (flat (take (suc k) cs)))
          → (suc k ≡ length (c ∷ cs)) ⊎ (r < length (c ++ flat (take (suc k) cs)))
      later (inl e) = inl (omega arith)
      later (inr l) = inr (rw length-append (omega arith))

  pub passed_halts : (cs : List (List A)) (g r : ℕ) → Halts cs g r (passed g r cs)
  passed_halts [] g r = rw (passed_end {A = A} g r [] refl) (halts_end g r)
  passed_halts (c ∷ cs) zero r = rw (passed_spent r (c ∷ cs)) (halts_spent r (c ∷ cs))
  passed_halts (c ∷ cs) (suc g) r =
      ⊎_elim (fitting (passed_halts cs (suc g - 1) (r - length c)))
      (λ h. rw (passed_full (suc g) r c cs h) (halts_full (suc g) r c cs h))
      (le_or_lt (length c) r)
    where
      fitting : Halts cs (suc g - 1) (r - length c) (passed (suc g - 1) (r - length c) cs) → length c ≤ r
          → Halts (c ∷ cs) (suc g) r (passed (suc g) r (c ∷ cs))
      fitting t h = rw (passed_fit (suc g) r c cs (omega arith) h) (halts_fit (suc g) r _ c cs (omega arith) h t)

  -- what is passed is in range and fits
  pub passed_in_range : (g r : ℕ) (cs : List (List A)) → passed g r cs ≤ length cs
  passed_in_range g r cs = (passed_halts cs g r).in_range

  pub passed_fits : (g r : ℕ) (cs : List (List A)) → length (flat (take (passed g r cs) cs)) ≤ r
  passed_fits g r cs = (passed_halts cs g r).fits

  pub written_fits : (g r : ℕ) (cs : List (List A)) → length (written g r cs) ≤ r
  unfolding written
  written_fits g r cs = passed_fits g r cs

  -- with budget and room for all, all are passed
  pub passed_all : (g r : ℕ) (cs : List (List A)) → length cs ≤ g → length (flat cs) ≤ r → passed g r cs ≡ length cs
  passed_all g r cs b h = go (passed g r cs) (passed_halts cs g r)
    where
      go : (k : ℕ) → Halts cs g r k → k ≡ length cs
      go k t =
          ⊎_elim (λ e. omega arith)
          (λ s. ⊎_elim (λ e. e) (λ l. omega (arith, flat_take_le (suc k) cs)) s)
          t.reason

  -- from any place up to the last
  halts_stops : (cs : List (List A)) (p g r k : ℕ) → p ≤ length cs → Halts (drop p cs) g r k → Stops cs p g r k
  halts_stops cs p g r k h t =
      record {
        in_budget = t.in_budget;
        in_range = omega (arith, length-drop p cs);
        fits = t.fits;
        reason = ⊎_elim inl (λ s. inr (⊎_elim (λ e. inl (omega (arith, length-drop p cs))) inr s)) t.reason;
      }

  pub passed_stops : (cs : List (List A)) (p g r : ℕ) → p ≤ length cs → Stops cs p g r (passed g r (drop p cs))
  passed_stops cs p g r h = halts_stops cs p g r (passed g r (drop p cs)) h (passed_halts (drop p cs) g r)

  -- the rule settles the number
  stops_not_below : (cs : List (List A)) (p g r k j : ℕ) → Stops cs p g r k → Stops cs p g r j → k < j → ⊥
  stops_not_below cs p g r k j s t l =
      ⊎_elim (λ e. omega arith)
      (λ q. ⊎_elim (λ e. omega arith) (λ o. omega (arith, flat_take_mono (suc k) j (drop p cs) l)) q)
      s.reason

  pub stops_unique : (cs : List (List A)) (p g r k j : ℕ) → Stops cs p g r k → Stops cs p g r j → k ≡ j
  stops_unique cs p g r k j s t =
      ⊎_elim from_below (λ l. absurd (stops_not_below cs p g r j k t s l)) (le_or_lt k j)
    where
      from_below : k ≤ j → k ≡ j
      from_below a =
          ⊎_elim (λ b. omega arith) (λ l. absurd (stops_not_below cs p g r k j s t l)) (le_or_lt j k)

  pub stops_passed : (cs : List (List A)) (p g r k : ℕ) → p ≤ length cs → Stops cs p g r k → k ≡ passed g r (drop p cs)
  stops_passed cs p g r k h s = stops_unique cs p g r k (passed g r (drop p cs)) s (passed_stops cs p g r h)
