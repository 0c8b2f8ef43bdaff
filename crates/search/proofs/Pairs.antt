-- The first row that strays, with its leader, is the first pair of rows that breaks the dependency.
use Prim.Native.Nat.{ℕ, ◌≤◌, ◌<◌}
use mathlib.Core.Path.{◌≡◌, sym, subst, ◌∙◌}
use mathlib.Core.Logic.{◌⊎◌, inl, inr}
use mathlib.Core.List.{List}
use mathlib.Core.Bool.{Bool, true}
use native.Mathlib.Omega.{arith}
use lib.Dec.{T}
use lib.ListN.{get_or}
use Rattle.std.specs.Prelude.{Option, Some, None}
use Rattle.model.specs.declared.RowPair.{RowPair}
use Rattle.model.specs.Bounds.{row_bound}
use Rattle.model.specs.Pair.{first_pair}
use Rattle.model.proofs.Truth.{true_is, is_true, not_is}
use Rattle.model.proofs.Pair.{first_pair_is, none_is}
use Rattle.leaders.specs.Leaders.{leader_of, Strays}
use Rattle.leaders.specs.Keys.{key_view}
use Rattle.leaders.proofs.Leaders.{leader_le, no_stray_holds, first_pair_lem}
use Rattle.leaders.proofs.Keys.{key_equivalence}
use Rattle.partition.specs.Partition.{Led}
use Rattle.search.specs.Strays.{same_right, strays, LowerLeaders, FirstStray, rows_found}

module _ (keys leaders : List ℕ) (n end x a : ℕ)
    (leads : (q : ℕ) → q < end → get_or leaders q 0 ≡ leader_of (key_view keys n end) x q) where
  strays_is : (q : ℕ) → q < end → strays keys leaders a q ≡ true → Strays (key_view keys n end) x a q
  unfolding strays
  strays_is q l e =
      record {
        exists = l;
        apart = subst (λ (p : ℕ). T (same_right keys a p q) → ⊥) (leads q l)
            ((not_is (same_right keys a (get_or leaders q 0) q)).0 (true_is e));
      }

  is_strays : (q : ℕ) → Strays (key_view keys n end) x a q → strays keys leaders a q ≡ true
  unfolding strays
  is_strays q s =
      is_true ((not_is (same_right keys a (get_or leaders q 0) q)).1
      (subst (λ (p : ℕ). T (same_right keys a p q) → ⊥) (sym (leads q s.exists)) s.apart))

  pub stray_first : (f : Option RowPair) → FirstStray keys leaders a end f → rows_found f ≡ first_pair (key_view keys n end) x a
  stray_first (Some f) (l, e, s, none) =
      sym ((first_pair_is (key_view keys n end) x a f.first f.second).1
      (first_pair_lem (key_view keys n end) (key_equivalence keys n end) x a f.first f.second (strays_is f.second l s)
      (sym e ∙ leads f.second l)
      (λ r low h. lower r low (leads r h.exists) (none r h.exists (is_strays r h)))
      (λ r low same h. earlier r low same (leads r h.exists) (none r h.exists (is_strays r h)))))
    where
      lower : (r : ℕ) → leader_of (key_view keys n end) x r < f.first
          → get_or leaders r 0 ≡ leader_of (key_view keys n end) x r
          → (f.first < get_or leaders r 0) ⊎ ((f.first ≡ get_or leaders r 0) × (f.second ≤ r)) → ⊥
      lower r low g (inl h) = omega arith
      lower r low g (inr (h, k)) = omega arith

      earlier : (r : ℕ) → r < f.second → leader_of (key_view keys n end) x r ≡ f.first
          → get_or leaders r 0 ≡ leader_of (key_view keys n end) x r
          → (f.first < get_or leaders r 0) ⊎ ((f.first ≡ get_or leaders r 0) × (f.second ≤ r)) → ⊥
      earlier r low same g (inl h) = omega arith
      earlier r low same g (inr (h, k)) = omega arith
  stray_first None none =
      sym ((none_is (key_view keys n end) x a).1
      (no_stray_holds (key_view keys n end) (key_equivalence keys n end) x a
      (λ q s. none q s.exists (is_strays q s))))

-- the leaders are no higher than their rows
pub led_lower : {keys leaders : List ℕ} {n end x : ℕ} {r : Bool} → end ≤ row_bound → Led keys n end x leaders r
    → LowerLeaders end leaders
led_lower {keys} {leaders} {n} {end} {x} short led =
    record { short = short; lower = λ q l. omega (arith, led.leads q l, leader_le (key_view keys n end) x q) }
