-- Whether all numbers of a range pass, asked one after the other.
use Prim.Native.Nat.{ℕ, ◌+◌, ◌-◌, ◌≤◌, ◌<◌}
use mathlib.Core.Path.{◌≡◌, refl, sym, subst}
use mathlib.Core.Logic.{◌↔◌}
use mathlib.Core.Bool.{Bool, true, false}
use mathlib.Core.List.{List}
use denote.Param.Members.{Mut}
use lib.ListN.{length, get_or}
use native.Mathlib.Omega.{arith}
use Rattle.std.specs.declared.ops.Range.{Range}
use Rattle.std.specs.declared.option.Option.{Option}
use Rattle.std.proofs.iter.Yields.{nat_range_steps}
use Rattle.std.proofs.lemmas.Iterator.{YieldsList-from_range, cases_from_all}
use Rattle.std.proofs.lemmas.List.FromFn.{length-range_with_len, get_or-range_with_len}
use Rattle.std.specs.Bool.{MatchBool}
use Rattle.std.specs.Fn.{Called}
use Rattle.std.specs.Iterator.{YieldsThen}
use Rattle.std.specs.List.{range_with_len, FoldsTo, AllWithin, HoldsAt}
use Rattle.std.specs.Option.{MatchOption}
use Rattle.evidence.proofs.Answers.{says_yes, says_no, same_answer}

module _ {F : Type 0} {g : Mut F (ℕ × Unit {0}) Bool} (s u : Range ℕ) (f : F) (r : Bool) (P : ℕ → Type 0)
    (ran : (xs : List ℕ) × (o : Option ℕ) × (j : F) × YieldsThen nat_range_steps s xs o u
    × FoldsTo (λ p x q. Called g p (x, tt) true q) f xs j
    × MatchOption o (r ≡ true) (λ x. (r ≡ false) × ((h : F) × Called g j (x, tt) false h)))
    (passes : (x : ℕ) (q : F) → Called g f (x, tt) true q → (q ≡ f) × P x)
    (fails : (x : ℕ) (q : F) → Called g f (x, tt) false q → P x → ⊥) where
  abbrev numbers : List ℕ
  numbers = range_with_len s.start (s.end - s.start)

  long : length numbers ≡ s.end - s.start
  long = length-range_with_len s.start (s.end - s.start)

  is : (k : ℕ) → k < s.end - s.start → get_or numbers k 0 ≡ s.start + k
  is k l = get_or-range_with_len s.start (s.end - s.start) k 0 l

  pub all_between : (r ≡ true) ↔ ((k : ℕ) → s.start ≤ k → k < s.end → P k)
  all_between = by r (cases_from_all u f r P (λ x. P x → ⊥) ran (YieldsList-from_range s.start s.end _ refl refl) passes fails)
    where
      by : (o : Bool)
          → MatchBool o (AllWithin P numbers 0 (length numbers))
          ((k : ℕ) × (k < length numbers) × HoldsAt (λ x. P x → ⊥) numbers k)
          → (o ≡ true) ↔ ((k : ℕ) → s.start ≤ k → k < s.end → P k)
      by true h = says_yes (λ k a b.
          let e : get_or numbers (k - s.start) 0 ≡ k = omega (arith, is (k - s.start) (omega arith)) in
          subst P e (h (k - s.start) 0 (omega arith) (omega (arith, long))))
      by false h = says_no (λ all.
          h.2 0 (subst P (sym (is h.0 (omega (arith, long)))) (all (s.start + h.0) (omega arith) (omega (arith, long)))))

  -- from 0 on
  pub all_below : s.start ≡ 0 → (r ≡ true) ↔ ((k : ℕ) → k < s.end → P k)
  all_below z = same_answer (λ h k l. h k (omega arith) l) (λ h k a l. h k l) all_between
