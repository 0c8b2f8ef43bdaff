-- An array filled in one run: none of it, one element more, as many, one run after the other, and an element of a run
-- from the first place on. An element of any run, and one outside it, are read by the fields of `Filled`.
use Prim.Native.Nat.{ℕ, ◌+◌, ◌≤◌, ◌<◌}
use mathlib.Core.Path.{◌≡◌, refl, sym, ap, subst, ◌∙◌}
use mathlib.Core.List.{List}
use native.Mathlib.Decide.{dec_lt}
use native.Mathlib.Omega.{arith}
use lib.ListN.{length, get_or, set, length-set}
use lib.Seq.{get_or-set_same, get_or-set_other}
use Rattle.filled.specs.Filled.{Filled}
use Rattle.filled.proofs.Below.{below_more}

pub filled_none : {start : ℕ} {f : ℕ → ℕ} {before : List ℕ} → Filled start start f before before
filled_none =
    record { same_length = refl; inside = λ i l m. absurd (omega arith); below = λ i l. refl; past = λ i l. refl }

pub filled_more : {start end : ℕ} {f : ℕ → ℕ} {before after : List ℕ} → Filled start end f before after → {i x : ℕ}
    → i ≡ end → start ≤ i → i < length before → x ≡ f end → Filled start (end + 1) f before (set after i x)
filled_more {start} {end} {f} {before} {after} h {i} {x} at ordered l e =
    record {
      same_length = simp length-set h.same_length;
      inside = λ j a b.
          below_more {P = λ j. start ≤ j → get_or (set after i x) j 0 ≡ f j}
          (λ j m a. get_or-set_other after i j x 0 (λ u. omega arith) ∙ h.inside j a m)
          (λ a. ap (λ (j : ℕ). get_or (set after i x) j 0) (sym at)
          ∙ get_or-set_same after i x 0 (omega (arith, h.same_length)) ∙ e) j b a;
      below = λ j k. get_or-set_other after i j x 0 (λ u. omega arith) ∙ h.below j k;
      past = λ j k. get_or-set_other after i j x 0 (λ u. omega arith) ∙ h.past j (omega arith);
    }

pub filled_moved : {start end to : ℕ} {f : ℕ → ℕ} {before after : List ℕ} → end ≡ to → Filled start end f before after
    → Filled start to f before after
filled_moved {start} {f} {before} {after} e h = subst (λ (n : ℕ). Filled start n f before after) e h

-- a second run behind the first, by a function that is the same there
pub filled_then : (a b c : ℕ) (f g : ℕ → ℕ) (before mid after : List ℕ) → a ≤ b → b ≤ c → Filled a b f before mid
    → Filled b c g mid after → ((i : ℕ) → b ≤ i → i < c → g i ≡ f i) → Filled a c f before after
filled_then a b c f g before mid after l m r t same =
    record {
      same_length = t.same_length ∙ r.same_length;
      inside = λ i j k. at i j k (dec_lt i b);
      below = λ i j. t.below i (omega arith) ∙ r.below i j;
      past = λ i j. t.past i j ∙ r.past i (omega arith);
    }
  where
    at : (i : ℕ) → a ≤ i → i < c → Dec (i < b) → get_or after i 0 ≡ f i
    at i j k (yes h) = t.below i h ∙ r.inside i j h
    at i j k (no h) = t.inside i (omega arith) k ∙ same i (omega arith) k

pub filled_first : {m : ℕ} {f : ℕ → ℕ} {before after : List ℕ} → Filled 0 m f before after → (i : ℕ) → i < m
    → get_or after i 0 ≡ f i
filled_first h i l = h.inside i (omega arith) l
