-- The scan row by row: the sets of a line are noted one after the other, and those of all lines are the agree sets
-- that occur.
use Prim.Native.Nat.{ℕ, zero, suc, ◌+◌, ◌^◌, ◌≤◌, ◌<◌}
use mathlib.Core.Path.{◌≡◌, refl, sym, ap, ◌∙◌}
use mathlib.Core.Logic.{◌⊎◌, inl, inr, ⊎_elim, ◌↔◌}
use mathlib.Core.Bool.{Bool, true, false}
use mathlib.Core.List.{List}
use native.Mathlib.Decide.{ℕ_discrete}
use native.Mathlib.Omega.{arith}
use lib.ListN.{length, set, length-set, replicate, length-replicate}
use lib.Seq.{get_or-set_same, get_or-set_other}
use Rattle.columns.specs.Bound.{column_bound}
use Rattle.model.specs.View.{View}
use Rattle.table.specs.Words.{word}
use Rattle.table.specs.Broken.{agree_set_of, Pair}
use Rattle.leaders.specs.Keys.{key_view}
use Rattle.lines.specs.Lines.{LineOf}
use Rattle.scan.specs.SeenSets.{InLine, seen_at, SetNoted, LineNoted, Blank}

pub noted_now : (s : ℕ) (seen : List Bool) → s < length seen → SetNoted s seen (set seen s true)
noted_now s seen l = record { same_length = length-set seen s true; noted = λ t. at t (ℕ_discrete t s) }
  where
    at : (t : ℕ) → Dec (t ≡ s) → (seen_at (set seen s true) t ≡ true) ↔ ((seen_at seen t ≡ true) ⊎ (t ≡ s))
    at t (yes e) = (λ u. inr e, λ u. ap (seen_at (set seen s true)) e ∙ get_or-set_same seen s true false l)
    at t (no d) =
        let other = get_or-set_other seen s t true false d in
        (λ u. inl (sym other ∙ u), λ f. ⊎_elim (λ u. other ∙ u) (λ u. absurd (d u)) f)

-- the sets of a line, one after the other
pub noted_none : (line : List ℕ) (seen : List Bool) (from : ℕ) → LineNoted line from from seen seen
noted_none line seen from = record {
  same_length = refl;
  noted = λ s. (λ e. inl e, λ f. ⊎_elim (λ e. e) (λ g. absurd (omega (arith, g.1, g.2))) f);
}

pub noted_more : {line : List ℕ} {before seen after : List Bool} {from q : ℕ} → from ≤ q
    → SetNoted (word line q) seen after
    → LineNoted line from q before seen → LineNoted line from (q + 1) before after
noted_more {line} {before} {seen} {after} {from} {q} l one h = record {
  same_length = one.same_length ∙ h.same_length;
  noted = λ s. (
    λ u. ⊎_elim
        (λ e. ⊎_elim (λ f. inl f) (λ g. inr (g.0, g.1, omega (arith, g.2), g.3)) ((h.noted s).0 e))
        (λ e. inr (q, l, omega arith, sym e))
        ((one.noted s).0 u),
    λ u. (one.noted s).1 (⊎_elim (λ f. inl ((h.noted s).1 (inl f))) (λ g. at s g (ℕ_discrete g.0 q)) u),
  );
}
  where
    at : (s : ℕ) (g : InLine line from (q + 1) s) → Dec (g.0 ≡ q) → (seen_at seen s ≡ true) ⊎ (s ≡ word line q)
    at s g (yes e) = inr (sym g.3 ∙ ap (word line) e)
    at s g (no d) = inl ((h.noted s).1 (inr (g.0, g.1, omega (arith, g.2), g.3)))

-- the scan has come to row x: the pairs of the rows before it are noted
pub record SeenBefore (keys : List ℕ) (n end x : ℕ) (seen : List Bool) : Type 0 where
  pub long : length seen ≡ 2 ^ column_bound
  pub occurs : (s : ℕ)
      → (seen_at seen s ≡ true)
      ↔ ((p : ℕ) × (q : ℕ) × (p < x) × Pair (key_view keys n end) p q × (agree_set_of (key_view keys n end) p q ≡ s))

-- and the line of row x brings the pairs of that row
pub seen_more : {keys : List ℕ} {n end x : ℕ} {line : List ℕ} {before after : List Bool}
    → LineOf (agree_set_of (key_view keys n end) x) x end line → LineNoted line (x + 1) end before after
    → SeenBefore keys n end x before → SeenBefore keys n end (x + 1) after
seen_more {keys} {n} {end} {x} {line} {before} line-is more h = record {
  long = more.same_length ∙ h.long;
  occurs = λ s. (
    λ u. ⊎_elim
        (λ b. let o = (h.occurs s).0 b in (o.0, o.1, omega (arith, o.2), o.3, o.4))
        (λ g. (x, g.0, omega arith, (omega (arith, g.1), g.2), sym (line-is.at g.0 (omega (arith, g.1)) g.2) ∙ g.3))
        ((more.noted s).0 u),
    λ o. (more.noted s).1 (at s o (ℕ_discrete o.0 x)),
  );
}
  where
    v : View
    v = key_view keys n end

    at : (s : ℕ) (o : (p : ℕ) × (q : ℕ) × (p < x + 1) × Pair v p q × (agree_set_of v p q ≡ s)) → Dec (o.0 ≡ x)
        → (seen_at before s ≡ true) ⊎ InLine line (x + 1) end s
    at s o (yes e) =
        inr (
          o.1,
          omega (arith, e, o.3.0),
          o.3.1,
          line-is.at o.1 (omega (arith, e, o.3.0)) o.3.1 ∙ ap (λ (p : ℕ). agree_set_of v p o.1) (sym e) ∙ o.4,
        )
    at s o (no d) = inl ((h.occurs s).1 (o.0, o.1, omega (arith, d, o.2), o.3, o.4))

flags_blank : (m s : ℕ) → seen_at (replicate m false) s ≡ false
flags_blank zero s = refl
flags_blank (suc m) zero = refl
flags_blank (suc m) (suc s) = flags_blank m s

pub blank_begun : Blank (replicate (2 ^ column_bound) false)
blank_begun = record {
  long = length-replicate {A = Bool} (2 ^ column_bound) false;
  none = flags_blank (2 ^ column_bound);
}
