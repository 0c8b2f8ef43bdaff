-- A left side is backed exactly if it lies inside the set of present members of some row; so are its bits in words
-- where these sets were noted, once they are closed.
use Prim.Native.Nat.{ℕ, suc, ◌^◌, ◌<◌}
use mathlib.Core.Path.{◌≡◌, refl, sym, ap, subst, ◌∙◌}
use mathlib.Core.Logic.{◌↔◌, ◌⊎◌, inl, inr}
use mathlib.Core.List.{List}
use native.Mathlib.Omega.{arith}
use lib.Dec.{T}
use Rattle.columns.specs.Set.{bit}
use Rattle.columns.proofs.SetBelow.{set_below_lt}
use Rattle.model.specs.View.{View, PresentOn, Backed}
use Rattle.table.specs.Words.{word, Above, Closed}
use Rattle.table.specs.Broken.{Scanned}
use Rattle.table.specs.Backed.{present_set_of, Witnessed, PresentSets, LaidSet, SetsNoted, BackedTable}
use Rattle.table.proofs.Bits.{mask_bit}
use Rattle.table.proofs.Table.{member_below}

-- the set of a row holds the members whose cells are present
present_set_in : (v : View) (p k : ℕ) → (bit (present_set_of v p) k ≡ 1) ↔ ((k < v.members) × T (v.present k p))
present_set_in v p k = mask_bit v.members (λ (j : ℕ). v.present j p) k

pub present_set_below : (v : View) (p : ℕ) → present_set_of v p < 2 ^ v.members
present_set_below v p = set_below_lt v.members (λ (j : ℕ). v.present j p)

-- in a row all cells of x are present exactly if its set is x or larger
pub above_present : (v : View) (x p : ℕ) → x < 2 ^ v.members → Above x (present_set_of v p) ↔ PresentOn v x p
above_present v x p h = (
  λ up k l i. ((present_set_in v p k).0 (up k i)).1,
  λ here k i.
      let l = member_below v.members x k h i in
      (present_set_in v p k).1 (l, here k l i),
)

-- a left side is backed exactly if the set of a row is x or larger
pub backed_by_set : (v : View) (x : ℕ) → x < 2 ^ v.members
    → Backed v x ↔ ((s : ℕ) × (s < 2 ^ v.members) × Above x s × Witnessed v s)
backed_by_set v x h = (
  λ b. (
    present_set_of v b.witness,
    present_set_below v b.witness,
    (above_present v x b.witness h).1 b.present,
    (b.witness, b.exists, refl),
  ),
  λ f.
      let p = f.3.0 in
      record {
        witness = p;
        exists = f.3.1;
        present = (above_present v x p h).0 (subst (Above x) (sym f.3.2) f.2);
      },
)

-- the sets laid are those of the rows
pub laid_witnessed : {v : View} {n end : ℕ} {sets : List ℕ} → PresentSets v n end sets → (s : ℕ)
    → LaidSet sets end s ↔ Witnessed v s
laid_witnessed {end} h s = (
  λ f.
      let l = f.1 in
      (f.0, omega (arith, h.rows), sym (h.each f.0 f.1) ∙ f.2),
  λ f.
      let l : f.0 < end = omega (arith, f.1, h.rows) in
      (f.0, l, h.each f.0 l ∙ f.2),
)

-- a bit above that of the row changes nothing of what a scan wrote
pub noted_scanned : (v : View) (end : ℕ) (sets before after : List ℕ)
    → SetsNoted (suc v.members) sets end before after → Scanned v before → Scanned v after
noted_scanned v end sets before after noted scan s a l h = (
  λ e. (scan s a l h).0 (stood ((noted.noted s a).0 e)),
  λ f. (noted.noted s a).1 (inl ((scan s a l h).1 f)),
)
  where
    stood : (bit (word before s) a ≡ 1) ⊎ ((a ≡ suc v.members) × LaidSet sets end s) → bit (word before s) a ≡ 1
    stood (inl e) = e
    stood (inr w) = let i = w.0 in absurd (omega arith)

-- noted in words that lack the bit, and closed, they say what is backed
pub noted_closed_backed : (v : View) (n end : ℕ) (sets before mid after : List ℕ) → PresentSets v n end sets
    → ((s : ℕ) → s < 2 ^ n → bit (word before s) (suc n) ≡ 0)
    → SetsNoted (suc n) sets end before mid → Closed n mid after → BackedTable v after
noted_closed_backed v n end sets before mid after laid none noted closed =
    subst (λ (n : ℕ). (x : ℕ) → x < 2 ^ v.members → (bit (word after x) (suc n) ≡ 1) ↔ Backed v x)
    (sym laid.members)
    (λ x l. (
      λ e.
          let f = closed.sound x (suc n) (less l) e in
          (backed_by_set v x l).1
          (f.0, more f.1, f.2, (laid_witnessed laid f.0).0 (marked f.0 f.1 (stood f.0 f.3))),
      λ b.
          let f = (backed_by_set v x l).0 b in
          closed.complete x f.0 (suc n) (less l) (less f.1) f.2
          ((noted.noted f.0 (suc n)).1 (inr (refl, (laid_witnessed laid f.0).1 f.3))),
    ))
  where
    same : 2 ^ v.members ≡ 2 ^ n
    same = ap (λ (m : ℕ). 2 ^ m) laid.members

    less : {y : ℕ} → y < 2 ^ v.members → y < 2 ^ n
    less l = omega (arith, same)

    more : {y : ℕ} → y < 2 ^ n → y < 2 ^ v.members
    more l = omega (arith, same)

    stood : (s : ℕ) → bit (word mid s) (suc n) ≡ 1
        → (bit (word before s) (suc n) ≡ 1) ⊎ ((suc n ≡ suc n) × LaidSet sets end s)
    stood s e = (noted.noted s (suc n)).0 e

    marked : (s : ℕ) → s < 2 ^ n → (bit (word before s) (suc n) ≡ 1) ⊎ ((suc n ≡ suc n) × LaidSet sets end s)
        → LaidSet sets end s
    marked s l (inl e) = absurd (omega (arith, none s l))
    marked s l (inr w) = w.1
