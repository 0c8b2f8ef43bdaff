-- Rows counted tag by tag.
use Prim.Native.Nat.{ℕ, zero, suc, ◌+◌, ◌≤◌, ◌<◌}
use mathlib.Core.Path.{◌≡◌, refl, sym, ap, subst, ◌∙◌}
use mathlib.Core.List.{List, [], ◌∷◌}
use native.Mathlib.Decide.{ℕ_discrete, dec_lt}
use native.Mathlib.Omega.{arith}
use lib.ListN.{length, get_or, set, drop, replicate, length-set, length-replicate}
use lib.Seq.{get_or-set_same, get_or-set_other, set_out}
use Rattle.columns.proofs.Test.{if_eq_yes, if_eq_no}
use Rattle.model.specs.Bounds.{table_bound}
use Rattle.model.specs.Form.{capped, number_in, cells_in}
use Rattle.model.specs.Convert.{Tag, tags_in, count_of}
use Rattle.attributes.proofs.Digits.{capped_small, capped_is}
use Rattle.tags.specs.Next.{NextTag}
use Rattle.tags.specs.Counts.{one_more, Counts}

set_length : (counts : List ℕ) (n : ℕ) → length (one_more n counts) ≡ length counts
unfolding one_more
set_length counts n = length-set counts n (suc (get_or counts n 0))

-- a count of a table after one more row
more_same : (counts : List ℕ) (n t : ℕ) → t < length counts → n ≡ t
    → get_or (one_more n counts) t 0 ≡ get_or counts t 0 + 1
unfolding one_more
more_same counts n t l e =
    subst (λ (m : ℕ). get_or (set counts m (suc (get_or counts m 0))) t 0 ≡ get_or counts t 0 + 1) (sym e)
    (get_or-set_same counts t (suc (get_or counts t 0)) 0 l ∙ omega arith)

more_other : (counts : List ℕ) (n t : ℕ) → (n ≡ t → ⊥) → get_or (one_more n counts) t 0 ≡ get_or counts t 0
unfolding one_more
more_other counts n t d = get_or-set_other counts n t (suc (get_or counts n 0)) 0 (λ e. d (sym e))

-- where there is no such table, nothing changes
pub more_none : (counts : List ℕ) (n : ℕ) → length counts ≤ n → counts ≡ one_more n counts
unfolding one_more
more_none counts n l = sym (set_out counts n (suc (get_or counts n 0)) l)

pub more_is : (counts : List ℕ) (n : ℕ) → set counts n (get_or counts n 0 + 1) ≡ one_more n counts
unfolding one_more
more_is counts n = ap (set counts n) (omega arith)

more_le : (counts : List ℕ) (n t : ℕ) → get_or (one_more n counts) t 0 ≤ get_or counts t 0 + 1
more_le counts n t = at (ℕ_discrete n t) (dec_lt t (length counts))
  where
    at : Dec (n ≡ t) → Dec (t < length counts) → get_or (one_more n counts) t 0 ≤ get_or counts t 0 + 1
    at (yes e) (yes l) = omega (arith, more_same counts n t l e)
    at (yes e) (no m) =
        omega (arith, ap (λ (l : List ℕ). get_or l t 0) (more_none counts n (omega arith)))
    at (no d) l = omega (arith, more_other counts n t d)

-- the rows of a table among a tag and those behind it
count_same : (t : ℕ) (x : Tag) (ts : List Tag) → x.0 ≡ t → count_of t (x ∷ ts) ≡ suc (count_of t ts)
unfolding count_of
count_same t x ts e = if_eq_yes (count_of t ts) e

count_other : (t : ℕ) (x : Tag) (ts : List Tag) → (x.0 ≡ t → ⊥) → count_of t (x ∷ ts) ≡ count_of t ts
unfolding count_of
count_other t x ts d = if_eq_no (suc (count_of t ts)) d

zero_at : (n t : ℕ) → ◌≡◌ {A = ℕ} (get_or (replicate n 0) t 0) 0
zero_at zero t = refl
zero_at (suc n) zero = refl
zero_at (suc n) (suc t) = zero_at n t

-- the counts of what was passed and of what is ahead are those of the whole
pub record Counting (s : List ℕ) (p : ℕ) (counts : List ℕ) : Type 0 where
  pub many : length counts ≡ table_bound
  pub sum : (t : ℕ) → t < table_bound → get_or counts t 0 + count_of t (tags_in (drop p s)) ≡ count_of t (tags_in s)
  pub small : (t : ℕ) → get_or counts t 0 ≤ p

pub counting_begun : (s : List ℕ) → Counting s 0 (replicate table_bound 0)
counting_begun s =
    record {
      many = length-replicate {A = ℕ} table_bound 0;
      sum = λ t l. omega (arith, zero_at table_bound t);
      small = λ t. omega (arith, zero_at table_bound t);
    }

counting_one : (s : List ℕ) (p r n : ℕ) (counts : List ℕ) → Counting s p counts → NextTag s p r
    → n ≡ capped (number_in (drop r s)) → Counting s r (one_more n counts)
counting_one s p r n counts c next e = record {
  many = set_length counts n ∙ c.many;
  sum = λ t h. at t h (ℕ_discrete n t);
  small = λ t. omega (arith, more_le counts n t, c.small t, next.behind);
}
  where
    at : (t : ℕ) → t < table_bound → Dec (n ≡ t)
        → get_or (one_more n counts) t 0 + count_of t (tags_in (drop r s)) ≡ count_of t (tags_in s)
    at t h (yes f) =
        omega (
          arith,
          c.sum t h,
          ap (count_of t) next.same,
          count_same t (number_in (drop r s), cells_in (drop r s)) (tags_in (drop r s))
              (capped_is (sym f ∙ e) (omega arith)),
          more_same counts n t (omega (arith, c.many)) f,
        )
    at t h (no d) =
        omega (
          arith,
          c.sum t h,
          ap (count_of t) next.same,
          count_other t (number_in (drop r s), cells_in (drop r s)) (tags_in (drop r s))
              (λ z. d (e ∙ (sym (capped_small (omega arith)) ∙ z))),
          more_other counts n t d,
        )

pub counting_more : (s : List ℕ) (p r n : ℕ) (counts after : List ℕ) → Counting s p counts → NextTag s p r
    → n ≡ capped (number_in (drop r s)) → after ≡ one_more n counts → Counting s r after
counting_more s p r n counts after c next e f =
    subst (λ (x : List ℕ). Counting s r x) (sym f) (counting_one s p r n counts c next e)

pub counting_done : (s : List ℕ) (p : ℕ) (counts : List ℕ) → Counting s p counts → tags_in (drop p s) ≡ []
    → Counts (tags_in s) counts
unfolding count_of
counting_done s p counts c e = record {
  many = c.many;
  each = λ t h. omega (arith, c.sum t h, ap (count_of t) e);
}
