-- The words written from the flags that say which agree sets occur, one after the other, and what they are for a view
-- that the keys are right for.
use Prim.Native.Nat.{ℕ, suc, ◌+◌, ◌-◌, ◌*◌, ◌^◌, ◌≤◌, ◌<◌}
use mathlib.Core.Path.{◌≡◌, sym, ap, subst, ◌∙◌}
use mathlib.Core.Logic.{◌↔◌}
use mathlib.Core.Bool.{Bool, true, false}
use mathlib.Core.List.{List}
use native.Mathlib.Numerals.{add-one}
use native.Mathlib.Omega.{arith}
use lib.Bits.{bit_or}
use lib.Dec.{T}
use lib.ListN.{set}
use lib.Pow.{pow_mono, pow_pos}
use lib.Seq.{get_or-set_other}
use Rattle.columns.specs.Bound.{column_bound}
use Rattle.columns.specs.Set.{set_below}
use Rattle.columns.specs.Test.{pick}
use Rattle.model.specs.View.{View, Equivalence}
use Rattle.model.proofs.Truth.{is_true, true_is}
use Rattle.table.specs.Words.{word}
use Rattle.table.specs.Broken.{Occurs, broken_by, Scanned}
use Rattle.table.proofs.Scan.{noted_scanned}
use Rattle.planes.specs.Bits.{plane_word}
use Rattle.planes.specs.Plane.{seed_words, SeedsBelow, Sown}
use Rattle.planes.proofs.Bits.{power_words}
use Rattle.planes.proofs.Seeds.{gathered_seeds, sown_kept}
use Rattle.planes.proofs.Backed.{two_planes}
use Rattle.leaders.specs.Keys.{key_view, Keyed}
use Rattle.leaders.proofs.Keys.{keyed_occurs}
use Rattle.scan.specs.SeenSets.{SeenSets, seen_at, broken_word}
use Rattle.lines.proofs.Lines.{or_next}
use Rattle.filled.specs.Filled.{Filled}
use Rattle.filled.proofs.Filled.{filled_first}

-- a power of two is at least 1
pub power_some : (n p : ℕ) → p ≡ 2 ^ n → 1 ≤ p
power_some n p e = omega (arith, pow_pos n)

-- the bits of 32 agree sets, one after the other
pub gathered_more : (f : ℕ → Bool) (j w p r : ℕ) → p ≡ 2 ^ j → r ≡ pick (f j) p 0 → w ≡ set_below j f
    → bit_or w r ≡ set_below (j + 1) f
gathered_more f j w p r is g h =
    or_next f j w r h (g ∙ ap (λ (p : ℕ). pick (f j) p 0) is) ∙ ap (λ (i : ℕ). set_below i f) (sym (add-one j))

pub seed_inside : (n i e : ℕ) → 5 ≤ n → n ≤ column_bound → e ≡ 2 ^ (n - 5) → i < e → i * 32 < 2 ^ column_bound
seed_inside n i e h b is l = omega (arith, power_words n h, pow_mono {i = n} {j = column_bound} b)

-- the flags as tests
module _ {keys : List ℕ} {seen : List Bool} {n end : ℕ} (seen-is : SeenSets keys n end seen) where
  tests : (s : ℕ) → T (seen_at seen s) ↔ Occurs (key_view keys n end) s
  tests s = let is = seen-is.occurs s in (λ t. is.0 (is_true t), λ f. true_is (is.1 f))

  -- for a view that the keys are right for
  for_view : (v : View) → Keyed v (2 ^ n - 1) n end keys → (s : ℕ) → T (seen_at seen s) ↔ Occurs v s
  for_view v keyed s =
      let by = tests s in
      let same = keyed_occurs keyed s in
      (λ t. same.0 (by.0 t), λ f. by.1 (same.1 f))

  -- written, the words are scanned
  pub written_scanned : {before after : List ℕ} → Filled 0 (2 ^ n) (broken_word seen n) before after
      → (v : View) → Keyed v (2 ^ n - 1) n end keys → Scanned v after
  written_scanned {before} {after} written v keyed =
      noted_scanned v (seen_at seen) after (λ s l. for_view v keyed s)
      (λ s l.
      filled_first written s (omega (arith, ap (λ (m : ℕ). 2 ^ m) keyed.members))
      ∙ ap (λ (m : ℕ). pick (seen_at seen s) (broken_by m s) 0) (sym keyed.members))

  -- and none has a bit above that of the row
  pub written_small : {before after : List ℕ} → Filled 0 (2 ^ n) (broken_word seen n) before after
      → (s : ℕ) → s < 2 ^ n → word after s < 2 ^ suc n
  written_small written s l =
      subst (λ (w : ℕ). w < 2 ^ suc n) (sym (filled_first written s l)) (at (seen_at seen s))
    where
      at : (t : Bool) → pick t (broken_by n s) 0 < 2 ^ suc n
      at true = omega (arith, pow_pos (suc n))
      at false = pow_pos (suc n)

  -- gathered, they are the seeds
  pub sown_among : {before after : List ℕ} (m : ℕ) → 5 ≤ m
      → Filled 0 (seed_words m) (plane_word (seen_at seen)) before after
      → (v : View) → Keyed v (2 ^ n - 1) n end keys → SeedsBelow v m after
  sown_among {before} {after} m h written v keyed =
      gathered_seeds v m (seen_at seen) after (λ s l. for_view v keyed s)
      (λ i l. filled_first written i (omega (arith, power_words m h)))

-- they stay the seeds, whatever is stored behind them
pub sown : {keys : List ℕ} {n end : ℕ} (mid : List ℕ) (m : ℕ) → 5 ≤ n → m ≡ 2 ^ (n - 4)
    → ((v : View) → Keyed v (2 ^ n - 1) n end keys → SeedsBelow v n mid)
    → (v : View) → Keyed v (2 ^ n - 1) n end keys → Equivalence v → Sown v n (set mid (m + 1) 0)
sown {keys} {n} mid m h is seeds v keyed eq =
    sown_kept v n mid (set mid (m + 1) 0) h
    (λ i k. get_or-set_other mid (m + 1) i 0 0 (λ u. omega (arith, two_planes n h)))
    (record {
      members = keyed.members;
      equivalence = eq;
      seeds = λ s l. seeds v keyed s (omega (arith, ap (λ (k : ℕ). 2 ^ k) keyed.members));
    })
