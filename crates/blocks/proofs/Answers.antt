-- Answering a block: right by right, the rights of each pair become those that are minimal for its left side.
use Prim.Native.Nat.{ℕ, suc, ◌+◌, ◌^◌, ◌≤◌, ◌<◌}
use mathlib.Core.Path.{◌≡◌, refl, sym, ap, ap₂, subst, ◌∙◌}
use mathlib.Core.Logic.{◌↔◌}
use mathlib.Core.Bool.{Bool, true, false, ◌&&◌}
use mathlib.Core.List.{List}
use native.Mathlib.Nat.{two-pow-succ}
use native.Mathlib.Numerals.{add-one}
use native.Mathlib.Omega.{arith}
use borrow.Author.Tests.{eq-eqb, ne_eqb}
use lib.ListN.{length}
use Rattle.columns.specs.Bound.{column_bound}
use Rattle.columns.specs.Set.{bit, set_below}
use Rattle.columns.specs.Test.{pick}
use Rattle.model.specs.View.{View, minimal}
use Rattle.table.specs.Words.{word, Narrow}
use Rattle.model.specs.Rights.{right_at}
use Rattle.planes.specs.Bits.{plane_bit, PlaneFrom}
use Rattle.planes.specs.Plane.{Sown}
use Rattle.planes.proofs.Plane.{seeds_filled_plane, narrow_is}
use Rattle.planes.proofs.Seeds.{sown_kept}
use Rattle.planes.proofs.Backed.{two_planes}
use Rattle.blocks.specs.Cache.{pairs_at, left_at, asked_minimal, Lefts, AddedBelow, PairsBelow}
use Rattle.blocks.specs.Cache.{Answered, Block}
use Rattle.blocks.proofs.Pairs.{added_le}

-- a right asked for is minimal exactly if its plane shows it
test_minimal : (v : View) (n own a x : ℕ) (seeds plane : List ℕ) (t : Bool) → Sown v n seeds → n ≤ column_bound → a ≤ n
    → x < 2 ^ n → bit own a ≡ 1 → PlaneFrom n a seeds plane → (t ≡ true) ↔ Narrow (plane_bit plane) x a
    → t ≡ asked_minimal v own x a
test_minimal v n own a x seeds plane t s b h l asked fill f =
    let m = s.members in
    let full : PlaneFrom v.members a seeds plane = subst (λ (k : ℕ). PlaneFrom k a seeds plane) (sym m) fill in
    let inside : x < 2 ^ v.members = subst (λ (k : ℕ). x < 2 ^ k) (sym m) l in
    let is = seeds_filled_plane v v.members a seeds plane s.equivalence (omega arith) (omega arith) (omega arith)
    s.seeds full in
    narrow_is v plane x a t (omega arith) is inside (omega arith) f
    ∙ ap (λ (b : Bool). b && minimal v x (right_at v.members a)) (sym (eq-eqb (bit own a) 1 asked))

not_asked : (v : View) (own a x : ℕ) → bit own a ≡ 0 → false ≡ asked_minimal v own x a
not_asked v own a x e =
    ap (λ (b : Bool). b && minimal v x (right_at v.members a)) (sym (ne_eqb (bit own a) 1 (λ i. omega arith)))

-- the plane of right a is filled, and it is added
pub answered_some : (n own a count : ℕ) (plane before after : List ℕ) → n ≤ column_bound → a ≤ n → bit own a ≡ 1
    → PairsBelow n a count before → PlaneFrom n a before plane → AddedBelow n a count plane before after
    → Answered n own a count before after
answered_some n own a count plane before after b h asked p fill d =
    record {
      kept = d.kept;
      lefts = d.lefts;
      below = λ j l.
          let f = d.rights j l in
          omega (
            arith,
            f.2,
            p.rights j l,
            two-pow-succ a,
            added_le plane (word before (left_at n j)) a f.0 f.1,
          );
      rights = λ v s j l.
          let f = d.rights j l in
          let x = word before (left_at n j) in
          let t = test_minimal v n own a x before plane f.1.test s b h (p.lefts j l) asked fill f.1.narrow in
          f.2
          ∙ ap (λ (r : ℕ). word before (suc (left_at n j)) + r)
          (f.1.value ∙ ap (λ (t : Bool). pick t (2 ^ a) 0) t);
    }

-- the rights below a are answered for each pair
pub record AnsweredBelow (n own a count : ℕ) (before after : List ℕ) : Type 0 where
  pub same_length : length after ≡ length before
  pub kept : (i : ℕ) → i < pairs_at n → word after i ≡ word before i
  pub lefts : (j : ℕ) → word after (left_at n j) ≡ word before (left_at n j)
  pub below : (j : ℕ) → j < count → word after (suc (left_at n j)) < 2 ^ a
  pub rights : (v : View) → Sown v n before → (j : ℕ) → j < count
      → word after (suc (left_at n j)) ≡ set_below a (asked_minimal v own (word before (left_at n j)))

pub answering_begun : (n own first count : ℕ) (before ws : List ℕ) → Lefts n first count before ws
    → AnsweredBelow n own 0 count ws ws
unfolding set_below
answering_begun n own first count before ws l =
    record {
      same_length = refl;
      kept = λ i h. refl;
      lefts = λ j. refl;
      below = λ j h. omega (arith, l.none j h);
      rights = λ v s j h. l.none j h;
    }

one_more : (f : ℕ → Bool) (a : ℕ) → set_below a f + pick (f a) (2 ^ a) 0 ≡ set_below (a + 1) f
unfolding set_below
one_more f a = rw add-one refl

pub answering_more : (n own a count : ℕ) (before mid after : List ℕ) → 5 ≤ n → length after ≡ length mid
    → AnsweredBelow n own a count before mid → Answered n own a count mid after
    → AnsweredBelow n own (a + 1) count before after
answering_more n own a count before mid after h len b d =
    record {
      same_length = len ∙ b.same_length;
      kept = λ i l. d.kept i l ∙ b.kept i l;
      lefts = λ j. d.lefts j ∙ b.lefts j;
      below = λ j l. let e = ap (λ (k : ℕ). 2 ^ k) (add-one a) in omega (arith, d.below j l);
      rights = λ v s j l.
          let t = d.rights v (sown_kept v n before mid h (λ i k. b.kept i (omega (arith, two_planes n h))) s) j l in
          t
          ∙ ap₂ (λ (w x : ℕ). w + pick (asked_minimal v own x a) (2 ^ a) 0) (b.rights v s j l) (b.lefts j)
          ∙ one_more (asked_minimal v own (word before (left_at n j))) a;
    }

pub block_done : (n own first a count : ℕ) (start before after : List ℕ) → 5 ≤ n → a ≡ suc n
    → Lefts n first count start before → AnsweredBelow n own a count before after
    → Block n own first count start after
block_done n own first a count start before after h e l b =
    record {
      room = l.room;
      kept = λ i k. b.kept i k ∙ l.kept i k;
      first_left = b.lefts 0 ∙ l.first_left;
      cached = λ v s j k.
          let x = word before (left_at n j) in
          let m = s.members in
          let sown = sown_kept v n start before h (λ i g. l.kept i (omega (arith, two_planes n h))) s in
          record {
            left = subst (λ (z : ℕ). word after (left_at n j) < 2 ^ z) (sym m) (omega (arith, b.lefts j, l.lefts j k));
            rights =
                b.rights v sown j k
                ∙ ap₂ (λ (c y : ℕ). set_below c (asked_minimal v own y)) (e ∙ ap suc (sym m)) (sym (b.lefts j));
          };
    }
