-- The rights of a left side from the cursor's pair, or from a new block: they are the minimal ones, and the words stay
-- ready.
use Prim.Native.Nat.{ℕ, suc, ◌+◌, ◌*◌, ◌≤◌, ◌<◌}
use mathlib.Core.Path.{◌≡◌, sym, ap, ◌∙◌}
use mathlib.Core.List.{List}
use native.Mathlib.Omega.{arith}
use lib.ListN.{length, set, length-set}
use lib.Seq.{get_or-set_same, get_or-set_other}
use Rattle.model.specs.View.{View}
use Rattle.table.specs.Words.{word}
use Rattle.table.specs.Broken.{minimal_mask}
use Rattle.planes.specs.Plane.{Sown, BackedBehind}
use Rattle.planes.proofs.Seeds.{sown_kept}
use Rattle.planes.proofs.Backed.{two_planes, behind_kept}
use Rattle.blocks.specs.Cache.{cursor_at, pairs_at, left_at, Roomy, Cached, Stocked, Block, AtCursor, RightsFrom}

-- words whose count is 0 are ready once they hold the seeds and the plane of backed left sides
pub roomy_begun : (n : ℕ) (ws : List ℕ) → pairs_at n + 2 ≤ length ws → word ws (cursor_at n + 1) ≡ 0 → Roomy n ws
roomy_begun n ws h e = record { one = h; count = omega arith }

pub ready_begun : (v : View) (n own : ℕ) (ws : List ℕ) → Sown v n ws → BackedBehind v n ws
    → word ws (cursor_at n + 1) ≡ 0 → Stocked v n own ws
ready_begun v n own ws s b e = record { sown = s; backed = b; cached = λ j l. absurd (omega arith) }

-- the same pairs
cached_kept : (v : View) (own from m k : ℕ) (before after : List ℕ) → k ≡ m
    → ((i : ℕ) → from ≤ i → word after i ≡ word before i) → Cached v own before from m → Cached v own after from k
cached_kept v own from m k before after e kept c j l =
    let p = c j (omega arith) in
    let s = kept (from + 2 * j) (omega arith) in
    record {
      left = omega (arith, p.left);
      rights = kept (suc (from + 2 * j)) (omega arith) ∙ p.rights ∙ ap (minimal_mask v own) (sym s);
    }

-- the cursor's pair answers, and the cursor moves
module _ (n own x m : ℕ) (ws : List ℕ) (h : 5 ≤ n) (is : m ≡ cursor_at n) (roomy : Roomy n ws)
    (at : AtCursor n x ws) where
  abbrev moved : List ℕ
  moved = set ws m (word ws m + 1)

  same : (i : ℕ) → (i ≡ m → ⊥) → word moved i ≡ word ws i
  same i d = get_or-set_other ws m i (word ws m + 1) 0 d

  pub cursor_rights : RightsFrom n own x ws (set ws m (word ws m + 1))
      (word (set ws m (word ws m + 1)) (m + 2 + 2 * word ws m + 1))
  cursor_rights =
      let c : word ws m ≡ word ws (cursor_at n) = ap (word ws) is in
      let q : word moved (cursor_at n + 1) ≡ word ws (cursor_at n + 1) = same (cursor_at n + 1) (λ e. omega arith) in
      record {
        roomy = record {
          one = omega (arith, roomy.one, length-set ws m (word ws m + 1));
          count = omega (arith, roomy.count, length-set ws m (word ws m + 1));
        };
        rights = λ v r.
            let p = r.cached (word ws (cursor_at n)) at.some in
            let i : m + 2 + 2 * word ws m + 1 ≡ suc (left_at n (word ws (cursor_at n))) = omega arith in
            same (m + 2 + 2 * word ws m + 1) (λ e. omega arith) ∙ ap (word ws) i ∙ p.rights
            ∙ ap (minimal_mask v own) at.left;
        ready = λ v r.
            record {
              sown = sown_kept v n ws moved h (λ i l. same i (λ e. omega (arith, two_planes n h))) r.sown;
              backed = behind_kept v n ws moved h (λ i l. same i (λ e. omega (arith, two_planes n h))) r.backed;
              cached =
                  cached_kept v own (pairs_at n) (word ws (cursor_at n + 1)) (word moved (cursor_at n + 1)) ws moved q
                  (λ i l. same i (λ e. omega arith)) r.cached;
            };
      }

-- a new block answers, and the cursor stands behind its first pair
module _ (n own x m count : ℕ) (before mid : List ℕ) (h : 5 ≤ n) (is : m ≡ cursor_at n)
    (len : length mid ≡ length before) (one : pairs_at n + 2 ≤ length before) (b : Block n own x count before mid) where
  abbrev begun : List ℕ
  begun = set (set mid m 1) (m + 1) count

  rest : (i : ℕ) → (i ≡ m → ⊥) → (i ≡ m + 1 → ⊥) → word begun i ≡ word mid i
  rest i d e = get_or-set_other (set mid m 1) (m + 1) i count 0 e ∙ get_or-set_other mid m i 1 0 d

  kept : (i : ℕ) → i < cursor_at n → word begun i ≡ word before i
  kept i l = rest i (λ e. omega arith) (λ e. omega arith) ∙ b.kept i (omega arith)

  counted : word begun (cursor_at n + 1) ≡ count
  counted =
      ap (λ (k : ℕ). word begun (k + 1)) (sym is)
      ∙ get_or-set_same (set mid m 1) (m + 1) count 0 (omega (arith, length-set mid m 1))

  pub block_rights : RightsFrom n own x before (set (set mid m 1) (m + 1) count)
      (word (set (set mid m 1) (m + 1) count) (m + 3))
  block_rights =
      let long : length begun ≡ length before = length-set (set mid m 1) (m + 1) count ∙ length-set mid m 1 ∙ len in
      record {
        roomy = record { one = omega arith; count = omega (arith, counted, b.room.fits) };
        rights = λ v r.
            let p = b.cached v r.sown 0 b.room.some in
            let i : m + 3 ≡ suc (left_at n 0) = omega arith in
            rest (m + 3) (λ e. omega arith) (λ e. omega arith) ∙ ap (word mid) i ∙ p.rights
            ∙ ap (minimal_mask v own) b.first_left;
        ready = λ v r.
            record {
              sown = sown_kept v n before begun h
                  (λ i l. kept i (omega (arith, two_planes n h))) r.sown;
              backed = behind_kept v n before begun h
                  (λ i l. kept i (omega (arith, two_planes n h))) r.backed;
              cached = cached_kept v own (pairs_at n) count (word begun (cursor_at n + 1)) mid begun counted
                  (λ i l. rest i (λ e. omega arith) (λ e. omega arith)) (b.cached v r.sown);
            };
      }
