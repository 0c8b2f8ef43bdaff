-- Entries that are sound, by planes that say which lefts are backed and which are broken, and the planes closed from
-- the listed lefts and the listed keys.
use Prim.Native.Nat.{ℕ, ◌^◌, ◌<◌}
use mathlib.Core.Path.{◌≡◌, sym, ap, subst, ◌∙◌}
use mathlib.Core.Logic.{◌↔◌}
use mathlib.Core.Bool.{Bool, true, false, not}
use mathlib.Core.List.{List, Memᴰ}
use native.Mathlib.Decide.{ℕ_discrete}
use native.Mathlib.Omega.{arith}
use Rattle.columns.specs.Set.{bit, without_of}
use Rattle.columns.proofs.Bits.{bits_same, bit_without_same, bit_without_other, without_below}
use Rattle.model.specs.Bounds.{row}
use Rattle.model.specs.Contains.{Inside, EntryFor, ContainsListed, ContainsKey}
use Rattle.model.specs.Verify.{NoOther, NoKey}
use Rattle.model.specs.declared.Entry.{Entry}
use Rattle.planes.specs.Bits.{plane_bit}
use Rattle.evidence.specs.Lists.{Each}
use Rattle.evidence.proofs.Answers.{read_no, read_yes}
use Rattle.marks.specs.Marks.{mirror, Alone}
use Rattle.marks.specs.Listed.{NarrowLeft, LeftsClosed, Keyless, SoundBy}
use Rattle.marks.proofs.Closed.{not_one}

-- an entry e, read as f, that is not backed, one that is broken, one that contains a key, and one of which none of this
-- is so: it is sound if it contains no other
module _ (backed broken keys lefts : List ℕ) (m target right : ℕ) {e f : Entry} (s : e ≡ f)
    (for : EntryFor target right f) where
  same : (plane : List ℕ) {d : ℕ} → d ≡ plane_bit plane e.left → d ≡ plane_bit plane f.left
  same plane q = q ∙ ap (λ (g : Entry). plane_bit plane g.left) s

  pub unbacked_entry : {b : ℕ} → b ≡ plane_bit backed e.left → b ≡ 0
      → SoundBy backed broken keys lefts m target right f → ⊥
  unbacked_entry is z sound = omega (arith, same backed is, (sound for).0)

  pub broken_entry : {c : ℕ} → c ≡ plane_bit broken e.left → (c ≡ 0 → ⊥)
      → SoundBy backed broken keys lefts m target right f → ⊥
  broken_entry q n sound = n (same broken q ∙ (sound for).1)

  pub keyed_entry : {r : Bool} → (r ≡ true) ↔ Keyless keys m right e.left → not r ≡ true
      → SoundBy backed broken keys lefts m target right f → ⊥
  keyed_entry is n sound = read_no (λ (g : Entry). Keyless keys m right g.left) s is n (sound for).3

  pub unbroken_entry : {b c : ℕ} {k r : Bool} → b ≡ plane_bit backed e.left → b ≡ 1 → c ≡ plane_bit broken e.left
      → c ≡ 0 → (k ≡ true) ↔ Keyless keys m right e.left → not k ≡ false → (r ≡ true) ↔ Alone lefts m e.left
      → (r ≡ true) ↔ SoundBy backed broken keys lefts m target right f
  unbroken_entry is o q z keyless y alone = (
    λ t i. (
      sym (same backed is) ∙ o,
      sym (same broken q) ∙ z,
      subst (λ (g : Entry). Alone lefts m g.left) s (alone.0 t),
      read_yes (λ (g : Entry). Keyless keys m right g.left) s keyless y,
    ),
    λ sound. alone.1 (subst (λ (g : Entry). Alone lefts m g.left) (sym s) (sound for).2),
  )

-- a set that is not marked by its mirror contains no listed left
unmarked_is : (es : List Entry) (target right m x : ℕ) (plane : List ℕ) → LeftsClosed es target right m plane
    → x < 2 ^ m → (plane_bit plane (mirror m x) ≡ 0) ↔ (ContainsListed es target right x → ⊥)
unmarked_is es target right m x plane closed l = (
  λ z listed. omega (arith, (closed.marks x l).1 listed),
  λ none. not_one (plane_bit plane (mirror m x)) (omega arith) (λ b. none ((closed.marks x l).0 b)),
)

-- no set that is x with a member less contains a listed left: x contains none but x itself
pub alone_is : (es : List Entry) (target right m x : ℕ) (plane : List ℕ) → LeftsClosed es target right m plane
    → Each (NarrowLeft m target right) es → x < 2 ^ m
    → Alone plane m x
    ↔ ((f : Entry) → Memᴰ f es → EntryFor target right f → (f.left ≡ x → ⊥) → Inside f.left x → ⊥)
alone_is es target right m x plane closed narrow l = (
  λ alone f i for other within. other (bits_same m f.left x (narrow f i for) l
      (λ k h. at alone f i for within k (ℕ_discrete (bit f.left k) 1) (ℕ_discrete (bit x k) 1))),
  λ none k i. (unmarked k).1
      (λ f. none f.0 f.1 f.2 (λ s. gone f.0.left k i s f.3) (more f.0.left k f.3)),
)
  where
    unmarked : (k : ℕ) → (plane_bit plane (mirror m (without_of x k)) ≡ 0)
        ↔ (ContainsListed es target right (without_of x k) → ⊥)
    unmarked k = unmarked_is es target right m (without_of x k) plane closed (without_below m x k l)

    -- what lies inside x without k
    less : (y k : ℕ) → Inside y x → bit y k ≡ 0 → Inside y (without_of x k)
    less y k within z j i = other (ℕ_discrete j k)
      where
        other : Dec (j ≡ k) → bit (without_of x k) j ≡ 1
        other (yes s) = absurd (omega (arith, ap (bit y) s))
        other (no n) = bit_without_other x j k n ∙ within j i

    more : (y k : ℕ) → Inside y (without_of x k) → Inside y x
    more y k within j i = other (ℕ_discrete j k)
      where
        other : Dec (j ≡ k) → bit x j ≡ 1
        other (yes s) = absurd (omega (arith, within j i, ap (bit (without_of x k)) s, bit_without_same x k))
        other (no n) = sym (bit_without_other x j k n) ∙ within j i

    at : Alone plane m x → (f : Entry) → Memᴰ f es → EntryFor target right f → Inside f.left x → (k : ℕ)
        → Dec (bit f.left k ≡ 1) → Dec (bit x k ≡ 1) → bit f.left k ≡ bit x k
    at alone f i for within k (yes e) d = e ∙ sym (within k e)
    at alone f i for within k (no n) (no o) =
        not_one (bit f.left k) (omega arith) n ∙ sym (not_one (bit x k) (omega arith) o)
    at alone f i for within k (no n) (yes e) =
        let z = not_one (bit f.left k) (omega arith) n in
        absurd ((unmarked k).0 (alone k e) (f, i, for, less f.left k within z))

    gone : (y k : ℕ) → bit x k ≡ 1 → y ≡ x → Inside y (without_of x k) → ⊥
    gone y k i s within = omega (arith, within k (ap (λ (z : ℕ). bit z k) s ∙ i), bit_without_same x k)

-- what `entries_sound` promises, in words: the entries for the two are backed and not broken, and contain no other left
-- that is listed for them, nor a listed key of the target if the right is a column
pub sound_for_is : (es : List Entry) (target right m : ℕ) (backed broken keys lefts : List ℕ)
    → LeftsClosed es target row m keys → LeftsClosed es target right m lefts → Each (NarrowLeft m target right) es
    → Each (SoundBy backed broken keys lefts m target right) es
    ↔ ((e : Entry) → Memᴰ e es → EntryFor target right e → (plane_bit backed e.left ≡ 1)
    × (plane_bit broken e.left ≡ 0) × NoOther es e × NoKey es e)
sound_for_is es target right m backed broken keys lefts key left narrow = (
  λ sound e i for. (
    (sound e i for).0,
    (sound e i for).1,
    λ f j like. (alone e i for).0 (sound e i for).2 f j (like.0 ∙ for.0, like.1 ∙ for.1),
    (keyless e i for).0 (sound e i for).3,
  ),
  λ words e i for. (
    (words e i for).0,
    (words e i for).1,
    (alone e i for).1 (λ f j same. (words e i for).2 f j (same.0 ∙ sym for.0, same.1 ∙ sym for.1)),
    (keyless e i for).1 (words e i for).3,
  ),
)
  where
    alone : (e : Entry) → Memᴰ e es → EntryFor target right e
        → Alone lefts m e.left
        ↔ ((f : Entry) → Memᴰ f es → EntryFor target right f → (f.left ≡ e.left → ⊥)
        → Inside f.left e.left → ⊥)
    alone e i for = alone_is es target right m e.left lefts left narrow (narrow e i for)

    keyless : (e : Entry) → Memᴰ e es → EntryFor target right e → Keyless keys m right e.left ↔ NoKey es e
    keyless e i for =
        let is = unmarked_is es target row m e.left keys key (narrow e i for) in (
          λ none column k.
              is.0 (none (λ q. column (for.1 ∙ q))) (subst (λ (t : ℕ). ContainsKey es t e.left) for.0 k),
          λ none column.
              is.1 (λ k.
              none (λ q. column (sym for.1 ∙ q))
              (subst (λ (t : ℕ). ContainsKey es t e.left) (sym for.0) k)),
        )
