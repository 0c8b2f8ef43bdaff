-- Joining the columns one after the other closes the words over larger left sides: after k columns the word of x has
-- the bits of each left side that is x or larger and differs from x below column k only. Soundness and completeness,
-- for every n.
use Prim.Native.Nat.{ℕ, zero, suc, ◌^◌, ◌≤◌, ◌<◌, max}
use mathlib.Core.Path.{◌≡◌, refl, sym, ap, ◌∙◌, subst}
use mathlib.Core.Logic.{◌⊎◌, inl, inr, ⊎_elim}
use mathlib.Core.List.{List}
use native.Mathlib.Decide.{ℕ_discrete}
use native.Mathlib.Omega.{arith}
use lib.Bits.{bit_or}
use lib.ListN.{length}
use Rattle.columns.specs.Set.{bit}
use Rattle.columns.proofs.Bits.{bits_same, bit_past}
use Rattle.table.specs.Words.{word, Above, ColumnJoined, Closed}
use Rattle.table.proofs.Bits.{bit_or_lem, bit_with_same, bit_with_other, with_below}

-- s is x or larger, and the same from column k on
pub record Reach (k x s : ℕ) : Type 0 where
  pub above : Above x s
  pub same : (j : ℕ) → k ≤ j → bit s j ≡ bit x j

reach_more : (k x s : ℕ) → Reach k x s → Reach (suc k) x s
reach_more k x s r = record { above = r.above; same = λ j l. r.same j (omega arith) }

-- through the left side with column k
reach_with : (k x s : ℕ) → Reach k (bit_or x (2 ^ k)) s → Reach (suc k) x s
reach_with k x s r =
    record {
      above = λ j i. r.above j (omega (arith, bit_or_lem x (2 ^ k) j));
      same = λ j l. r.same j (omega arith) ∙ bit_with_other x j k (λ e. omega arith);
    }

-- what is reached with column k more is reached from x, or from x with column k
reach_split : (k x s : ℕ) → Reach (suc k) x s → Reach k x s ⊎ Reach k (bit_or x (2 ^ k)) s
reach_split k x s r = at (ℕ_discrete (bit s k) (bit x k))
  where
    one : (s x : ℕ) → (s ≡ x → ⊥) → s < 2 → x < 2 → (x ≡ 1 → s ≡ 1) → s ≡ 1
    one zero zero n hs hx f = absurd (n refl)
    one zero (suc zero) n hs hx f = f refl
    one zero (suc (suc x)) n hs hx f = absurd (omega arith)
    one (suc s) x n hs hx f = omega arith

    same_from : bit s k ≡ bit x k → (j : ℕ) → k ≤ j → Dec (j ≡ k) → bit s j ≡ bit x j
    same_from e j l (yes i) = subst (λ (z : ℕ). bit s z ≡ bit x z) (sym i) e
    same_from e j l (no n) = r.same j (omega arith)

    with_above : bit s k ≡ 1 → (j : ℕ) → Dec (j ≡ k) → bit (bit_or x (2 ^ k)) j ≡ 1 → bit s j ≡ 1
    with_above e j (yes i) h = subst (λ (z : ℕ). bit s z ≡ 1) (sym i) e
    with_above e j (no n) h = r.above j (sym (bit_with_other x j k n) ∙ h)

    with_same : bit s k ≡ 1 → (j : ℕ) → k ≤ j → Dec (j ≡ k) → bit s j ≡ bit (bit_or x (2 ^ k)) j
    with_same e j l (yes i) =
        subst (λ (z : ℕ). bit s z ≡ bit (bit_or x (2 ^ k)) z) (sym i) (e ∙ sym (bit_with_same x k))
    with_same e j l (no n) = r.same j (omega arith) ∙ sym (bit_with_other x j k n)

    at : Dec (bit s k ≡ bit x k) → Reach k x s ⊎ Reach k (bit_or x (2 ^ k)) s
    at (yes e) = inl (record { above = r.above; same = λ j l. same_from e j l (ℕ_discrete j k) })
    at (no n) =
        let e = one (bit s k) (bit x k) n (omega arith) (omega arith) (r.above k) in
        inr
        (record {
          above = λ j h. with_above e j (ℕ_discrete j k) h;
          same = λ j l. with_same e j l (ℕ_discrete j k);
        })

-- the first k columns joined
pub record ClosedBelow (n k : ℕ) (before after : List ℕ) : Type 0 where
  pub same_length : length after ≡ length before
  pub sound : (x a : ℕ) → x < 2 ^ n → bit (word after x) a ≡ 1
      → (s : ℕ) × (s < 2 ^ n) × Reach k x s × (bit (word before s) a ≡ 1)
  pub complete : (x s a : ℕ) → x < 2 ^ n → s < 2 ^ n → Reach k x s → bit (word before s) a ≡ 1
      → bit (word after x) a ≡ 1
  pub past : (y : ℕ) → 2 ^ n ≤ y → word after y ≡ word before y

pub close_begun : (n : ℕ) (ws : List ℕ) → ClosedBelow n 0 ws ws
close_begun n ws =
    record {
      same_length = refl;
      sound = λ x a l e. (x, l, record { above = λ j i. i; same = λ j h. refl }, e);
      complete = λ x s a l m r e.
          subst (λ (z : ℕ). bit (word ws z) a ≡ 1) (bits_same n s x m l (λ j h. r.same j (omega arith))) e;
      past = λ y l. refl;
    }

either : (x y : ℕ) → max x y ≡ 1 → x < 2 → y < 2 → (x ≡ 1) ⊎ (y ≡ 1)
either zero y e hx hy = inr (omega arith)
either (suc x) y e hx hy = inl (omega arith)

pub close_more : (n k : ℕ) (before mid after : List ℕ) → k < n → ClosedBelow n k before mid → ColumnJoined n k mid after
    → ClosedBelow n (suc k) before after
close_more n k before mid after h c j =
    record {
      same_length = j.same_length ∙ c.same_length;
      sound = λ x a l e.
          ⊎_elim (λ f. near x (c.sound x a l f)) (λ f. far x (c.sound (bit_or x (2 ^ k)) a (with_below n x k l h) f))
          (either (bit (word mid x) a) (bit (word mid (bit_or x (2 ^ k))) a) (sym (bits x l a) ∙ e)
          (omega arith) (omega arith));
      complete = λ x s a l m r e.
          let b = bits x l a in
          ⊎_elim (λ q. let i = c.complete x s a l m q e in omega arith)
          (λ q. let i = c.complete (bit_or x (2 ^ k)) s a (with_below n x k l h) m q e in omega arith)
          (reach_split k x s r);
      past = λ y l. j.past y l ∙ c.past y l;
    }
  where
    bits : (x : ℕ) → x < 2 ^ n → (a : ℕ)
        → bit (word after x) a ≡ max (bit (word mid x) a) (bit (word mid (bit_or x (2 ^ k))) a)
    bits x l a = ap (λ (z : ℕ). bit z a) (j.joined x l) ∙ bit_or_lem (word mid x) (word mid (bit_or x (2 ^ k))) a

    near : (x : ℕ) {P : ℕ → Type 0} → (s : ℕ) × (s < 2 ^ n) × Reach k x s × P s
        → (s : ℕ) × (s < 2 ^ n) × Reach (suc k) x s × P s
    near x f = (f.0, f.1, reach_more k x f.0 f.2, f.3)

    far : (x : ℕ) {P : ℕ → Type 0} → (s : ℕ) × (s < 2 ^ n) × Reach k (bit_or x (2 ^ k)) s × P s
        → (s : ℕ) × (s < 2 ^ n) × Reach (suc k) x s × P s
    far x f = (f.0, f.1, reach_with k x f.0 f.2, f.3)

-- all n columns joined: below 2 ^ n no bit stands from n on
pub close_done : (n k : ℕ) (before after : List ℕ) → k ≡ n → ClosedBelow n k before after → Closed n before after
close_done n k before after e c =
    record {
      same_length = c.same_length;
      sound = λ x a l f. let g = c.sound x a l f in (g.0, g.1, g.2.above, g.3);
      complete = λ x s a l m up f.
          c.complete x s a l m (record { above = up; same = λ j h. none s j m h ∙ sym (none x j l h) }) f;
      past = c.past;
    }
  where
    none : (y j : ℕ) → y < 2 ^ n → k ≤ j → bit y j ≡ 0
    none y j b h = bit_past y n j b (omega arith)
