-- From words to meaning: words that were scanned and closed say which rights each left side does not give, and the
-- rights read off them are the minimal ones.
use Prim.Native.Nat.{ℕ, suc, ◌+◌, ◌^◌, ◌≤◌, ◌<◌}
use mathlib.Core.Path.{◌≡◌, refl, sym, ap, subst, ◌∙◌}
use mathlib.Core.Logic.{◌⊎◌, inl, inr, ◌↔◌}
use mathlib.Core.Bool.{Bool, true, false, ◌&&◌}
use mathlib.Core.List.{List}
use native.Mathlib.Decide.{ℕ_discrete, dec_lt}
use native.Mathlib.Omega.{arith}
use borrow.Author.Tests.{ne_eqb}
use lib.Dec.{T, eqb}
use lib.Pow.{pow_mono}
use Rattle.columns.specs.Bound.{column_bound}
use Rattle.columns.specs.Set.{bit, without_of}
use Rattle.columns.specs.Test.{pick}
use Rattle.columns.proofs.Bits.{bit_past, bits_same, below_own_power, without_below}
use Rattle.columns.proofs.Test.{if_eq_yes, if_eq_no}
use Rattle.model.specs.Bounds.{row}
use Rattle.model.specs.View.{View, Equivalence, In, is_in, AgreeOn, agree_right, Holds, holds, Minimal, minimal}
use Rattle.model.proofs.Truth.{is_true, true_is, is_false, and_is, eqb_is, decided}
use Rattle.model.proofs.View.{is_in_is, holds_is, holds_false, false_holds, minimal_is}
use Rattle.model.proofs.View.{not_holds_breaks, breaks_holds_false}
use Rattle.table.specs.Words.{Above, Closed, Narrow, mark_at, ReadOff}
use Rattle.table.specs.Broken.{agree_set_of, Occurs, Scanned, Table, minimal_mask}
use Rattle.model.specs.Rights.{right_at}
use Rattle.columns.proofs.SetBelow.{set_below_lt}
use Rattle.table.proofs.Bits.{mask_bit}

-- which right a bit stands for
pub right_row : (n a : ℕ) → a ≡ n → right_at n a ≡ row
unfolding right_at
right_row n a e = if_eq_yes a e

pub right_column : (n a : ℕ) → (a ≡ n → ⊥) → right_at n a ≡ a
unfolding right_at
right_column n a d = if_eq_no row d

-- the agree set holds the members on which the rows agree
agree_set_in : (v : View) (p q k : ℕ) → (bit (agree_set_of v p q) k ≡ 1) ↔ ((k < v.members) × T (v.agree k p q))
agree_set_in v p q k = mask_bit v.members (λ (j : ℕ). v.agree j p q) k

pub agree_set_below : (v : View) (p q : ℕ) → agree_set_of v p q < 2 ^ v.members
agree_set_below v p q = set_below_lt v.members (λ (j : ℕ). v.agree j p q)

-- two rows agree on x exactly if their agree set is x or larger
pub above_agree_on : (v : View) (x p q : ℕ) → Above x (agree_set_of v p q) → AgreeOn v x p q
above_agree_on v x p q up k l i = ((agree_set_in v p q k).0 (up k i)).1

pub member_below : (n x k : ℕ) → x < 2 ^ n → bit x k ≡ 1 → k < n
member_below n x k h i = at (dec_lt k n)
  where
    at : Dec (k < n) → k < n
    at (yes l) = l
    at (no g) = absurd (omega (arith, bit_past x n k h (omega arith)))

pub agree_on_above : (v : View) (x p q : ℕ) → x < 2 ^ v.members → AgreeOn v x p q → Above x (agree_set_of v p q)
agree_on_above v x p q h agree k i =
    let l = member_below v.members x k h i in
    (agree_set_in v p q k).1 (l, agree k l i)

-- two different rows agree on a right exactly if their agree set holds its bit: never on the row
pub right_agreed : (v : View) (a p q : ℕ) → a ≤ v.members → v.members ≤ column_bound → p < q
    → T (agree_right v (right_at v.members a) p q) ↔ (bit (agree_set_of v p q) a ≡ 1)
right_agreed v a p q h b l = at (ℕ_discrete a v.members)
  where
    of_row : (p q : ℕ) → T (agree_right v row p q) → p ≡ q
    of_row p q t = (eqb_is p q).0 t

    of_column : (a : ℕ) → a < row → agree_right v a p q ≡ v.agree a p q
    of_column a k = ap (λ (t : Bool). pick t (eqb p q) (v.agree a p q)) (ne_eqb a row (λ e. omega arith))

    at : Dec (a ≡ v.members) → T (agree_right v (right_at v.members a) p q) ↔ (bit (agree_set_of v p q) a ≡ 1)
    at (yes e) = (
      λ t.
          let u = subst (λ (r : ℕ). T (agree_right v r p q)) (right_row v.members a e) t in
          absurd (omega (arith, of_row p q u)),
      λ i. absurd (omega (arith, bit_past (agree_set_of v p q) v.members a (agree_set_below v p q) (omega arith))),
    )
    at (no n) =
        let same = ap (λ (r : ℕ). agree_right v r p q) (right_column v.members a n) ∙ of_column a (omega arith) in (
          λ t. (agree_set_in v p q a).1 (omega arith, subst T same t),
          λ i. subst T (sym same) ((agree_set_in v p q a).0 i).1,
        )

digit_zero : (d : ℕ) → d < 2 → (d ≡ 1 → ⊥) → d ≡ 0
digit_zero d l n = omega arith

pub bit_zero_if : (x k : ℕ) → (bit x k ≡ 1 → ⊥) → bit x k ≡ 0
bit_zero_if x k n = digit_zero (bit x k) (omega arith) n

pub right_lacked : (v : View) (a p q : ℕ) → a ≤ v.members → v.members ≤ column_bound → p < q
    → (T (agree_right v (right_at v.members a) p q) → ⊥) → bit (agree_set_of v p q) a ≡ 0
right_lacked v a p q h b l n = bit_zero_if (agree_set_of v p q) a (λ i. n ((right_agreed v a p q h b l).1 i))

-- a left side x does not give right a exactly if an agree set that occurs is x or larger and a is not in it
abbrev pub BrokenBySet : View → ℕ → ℕ → Type 0
BrokenBySet v x a = (s : ℕ) × (s < 2 ^ v.members) × Above x s × (bit s a ≡ 0) × Occurs v s

pub broken_by_set : (v : View) (x a : ℕ) → Equivalence v → v.members ≤ column_bound → x < 2 ^ v.members
    → a ≤ v.members → BrokenBySet v x a ↔ (holds v x (right_at v.members a) ≡ false)
broken_by_set v x a eq b l h = (
  λ f.
      let p = f.4.0 in
      let q = f.4.1 in
      let lower = f.4.2.0 in
      let s = f.4.3 in
      let z = f.3 in
      breaks_holds_false
      (record {
        lower = lower;
        exists = f.4.2.1;
        left = above_agree_on v x p q (λ k i. ap (λ (t : ℕ). bit t k) s ∙ f.2 k i);
        right = λ t. omega (arith, (right_agreed v a p q h b lower).0 t, ap (λ (t : ℕ). bit t a) s);
      }),
  λ e.
      let g = not_holds_breaks v eq x (right_at v.members a) e in
      let p = g.0 in
      let q = g.1 in
      let k = g.2 in (
        agree_set_of v p q,
        agree_set_below v p q,
        agree_on_above v x p q l k.left,
        right_lacked v a p q h b k.lower k.right,
        (p, q, (k.lower, k.exists), refl),
      ),
)

-- the closed words say which rights each left side does not give
pub scanned_closed_table : (v : View) (before after : List ℕ) → Equivalence v → v.members ≤ column_bound
    → Scanned v before → Closed v.members before after → Table v after
scanned_closed_table v before after eq b scan close x a l h =
    let is = broken_by_set v x a eq b l h in (
      λ e.
          let f = close.sound x a l e in
          let g = (scan f.0 a f.1 h).0 f.3 in
          is.0 (f.0, f.1, f.2, g.1, g.0),
      λ e.
          let f = is.1 e in
          close.complete x f.0 a l f.1 f.2 ((scan f.0 a f.1 h).1 (f.4, f.3)),
    )

-- a right is in the left side x exactly if its bit is: the row never is
pub right_in : (n x a : ℕ) → n ≤ column_bound → x < 2 ^ n → a ≤ n → In (right_at n a) x ↔ (bit x a ≡ 1)
right_in n x a b l h = at (ℕ_discrete a n)
  where
    at : Dec (a ≡ n) → In (right_at n a) x ↔ (bit x a ≡ 1)
    at (yes e) =
        let r = ap (bit x) (right_row n a e) ∙ bit_past x n row l (omega arith) in
        (λ i. absurd (omega arith), λ i. absurd (omega (arith, bit_past x n a l (omega arith))))
    at (no d) = let r = ap (bit x) (right_column n a d) in (λ i. sym r ∙ i, λ i. r ∙ i)

-- what is read off marks of the left sides that do not give a right is what is minimal
pub narrow_minimal : (v : View) (mark : ℕ → ℕ) (x a : ℕ) → v.members ≤ column_bound → ((y : ℕ) → mark y < 2)
    → ((y : ℕ) → y < 2 ^ v.members → (mark y ≡ 1) ↔ (holds v y (right_at v.members a) ≡ false))
    → x < 2 ^ v.members → a ≤ v.members → Narrow mark x a ↔ Minimal v x (right_at v.members a)
narrow_minimal v mark x a b digit is l h = (
  λ f.
      let o = f.outside in
      record {
        holds = given f.given (decided (holds v x right));
        outside = λ i. omega (arith, (right_in v.members x a b l h).0 i);
        spare = λ k m i less.
            let y = without_of x k in
            holds_false v y right ((is y (without_below v.members x k l)).0 (f.spare k i)) less;
      },
  λ m.
      record {
        given = digit_zero (mark x) (digit x) (λ i. holds_false v x right ((is x l).0 i) m.holds);
        outside = bit_zero_if x a (λ i. m.outside ((right_in v.members x a b l h).1 i));
        spare = λ k i.
            (is (without_of x k) (without_below v.members x k l)).1
            (false_holds v (without_of x k) right (m.spare k (member_below v.members x k l i) i));
      },
)
  where
    right : ℕ
    right = right_at v.members a

    given : mark x ≡ 0 → T (holds v x right) ⊎ (T (holds v x right) → ⊥) → Holds v x right
    given e (inl t) = (holds_is v x right).0 t
    given e (inr n) = absurd (omega (arith, (is x l).1 (is_false n)))

-- the mask that `minimal_rights` promises, for words that are the table: the rights asked for that are minimal
pub rights_minimal : (v : View) (ws : List ℕ) (x own r : ℕ) → v.members ≤ column_bound → Table v ws → x < 2 ^ v.members
    → ((a : ℕ) → (bit r a ≡ 1) ↔ ReadOff ws x own a)
    → (a : ℕ) → a ≤ v.members → (bit r a ≡ 1) ↔ ((bit own a ≡ 1) × (minimal v x (right_at v.members a) ≡ true))
rights_minimal v ws x own r b table l read a h =
    let m = narrow_minimal v (mark_at ws a) x a b (λ y. omega arith) (λ y k. table y a k h) l h in
    let t = minimal_is v x (right_at v.members a) in (
      λ e. let f = (read a).0 e in (f.0, is_true (t.1 (m.0 f.1))),
      λ f. (read a).1 (f.0, m.1 (t.0 (true_is f.1))),
    )

-- bits that are 1 together are equal
same_digit : (b c : ℕ) → b < 2 → c < 2 → (b ≡ 1 → c ≡ 1) → (c ≡ 1 → b ≡ 1) → b ≡ c
same_digit b c hb hc f g = at (ℕ_discrete b 1) (ℕ_discrete c 1)
  where
    at : Dec (b ≡ 1) → Dec (c ≡ 1) → b ≡ c
    at (yes i) j = i ∙ sym (f i)
    at (no m) (yes j) = g j ∙ sym j
    at (no m) (no n) = omega arith

-- a mask whose bits are the rights asked for that are minimal is the number of those rights
pub minimal_mask_lem : (v : View) (x own r : ℕ) → own < 2 ^ suc v.members → ((a : ℕ) → bit r a ≡ 1 → bit own a ≡ 1)
    → ((a : ℕ) → a ≤ v.members → (bit r a ≡ 1) ↔ ((bit own a ≡ 1) × (minimal v x (right_at v.members a) ≡ true)))
    → r ≡ minimal_mask v own x
minimal_mask_lem v x own r o asked is =
    bits_same (r + width) r (minimal_mask v own x) (omega (arith, below_own_power r, pow_mono from_r))
    (omega (arith, set_below_lt width test, pow_mono from_width))
    (λ a k. same_digit (bit r a) (bit (minimal_mask v own x) a) (omega arith) (omega arith) (to a) (from a))
  where
    width : ℕ
    width = suc v.members

    from_r : r ≤ r + width
    from_r = omega arith

    from_width : width ≤ r + width
    from_width = omega arith

    test : ℕ → Bool
    test a = is_in a own && minimal v x (right_at v.members a)

    to : (a : ℕ) → bit r a ≡ 1 → bit (minimal_mask v own x) a ≡ 1
    to a e =
        let h = member_below width own a o (asked a e) in
        let m = (is a (omega arith)).0 e in
        (mask_bit width test a).1
        (h, (and_is (is_in a own) (minimal v x (right_at v.members a))).1 ((is_in_is a own).1 m.0, true_is m.1))

    from : (a : ℕ) → bit (minimal_mask v own x) a ≡ 1 → bit r a ≡ 1
    from a e =
        let f = (mask_bit width test a).0 e in
        let l = f.0 in
        let m = (and_is (is_in a own) (minimal v x (right_at v.members a))).0 f.1 in
        (is a (omega arith)).1 ((is_in_is a own).0 m.0, is_true m.1)

-- and so the mask that `minimal_rights` promises is that number
pub rights_mask : (v : View) (ws : List ℕ) (x own r : ℕ) → v.members ≤ column_bound → Table v ws → x < 2 ^ v.members
    → own < 2 ^ suc v.members → ((a : ℕ) → (bit r a ≡ 1) ↔ ReadOff ws x own a) → r ≡ minimal_mask v own x
rights_mask v ws x own r b table l o read =
    minimal_mask_lem v x own r o (λ a e. ((read a).0 e).0) (rights_minimal v ws x own r b table l read)
