-- Agreement, dependency, key and minimal ("Agreement", and demand 2), and backed (document 02, d), over what a target
-- shows of itself: how many rows, how many members a left side may have, which rows agree on a member, and which have
-- its cell. Propositions in the words of the document, and beside them tests that compute; proofs/View.antt and
-- proofs/Backed.antt show that the two say the same.
use Rattle.std.specs.Prelude.{ℕ, zero, suc, ◌<◌, ◌≡◌, Bool, true, false, not, ◌&&◌, ◌||◌, T, eqb, ltb}
use Rattle.columns.specs.Set.{bit, without_of}
use Rattle.columns.specs.Test.{pick}
use Rattle.model.specs.Bounds.{row}

pub record View : Type 0 where
  pub rows : ℕ
  pub members : ℕ
  -- do two rows agree on a member?
  pub agree : ℕ → ℕ → ℕ → Bool
  -- is the cell of a member present in a row?
  pub present : ℕ → ℕ → Bool

-- agreement on each member is an equivalence of rows
pub record Equivalence (v : View) : Type 0 where
  pub reflexive : (k p : ℕ) → T (v.agree k p p)
  pub symmetric : (k p q : ℕ) → T (v.agree k p q) → T (v.agree k q p)
  pub transitive : (k p q r : ℕ) → T (v.agree k p q) → T (v.agree k q r) → T (v.agree k p r)

-- column k is in the left side x
abbrev pub In : ℕ → ℕ → Type 0
In k x = bit x k ≡ 1

-- the left side x is within y: each member of x is one of y
abbrev pub Within : View → ℕ → ℕ → Type 0
Within v x y = (k : ℕ) → k < v.members → In k x → In k y

-- two rows agree on a left side: on each member
abbrev pub AgreeOn : View → ℕ → ℕ → ℕ → Type 0
AgreeOn v x p q = (k : ℕ) → k < v.members → In k x → T (v.agree k p q)

-- two rows agree on the row only if they are one row, and on a column as the view says
abbrev pub agree_right : View → ℕ → ℕ → ℕ → Bool
agree_right v a p q = pick (eqb a row) (eqb p q) (v.agree a p q)

-- a dependency holds if all pairs of rows that agree on the left agree on the right
abbrev pub Holds : View → ℕ → ℕ → Type 0
Holds v x a =
    (p q : ℕ) → p < v.rows → q < v.rows → AgreeOn v x p q → T (agree_right v a p q)

-- with the row as the right side, the left is a key
abbrev pub Key : View → ℕ → Type 0
Key v x = Holds v x row

-- two rows break a dependency, the lower first: they agree on the left and disagree on the right
pub record Breaks (v : View) (x a p q : ℕ) : Type 0 where
  pub lower : p < q
  pub exists : q < v.rows
  pub left : AgreeOn v x p q
  pub right : T (agree_right v a p q) → ⊥

-- minimal: it holds, the right is not in the left, and no left with a column less holds
pub record Minimal (v : View) (x a : ℕ) : Type 0 where
  pub holds : Holds v x a
  pub outside : In a x → ⊥
  pub spare : (k : ℕ) → k < v.members → In k x → Holds v (without_of x k) a → ⊥

-- the same with 'no proper subset holds' for 'no left with a column less': no left within it that lacks one of its
-- members holds
pub record Least (v : View) (x a : ℕ) : Type 0 where
  pub holds : Holds v x a
  pub outside : In a x → ⊥
  pub least : (y : ℕ) → Within v y x → (k : ℕ) → k < v.members → In k x → (In k y → ⊥) → Holds v y a → ⊥

-- in a row all cells of a left side are present: that of each member
abbrev pub PresentOn : View → ℕ → ℕ → Type 0
PresentOn v x p = (k : ℕ) → k < v.members → In k x → T (v.present k p)

-- a left side is backed if in some row all its cells are present
pub record Backed (v : View) (x : ℕ) : Type 0 where
  pub witness : ℕ
  pub exists : witness < v.rows
  pub present : PresentOn v x witness

-- the tests: what holds of every number below n, and of some
unfoldable pub all_below : ℕ → (ℕ → Bool) → Bool
all_below zero f = true
all_below (suc n) f = f n && all_below n f

unfoldable pub some_below : ℕ → (ℕ → Bool) → Bool
some_below zero f = false
some_below (suc n) f = f n || some_below n f

-- column k is in the left side x
abbrev pub is_in : ℕ → ℕ → Bool
is_in k x = eqb (bit x k) 1

unfoldable pub agree_on : View → ℕ → ℕ → ℕ → Bool
agree_on v x p q = all_below v.members (λ k. not (is_in k x) || v.agree k p q)

unfoldable pub holds : View → ℕ → ℕ → Bool
holds v x a = all_below v.rows (λ p. all_below v.rows (λ q. not (agree_on v x p q) || agree_right v a p q))

-- do two rows break a dependency, the lower first?
unfoldable pub breaks : View → ℕ → ℕ → ℕ → ℕ → Bool
breaks v x a p q = ltb p q && (ltb q v.rows && (agree_on v x p q && not (agree_right v a p q)))

unfoldable pub minimal : View → ℕ → ℕ → Bool
minimal v x a =
    holds v x a && (not (is_in a x) && all_below v.members (λ k. not (is_in k x) || not (holds v (without_of x k) a)))

unfoldable pub present_on : View → ℕ → ℕ → Bool
present_on v x p = all_below v.members (λ k. not (is_in k x) || v.present k p)

unfoldable pub backed : View → ℕ → Bool
backed v x = some_below v.rows (present_on v x)
