-- The table of broken rights of a view ("Agreement", and demand 2): which bits its words have after the scan over
-- pairs of rows, what they say once closed, and the minimal rights of one left side as a number. Bit a stands for
-- column a, and the bit above the last column for the row.
use Rattle.std.specs.Prelude.{ℕ, suc, ◌-◌, ◌^◌, ◌≤◌, ◌<◌, ◌≡◌, ◌↔◌, false, ◌&&◌, List}
use Rattle.columns.specs.Set.{bit, set_below}
use Rattle.model.specs.Rights.{right_at}
use Rattle.model.specs.View.{View, is_in, holds, minimal}
use Rattle.table.specs.Words.{word}

-- the agree set of two rows: the members on which they agree
abbrev pub agree_set_of : View → ℕ → ℕ → ℕ
agree_set_of v p q = set_below v.members (λ k. v.agree k p q)

-- the pairs of different rows, the lower first
abbrev pub Pair : View → ℕ → ℕ → Type 0
Pair v p q = (p < q) × (q < v.rows)

-- an agree set occurs among some pairs of rows: it is that of one of them; and among all
abbrev pub OccursIn : View → (ℕ → ℕ → Type 0) → ℕ → Type 0
OccursIn v P s = (p : ℕ) × (q : ℕ) × P p q × (agree_set_of v p q ≡ s)

abbrev pub Occurs : View → ℕ → Type 0
Occurs v = OccursIn v (Pair v)

-- the words are what some pairs of rows give: at each agree set that occurs among them, the rights that are not in it
abbrev pub GivenBy : View → (ℕ → ℕ → Type 0) → List ℕ → Type 0
GivenBy v P ws =
    (s a : ℕ) → s < 2 ^ v.members → a ≤ v.members
    → (bit (word ws s) a ≡ 1) ↔ (OccursIn v P s × (bit s a ≡ 0))

-- what the agree set s breaks, of n members: all rights up to the row, but for those in the set
abbrev pub broken_by : ℕ → ℕ → ℕ
broken_by n s = 2 ^ suc n - 1 - s

-- the words after the scan over all pairs of rows
abbrev pub Scanned : View → List ℕ → Type 0
Scanned v ws = GivenBy v (Pair v) ws

-- the words once closed: bit a of the word at x is 1 exactly if x does not give right a
abbrev pub Table : View → List ℕ → Type 0
Table v ws =
    (x a : ℕ) → x < 2 ^ v.members → a ≤ v.members
    → (bit (word ws x) a ≡ 1) ↔ (holds v x (right_at v.members a) ≡ false)

-- the rights of the left side x as a number: those asked for that are minimal
abbrev pub minimal_mask : View → ℕ → ℕ → ℕ
minimal_mask v own x =
    set_below (suc v.members) (λ a. is_in a own && minimal v x (right_at v.members a))
