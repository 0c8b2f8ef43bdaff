-- What a call hands back to C: one number, a refusal's number made negative or a value of the answer, and the numbers
-- behind lent pointers.
use Rattle.std.specs.Prelude.{ℕ, suc, [], ◌∷◌, ℤ, pos, negsuc, neg_ℤ, get_or}
use Rattle.model.specs.Reply.{Reply, refused, answered}

-- a refusal's number made negative, or the answer's value at an index
abbrev pub number_of : ℕ → Reply → ℤ
number_of i (refused n) = neg_ℤ (pos n)
number_of i (answered vs) = pos (get_or vs i 0)

-- what a lent number is afterwards: the answer's value at an index, or, after a refusal and where the answer has no
-- such value, what it was before
abbrev pub value_or : ℕ → ℕ → Reply → ℕ
value_or i old (refused n) = old
value_or i old (answered vs) = get_or vs i old

-- 0 for an answer, or the refusal
abbrev pub status_of : Reply → ℤ
status_of (refused n) = neg_ℤ (pos n)
status_of (answered vs) = pos 0

-- 1 for an answer that has a value, 0 for one that has none, or the refusal
abbrev pub found_of : Reply → ℤ
found_of (refused n) = neg_ℤ (pos n)
found_of (answered []) = pos 0
found_of (answered (v ∷ vs)) = pos 1

-- the reply that an entry count and the two numbers behind lent pointers show: the place reached, the sets passed and
-- the count, or a refusal
abbrev pub list_seen : ℤ → ℕ → ℕ → Reply
list_seen (negsuc n) place passed = refused (suc n)
list_seen (pos n) place passed = answered (place ∷ passed ∷ n ∷ [])
