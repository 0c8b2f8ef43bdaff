-- Tests on numbers that choose between two values. They stay shut, so that a proof takes them apart by the laws of
-- `proofs/Test.antt`.
use Rattle.std.specs.Prelude.{ℕ, Bool, true, false, ltb, leb, eqb}

abbrev pub pick : {A : Type 0} → Bool → A → A → A
pick true x y = x
pick false x y = y

-- x if a equals b, else y
unfoldable pub if_eq : {A : Type 0} → ℕ → ℕ → A → A → A
if_eq a b x y = pick (eqb a b) x y

-- x if a is below b, else y
unfoldable pub if_lt : {A : Type 0} → ℕ → ℕ → A → A → A
if_lt a b x y = pick (ltb a b) x y

-- x if a is at most b, else y
unfoldable pub if_le : {A : Type 0} → ℕ → ℕ → A → A → A
if_le a b x y = pick (leb a b) x y
