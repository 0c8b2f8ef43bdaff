-- All of a list, by its members' numbers.
use Prim.Native.Nat.{ℕ, zero, suc, ◌<◌}
use mathlib.Core.List.{List, [], ◌∷◌, ◌++◌}
use native.Mathlib.Omega.{arith}
use lib.ListN.{length, get_or, take}
use Rattle.encoding.specs.Each.{Each}

-- what holds of each holds of number k
pub each_at : {A : Type 0} (P : A → Type 0) (d : A) (l : List A) → Each P l → (k : ℕ) → k < length l → P (get_or l k d)
each_at P d [] h k m = absurd (omega arith)
each_at P d (x ∷ xs) h zero m = h.0
each_at P d (x ∷ xs) h (suc k) m = each_at P d xs h.1 k (omega arith)

-- and what holds of every number below the length holds of each
pub each_by : {A : Type 0} (P : A → Type 0) (d : A) (l : List A) → ((k : ℕ) → k < length l → P (get_or l k d)) → Each P l
each_by P d [] h = tt
each_by P d (x ∷ xs) h = (h 0 (omega arith), each_by P d xs (λ k m. h (suc k) (omega arith)))

-- and of the first k
pub each_take : {A : Type 0} (P : A → Type 0) (l : List A) → Each P l → (k : ℕ) → Each P (take k l)
each_take P [] h zero = tt
each_take P [] h (suc k) = tt
each_take P (x ∷ xs) h zero = tt
each_take P (x ∷ xs) h (suc k) = (h.0, each_take P xs h.1 k)

-- what holds of everything holds of each; and of some and others, one after the other
pub each_of : {A : Type 0} (P : A → Type 0) → ((x : A) → P x) → (l : List A) → Each P l
each_of P f [] = tt
each_of P f (x ∷ xs) = (f x, each_of P f xs)

pub each_append : {A : Type 0} (P : A → Type 0) (l m : List A) → Each P l → Each P m → Each P (l ++ m)
each_append P [] m g h = h
each_append P (x ∷ xs) m g h = (g.0, each_append P xs m g.1 h)
