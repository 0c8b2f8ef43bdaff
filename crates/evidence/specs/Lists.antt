-- What holds of some element of a list, and of each.
use mathlib.Core.List.{List, Memᴰ}

abbrev pub Some : {A : Type 0} → (A → Type 0) → List A → Type 0
Some {A} P xs = (x : A) × Memᴰ x xs × P x

abbrev pub Each : {A : Type 0} → (A → Type 0) → List A → Type 0
Each {A} P xs = (x : A) → Memᴰ x xs → P x
