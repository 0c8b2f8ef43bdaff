-- What the entries of a list say of a set of columns: whether it contains a left that is listed for a target and a
-- right, or a listed key (document 02, b and e); and that a full listing loses nothing by what it leaves out.
use Rattle.std.specs.Prelude.{ℕ, ◌^◌, ◌<◌, ◌≡◌, ◌⊎◌, ◌↔◌}
use mathlib.Core.List.{List, Memᴰ}
use Rattle.model.specs.Bounds.{row}
use Rattle.model.specs.View.{In, Holds, Backed}
use Rattle.model.specs.Listing.{Listing, width_of, rights_of, cells}
use Rattle.model.specs.Calls.{flat}
use Rattle.model.specs.declared.Entry.{Entry}

-- the set x lies inside y, which contains it: each member of x is one of y
abbrev pub Inside : ℕ → ℕ → Type 0
Inside x y = (k : ℕ) → In k x → In k y

-- an entry is for a target and a right
abbrev pub EntryFor : ℕ → ℕ → Entry → Type 0
EntryFor target right e = (e.target ≡ target) × (e.right ≡ right)

-- a set contains a left that is listed for a target and a right; or a listed key of the target
abbrev pub ContainsListed : List Entry → ℕ → ℕ → ℕ → Type 0
ContainsListed es target right x =
    (e : Entry) × Memᴰ e es × EntryFor target right e × Inside e.left x

abbrev pub ContainsKey : List Entry → ℕ → ℕ → Type 0
ContainsKey es target x = ContainsListed es target row x

-- nothing is lost: for every backed left side and every right not in it, the dependency holds exactly if the left side
-- contains a left that is listed for that right, or a listed key
abbrev pub NothingLost : Listing → Type 0
NothingLost l =
    (target x right : ℕ) → target < l.targets → x < 2 ^ width_of l target → Memᴰ right (rights_of l target)
    → (In right x → ⊥) → Backed (l.view target) x
    → Holds (l.view target) x right
    ↔ (ContainsListed (flat (cells l)) target right x ⊎ ContainsKey (flat (cells l)) target x)
