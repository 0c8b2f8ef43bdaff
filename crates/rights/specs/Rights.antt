-- The listed rights of one left side as a number, and the entries that such a number stands for. Where a target has n
-- members, bit k of the number stands for member k, and bit n for the row.
use Rattle.std.specs.Prelude.{ℕ, zero, suc, List, [], ◌∷◌, ◌&&◌}
use Rattle.std.specs.Int.Count.{count_trailing_zeros}
use Rattle.columns.specs.Set.{bit, set_below}
use Rattle.columns.specs.Test.{if_eq}
use Rattle.model.specs.View.{View, is_in}
use Rattle.model.specs.Listed.{listed}
use Rattle.model.specs.Rights.{right_at}
use Rattle.model.specs.Listing.{Listing}
use Rattle.model.specs.Entry.{entry}
use Rattle.model.specs.declared.Entry.{Entry}

-- of a mask of rights, those that are listed with the left side x
abbrev pub listed_mask : View → ℕ → ℕ → ℕ
listed_mask v own x = set_below (suc v.members) (λ k. is_in k own && listed v x (right_at v.members k))

-- the listed rights of a left side of a target
abbrev pub listed_rights : Listing → ℕ → ℕ → ℕ
listed_rights l target left = listed_mask (l.view target) (l.rights target) left

-- the entries of the bits of m from k on, j in all, that are 1
unfoldable pub entries_in : ℕ → ℕ → ℕ → ℕ → ℕ → ℕ → List Entry
entries_in target left n m zero k = []
entries_in target left n m (suc j) k =
    if_eq (bit m k) 1 (entry target left (right_at n k) ∷ entries_in target left n m j (suc k))
    (entries_in target left n m j (suc k))

-- the entries of the rights in m, in ascending order and the row last
unfoldable pub entries_of_mask : ℕ → ℕ → ℕ → ℕ → List Entry
entries_of_mask target left n m = entries_in target left n m (suc n) 0

-- the lowest bit of m that is 1
unfoldable pub lowest : ℕ → ℕ
lowest m = count_trailing_zeros 32 m
