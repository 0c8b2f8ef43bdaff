-- What the work words hold for a target between two left sides.
use Rattle.std.specs.Prelude.{ℕ, ◌-◌, ◌^◌, ◌≤◌, ◌<◌, ◌≡◌, ◌↔◌, List, length, Bool, true}
use Rattle.model.specs.View.{View, Backed}
use Rattle.model.specs.Listing.{Listing}
use Rattle.table.specs.Words.{word}
use Rattle.table.specs.Broken.{Table as Broken, minimal_mask}
use Rattle.table.specs.Backed.{BackedTable}
use Rattle.planes.specs.Plane.{seed_words, BackedBehind}
use Rattle.blocks.specs.Cache.{Roomy, Stocked}
use Rattle.rights.specs.Kept.{kept}
use Rattle.passing.specs.declared.Held.{Held}
use Rattle.passing.specs.declared.Held.TheVariants.{Table, Seeds}

-- the table of broken rights of a view, with a bit for what is backed
pub record Tabled (v : View) (words : List ℕ) : Type 0 where
  pub fits : 2 ^ v.members ≤ length words
  pub table : Broken v words
  pub backed : BackedTable v words

-- its seeds, the plane of what is backed, and a cache of rights, for a mask of rights
pub record Seeded (v : View) (own : ℕ) (words : List ℕ) : Type 0 where
  pub wide : 5 ≤ v.members
  pub roomy : Roomy v.members words
  pub stocked : Stocked v v.members own words

-- the plane of what is backed is put behind the seeds, and no other word changes
pub record BackedPut (v : View) (n : ℕ) (before after : List ℕ) : Type 0 where
  pub seeds : (i : ℕ) → i < seed_words n → word after i ≡ word before i
  pub past : (i : ℕ) → 2 ^ (n - 4) ≤ i → word after i ≡ word before i
  pub backed : BackedBehind v n after

abbrev pub Holding : Held → View → ℕ → List ℕ → Type 0
Holding Table v own words = Tabled v words
Holding Seeds v own words = Seeded v own words

-- the words are as `prepare` and `rights` leave them for a target, whose rights are the mask. Callers carry it along
-- and never look inside
pub record Ready (l : Listing) (target : ℕ) (held : Held) (mask : ℕ) (words : List ℕ) : Type 0 where
  pub rights : mask ≡ l.rights target
  pub holding : Holding held (l.view target) mask words

-- what reading rights off the words asks of them, for n members
abbrev pub Readable : Held → ℕ → List ℕ → Type 0
Readable Table n words = 2 ^ n ≤ length words
Readable Seeds n words = (5 ≤ n) × Roomy n words

-- the rights read for the left side x are the minimal ones, and the words still hold what they held
pub record MinimalBy (n x : ℕ) (held : Held) (own : ℕ) (before after : List ℕ) (r : ℕ) : Type 0 where
  pub minimal : (v : View) → v.members ≡ n → Holding held v own before → r ≡ minimal_mask v own x
  pub holding : (v : View) → v.members ≡ n → Holding held v own before → Holding held v own after

-- what the words say of the left side x: is it backed?
abbrev pub BackedBy : ℕ → ℕ → Held → List ℕ → Bool → Type 0
BackedBy n x held words r =
    (v : View) (own : ℕ) → v.members ≡ n → Holding held v own words → (r ≡ true) ↔ Backed v x

-- of some rights those that are kept for the left side x
abbrev pub KeptBy : ℕ → ℕ → Held → List ℕ → ℕ → ℕ → Type 0
KeptBy n x held words minimal r =
    (v : View) (own : ℕ) → v.members ≡ n → Holding held v own words → r ≡ kept v x minimal
