-- The listing program's text in pages: what stands in the buffer, and what is still to come behind it.
use Rattle.std.specs.Prelude.{ℕ, ◌+◌, ◌*◌, ◌≤◌, ◌<◌, ◌≡◌, List, [], ◌++◌, length, take, drop}
use Rattle.columns.specs.Test.{if_lt}
use Rattle.model.specs.Bounds.{work_bound}
use Rattle.model.specs.Catalogue.{sets}
use Rattle.model.specs.Check.{Accepted}
use Rattle.model.specs.Calls.{flat}
use Rattle.model.specs.Listing.{cells, ordinary}
use Rattle.model.specs.Text.{lines_of}
use Rattle.listing.specs.Filled.{run_bound}
use Rattle.pages.specs.declared.Page.{Page}

-- bytes of a page: 13 for each entry of a run, and 64 for the head line
abbrev pub page_bound : ℕ
page_bound = 13 * run_bound + 64

-- work words that the program lends
abbrev pub word_count : ℕ
word_count = 65536

-- what is lent is enough for a page and for the listing call
pub record Lent (out work : List ℕ) : Type 0 where
  pub bytes : page_bound ≤ length out
  pub words : work_bound ≤ length work

-- the bytes are an accepted catalogue, and this is its last place
pub record Listable (cat : List ℕ) (last : ℕ) : Type 0 where
  pub accepted : Accepted cat
  pub whole : last ≡ sets cat

-- what is still to come from a place on: the lines of its entries, and nothing at the last
unfoldable pub rest : List ℕ → ℕ → ℕ → List ℕ
rest cat place last = if_lt place last (lines_of (flat (drop place (cells (ordinary cat))))) []

-- the bytes of a page, and what is still to come behind it, are a text
pub record Paged (cat text out : List ℕ) (p : Page) : Type 0 where
  pub is : take p.len out ++ rest cat p.place p.last ≡ text
  pub within : p.len ≤ length out
  pub more : p.place < p.last → Listable cat p.last
