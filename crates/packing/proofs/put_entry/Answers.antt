-- `packing::put_entry` meets its contract: two stores, and a number.
use mathlib.Core.Path.{◌∙◌}
use native.Mathlib.Numerals.{towards_suc}
use Rattle.model.specs.Entries.{bytes_of}
use Rattle.packing.proofs.put_entry.Goals as goal

pub returns : goal.returns
unfolding bytes_of
returns c = c.put_u16.ensures ∙ simp towards_suc
