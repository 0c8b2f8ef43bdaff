-- `file::put_u32` meets its contract: the four lowest bytes, stored at i.
use mathlib.Core.Path.{refl, ap, ◌∙◌}
use lib.ListN.{take}
use Rattle.model.specs.Bytes.{bytes4}
use Rattle.file.proofs.Stores.{stores}
use Rattle.file.proofs.put_u32.Goals as goal

pub returns : goal.returns
unfolding bytes4
returns c =
    let put = c.copy_from_slice.ensures.after ∙ ap (take 4) c.to_le_bytes.ensures in
    stores _ _ _ (bytes4 c.args.x) put refl c.requires
