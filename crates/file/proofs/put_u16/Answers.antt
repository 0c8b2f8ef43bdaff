-- `file::put_u16` meets its contract: the two lowest bytes, stored at i.
use mathlib.Core.Path.{refl, ap, ◌∙◌}
use lib.ListN.{take}
use Rattle.model.specs.Bytes.{bytes2}
use Rattle.file.proofs.Stores.{stores}
use Rattle.file.proofs.put_u16.Goals as goal

pub returns : goal.returns
unfolding bytes2
returns c =
    let put = c.copy_from_slice.ensures.after ∙ ap (take 2) c.to_le_bytes.ensures in
    stores _ _ _ (bytes2 c.args.x) put refl c.requires
