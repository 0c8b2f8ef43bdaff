use Rattle.std.proofs.Common.{ℕ, sym}
use lib.ListN.{length-replicate}
use Rattle.pages.specs.Pages.{page_bound}
use Rattle.list.proofs.page_bytes.Goals as goal

pub returns : goal.returns
returns c = sym (length-replicate {A = ℕ} page_bound 0)
