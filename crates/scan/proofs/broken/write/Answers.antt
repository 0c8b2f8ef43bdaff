-- `scan::write` meets its contract.
use Rattle.scan.proofs.Seeing.{blank_begun}
use Rattle.scan.proofs.Writing.{written_small, written_scanned}
use Rattle.scan.proofs.broken.write.Goals as goal

pub occurring-requires : goal.occurring-requires
occurring-requires c = blank_begun

pub returns : goal.returns
returns c =
    let seen = c.occurring.ensures in
    let w = c.write_broken.ensures in
    (written_small seen w, written_scanned seen w)
