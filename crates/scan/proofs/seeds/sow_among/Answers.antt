-- `scan::sow_among` meets its contract.
use Rattle.scan.proofs.Seeing.{blank_begun}
use Rattle.scan.proofs.Writing.{sown_among}
use Rattle.scan.proofs.seeds.sow_among.Goals as goal

pub occurring-requires : goal.occurring-requires
occurring-requires c = blank_begun

pub returns : goal.returns
returns c =
    let w = c.write_seeds.ensures in
    (w.same_length, sown_among c.occurring.ensures _ c.requires.0 w)
