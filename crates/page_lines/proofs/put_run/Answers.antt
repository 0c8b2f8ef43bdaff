-- The answers of `page_lines::put_run`.
use Rattle.page_lines.proofs.Parts.{puts_no_line, puts_line_more, puts_all}
use Rattle.page_lines.proofs.put_run.Goals as goal

pub loop-e-init : goal.loop-e-init
loop-e-init c = puts_no_line c.args.run.now _ _

pub loop-e-preserved : goal.loop-e-preserved
loop-e-preserved c =
    puts_line_more c.args.run.now c.loop-e.e-index _ c.loop-e-test.true c.loop-e.invariant c.put_line-next.ensures

pub returns : goal.returns
returns c = puts_all c.args.run.now c.loop-e.e-index c.loop-e-test.false c.loop-e.invariant
