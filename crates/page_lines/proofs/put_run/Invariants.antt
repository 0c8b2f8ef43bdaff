-- `put_run` meets its contract: what is put so far is the lines of the first entries.
use Rattle.std.proofs.Common.{take}
use Rattle.model.specs.Text.{lines_of}
use Rattle.text.specs.Puts.{Puts}
use Rattle.page_lines.proofs.put_run.Given as goal

abbrev pub invariant-loop-e : goal.invariant-loop-e
invariant-loop-e l = Puts (lines_of (take l.e-index l.run)) l.at l.initial.out l.out l.next
