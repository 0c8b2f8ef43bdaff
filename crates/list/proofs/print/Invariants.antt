-- The bytes taken so far and those still to come are the text; the measure is the number of places left.
use Rattle.std.proofs.Common.{◌-◌, ◌<◌, ◌≡◌, length}
use Rattle.model.specs.Text.{answer_text}
use Rattle.pages.specs.Pages.{Listable, rest}
use Rattle.list.proofs.Printed.{Printed}
use Rattle.list.proofs.print.Given as goal

abbrev pub invariant-loop-page : goal.invariant-loop-page
invariant-loop-page g l = record {
  out_same : length l.out ≡ length l.initial.out;
  work_same : length l.work ≡ length l.initial.work;
  printed :
      Printed (g.W.Write.contents l.fn.to) (g.W.Write.contents l.to) (rest l.file l.page.place l.page.last)
      (answer_text l.file) l.sum;
  more : l.page.place < l.page.last → Listable l.file l.page.last;
}

abbrev pub decreases-loop-page : goal.decreases-loop-page
decreases-loop-page g l = l.page.last - l.page.place
