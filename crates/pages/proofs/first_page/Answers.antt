-- `first_page` meets its contract: the line `too long`, the line of a refusal, or the first page of the listing.
-- Assumes nothing.
use mathlib.Core.Path.{sym, ◌∙◌}
use native.Mathlib.Omega.{arith}
use Rattle.model.specs.Text.{too_long, refused_line}
use Rattle.model.proofs.Codes.{number_pos}
use Rattle.pages.proofs.Whole.{paged_alone, paged_as, answer_long, answer_refused, answer_listed, refused_short}
use Rattle.pages.proofs.first_page.Goals as goal

pub returns-then-file-gt-FILE_BOUND : goal.returns-then-file-gt-FILE_BOUND
returns-then-file-gt-FILE_BOUND c =
    paged_as (answer_long _ (omega arith)) (paged_alone _ too_long c.put_word-len.ensures (omega arith))

pub returns-in-Ok : goal.returns-in-Ok
returns-in-Ok c = paged_as (answer_listed _ (omega arith) (sym c.in-Ok.ensures)) c.head_page.ensures

pub returns-in-Err : goal.returns-in-Err
returns-in-Err c =
    let code = c.from.result in
    paged_as (answer_refused _ code (omega arith) (c.from.ensures ∙ c.in-Err.ensures)
    (λ z. number_pos c.in-Err.why (sym c.from.ensures ∙ z)))
    (paged_alone _ (refused_line code) c.put_refused-len.ensures
    (omega (arith, refused_short code (omega arith))))
