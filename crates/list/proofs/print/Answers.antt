-- As long as pages are taken, the bytes taken and those still to come are the text.
use Rattle.std.proofs.Common.{arith, refl, rules}
use Rattle.model.specs.Text.{answer_text}
use Rattle.pages.proofs.Whole.{rest_none, answer_small}
use Rattle.text.specs.Written.{AppendsFirst}
use Rattle.list.proofs.Printed.{printed_first, printed_more, printed_whole, printed_count, torn_first, torn_more}
use Rattle.list.proofs.print.Goals as goal

pub returns-in_err-sum-clause-torn : goal.returns-in_err-sum-clause-torn
returns-in_err-sum-clause-torn g c =
    let torn : AppendsFirst (g.W.Write.contents c.args.to.now) (g.W.Write.contents c.write.new.to) (answer_text c.args.file.now) =
    torn_first _ _ _ _ _ _ c.first_page-page.ensures c.in_err-sum.ensures.torn in
    search rules

pub loop-page-init : goal.loop-page-init
loop-page-init g c = record {
  out_same = refl;
  work_same = refl;
  printed =
      printed_first _ _ _ _ _ _ _ c.first_page-page.ensures c.in_ok-sum.ensures.whole c.in_ok-sum.ensures.count;
  more = c.first_page-page.ensures.more;
}

pub returns-in_err-more-clause-torn : goal.returns-in_err-more-clause-torn
returns-in_err-more-clause-torn g c =
    let torn : AppendsFirst (g.W.Write.contents c.args.to.now) (g.W.Write.contents c.write-in-loop-page.new.to) (answer_text c.args.file.now) =
    torn_more _ _ _ _ _ _ _ _ _ c.loop-page.invariant.printed c.next_page-page.ensures.text c.in_err-more.ensures.torn in
    search rules

pub overflow_add-sum : goal.overflow_add-sum
overflow_add-sum g c =
    let more =
    printed_more _ _ _ _ _ _ _ _ _ _ c.loop-page.invariant.printed c.next_page-page.ensures.text
    c.in_ok-more.ensures.whole c.in_ok-more.ensures.count in
    omega (arith, more.counted, answer_small _ (c.loop-page.invariant.more c.loop-page-test.true).accepted)

pub loop-page-preserved : goal.loop-page-preserved
loop-page-preserved g c = record {
  out_same = search rules;
  work_same = search rules;
  printed =
      printed_more _ _ _ _ _ _ _ _ _ _ c.loop-page.invariant.printed c.next_page-page.ensures.text
      c.in_ok-more.ensures.whole c.in_ok-more.ensures.count;
  more = c.next_page-page.ensures.text.more;
}

pub returns-clause-count : goal.returns-clause-count
returns-clause-count g c =
    printed_count _ _ _ _ _ c.loop-page.invariant.printed (rest_none _ _ _ c.loop-page-test.false)

pub returns-clause-whole : goal.returns-clause-whole
returns-clause-whole g c =
    printed_whole _ _ _ _ _ c.loop-page.invariant.printed (rest_none _ _ _ c.loop-page-test.false)
