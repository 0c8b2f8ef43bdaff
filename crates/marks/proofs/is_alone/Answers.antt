-- The answers of `marks::is_alone`.
use mathlib.Core.Path.{sym, ◌∙◌}
use native.Mathlib.Omega.{arith}
use lib.Bits.{and_le_l}
use Rattle.table.proofs.Reading.{lowest_part, rest_less}
use Rattle.planes.proofs.Marks.{place_inside}
use Rattle.marks.proofs.Reading.{alone_begun, alone_more, alone_failed, alone_done, mirror_read}
use Rattle.evidence.proofs.Answers.{says_yes, says_no}
use Rattle.marks.proofs.is_alone.Goals as goal

pub loop-rest-init : goal.loop-rest-init
loop-rest-init c = alone_begun _ _ _

pub overflow_sub-less : goal.overflow_sub-less
overflow_sub-less c = and_le_l _ _

pub overflow_sub-less-in-loop-rest : goal.overflow_sub-less-in-loop-rest
overflow_sub-less-in-loop-rest c = lowest_part _ _ (omega arith) c.loop-rest.invariant.within

pub bit_at-requires : goal.bit_at-requires
bit_at-requires c =
    place_inside c.args.m _ _ c.requires.0 (omega (arith, c.mirror.ensures))

pub returns-then-bit_at-ne0 : goal.returns-then-bit_at-ne0
returns-then-bit_at-ne0 c =
    let e = mirror_read c.args.lefts.now c.args.m _ c.mirror.ensures
    c.bit_at.ensures in
    says_no (alone_failed c.args.lefts.now _ _ _ (omega arith) c.loop-rest.invariant
    (λ z. c.if-bit_at-ne0.true (e ∙ z)))

pub loop-rest-smaller : goal.loop-rest-smaller
loop-rest-smaller c = rest_less _ (omega arith)

pub loop-rest-preserved : goal.loop-rest-preserved
loop-rest-preserved c =
    let e = mirror_read c.args.lefts.now c.args.m _ c.mirror.ensures
    c.bit_at.ensures in
    alone_more _ _ _ _ (omega arith) c.loop-rest.invariant (sym e ∙ c.if-bit_at-ne0.false)

pub returns : goal.returns
returns c = says_yes (alone_done _ _ _ _ (omega arith) c.loop-rest.invariant)
