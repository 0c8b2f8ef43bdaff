-- The answers of `blocks::answer_right`.
use native.Mathlib.Omega.{arith}
use borrow.Author.Rules.{rules}
use Rattle.planes.proofs.Bits.{seed_words_small}
use Rattle.planes.proofs.Backed.{two_planes}
use Rattle.blocks.proofs.Answers.{answered_some}
use Rattle.blocks.proofs.answer_right.Goals as goal

pub fill-requires : goal.fill-requires
fill-requires c =
    let h = seed_words_small c.args.n (omega arith) in
    let t = two_planes c.args.n c.requires.0 in
    search rules

pub add_right-requires : goal.add_right-requires
add_right-requires c = let h = seed_words_small c.args.n (omega arith) in search rules

pub returns : goal.returns
returns c =
    answered_some _ _ _ _ _ _ _ (omega arith) (omega arith) (omega arith) c.requires.4 c.fill.ensures
    c.add_right.ensures
