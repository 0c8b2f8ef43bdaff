-- `dependency::lay_question` meets its contract.
use Rattle.dependency.proofs.Members.{posed_bound, posed_keyed}
use Rattle.dependency.proofs.keyed.lay_question.Goals as goal

pub invariant_of-lay : goal.invariant_of-lay
invariant_of-lay c = record { accepted = c.requires.posed.accepted; known = c.requires.posed.target }

pub members_of-requires : goal.members_of-requires
members_of-requires c = posed_bound c.requires.posed

pub returns : goal.returns
returns c =
    posed_keyed c.requires.posed c.members_of.ensures
    c.lay.ensures.1
