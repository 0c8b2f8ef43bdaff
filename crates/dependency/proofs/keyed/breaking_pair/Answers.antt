-- `dependency::breaking_pair` meets its contract: what is first by the keys is first.
use mathlib.Core.Path.{◌∙◌}
use Rattle.dependency.proofs.Members.{posed_bound, posed_pair}
use Rattle.dependency.proofs.keyed.breaking_pair.Goals as goal

pub first_pair-requires : goal.first_pair-requires
first_pair-requires c = posed_bound c.requires

pub returns : goal.returns
returns c =
    c.first_pair.ensures
    ∙ posed_pair c.requires
    c.visible.ensures c.rows.ensures
    c.lay_question.ensures
