-- `search::first_pair` meets its contract: the first row that strays from its leader.
use borrow.Author.Rules.{rules}
use Rattle.search.proofs.Pairs.{led_lower, stray_first}
use Rattle.search.proofs.first_pair.Goals as goal

pub mark_leaders-requires : goal.mark_leaders-requires
mark_leaders-requires c = (led_lower c.args.keys.short c.leaders_of.ensures, c.requires, search rules)

pub first_stray-requires-clause-lower_leaders : goal.first_stray-requires-clause-lower_leaders
first_stray-requires-clause-lower_leaders c = (led_lower c.args.keys.short c.leaders_of.ensures, c.requires)

pub returns : goal.returns
returns c = stray_first _ _ _ _ _ _ c.leaders_of.ensures.leads _ c.first_stray.ensures
