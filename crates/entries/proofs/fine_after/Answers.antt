-- `entries::fine_after` meets its contract: the entry alone, and behind the one before.
use mathlib.Core.Path.{ap, ◌∙◌}
use borrow.Author.Rules.{rules}
use Rattle.entries.specs.Verdict.{bad_unless, entry_in}
use Rattle.entries.proofs.Checks.{alone_bad, ranked_fine}
use Rattle.entries.proofs.fine_after.Goals as goal

pub returns-then-entry_ok : goal.returns-then-entry_ok
returns-then-entry_ok c =
    ranked_fine c.args.before _ c.is_none_or.result c.if-entry_ok.ensures c.is_none_or.ensures (λ d h. search (rules, h))

pub returns-else-entry_ok : goal.returns-else-entry_ok
returns-else-entry_ok c =
    ap bad_unless c.if-entry_ok.false ∙ alone_bad (entry_in c.args.before) _ c.if-entry_ok.ensures
