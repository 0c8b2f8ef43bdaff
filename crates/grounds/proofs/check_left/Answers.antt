-- `grounds::check_left` meets its contract.
use mathlib.Core.Path.{refl, sym, ◌∙◌}
use Rattle.columns.proofs.Test.{is_if_eq, is_if_ne}
use Rattle.model.specs.Check.{left_code}
use Rattle.grounds.proofs.Starts.{last_end}
use Rattle.grounds.proofs.check_left.Goals as goal

pub returns-then-table_end-end : goal.returns-then-table_end-end
unfolding left_code
returns-then-table_end-end c =
    let e = last_end _ c.tables.ensures (c.from-last.ensures ∙ c.saturating_sub.ensures)
    c.table_end.ensures.is in
    is_if_eq _ (sym e ∙ c.if-table_end-end.true ∙ c.trailer-end.ensures) refl

pub returns : goal.returns
unfolding left_code
returns c =
    let e = last_end _ c.tables.ensures (c.from-last.ensures ∙ c.saturating_sub.ensures)
    c.table_end.ensures.is in
    is_if_ne _ (λ z. c.if-table_end-end.false (e ∙ z ∙ sym c.trailer-end.ensures)) refl
