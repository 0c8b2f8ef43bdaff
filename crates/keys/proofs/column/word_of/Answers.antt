-- `keys::column::word_of` meets its contract.
use mathlib.Core.Path.{refl}
use Rattle.columns.proofs.Test.{is_if_eq, is_if_ne}
use Rattle.keys.specs.Column.{cell_word}
use Rattle.keys.proofs.column.word_of.Goals as goal

pub returns-then-code-eq-MISSING : goal.returns-then-code-eq-MISSING
unfolding cell_word
returns-then-code-eq-MISSING c = is_if_eq _ c.if-code-eq-MISSING.true refl

pub returns : goal.returns
unfolding cell_word
returns c = is_if_ne _ c.if-code-eq-MISSING.false refl
