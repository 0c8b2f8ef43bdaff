-- The question and the first breaking pair: their refusals 8 to 11 after those of the check, and what they reply.
use Rattle.std.specs.Prelude.{ℕ, ◌^◌, List, [], ◌∷◌}
use Rattle.columns.specs.Test.{if_eq, if_lt, pick}
use Rattle.model.specs.Bounds.{work_bound, row}
use Rattle.model.specs.Refusal.{number, or_else}
use Rattle.model.specs.Reply.{Reply, reply_of}
use Rattle.model.specs.declared.Refusal.TheVariants.{UnknownTable, UnknownColumn, UnknownRight, TooFewWords}
use Rattle.model.specs.Catalogue.{tables, visible, inherited}
use Rattle.model.specs.Check.{check_code}
use Rattle.model.specs.View.{holds}
use Rattle.model.specs.Pair.{first_pair}
use Rattle.model.specs.Target.{view}

-- 8: the target is not below the number of tables
unfoldable pub target_code : List ℕ → ℕ → ℕ
target_code cat target = if_lt target (tables cat) 0 (number UnknownTable)

-- 9: the left side has a bit at or above the number of visible columns
unfoldable pub left_side_code : List ℕ → ℕ → ℕ → ℕ
left_side_code cat target left = if_lt left (2 ^ visible cat target) 0 (number UnknownColumn)

-- 10: the right side is neither an own column, by its visible number, nor the row
unfoldable pub right_side_code : List ℕ → ℕ → ℕ → ℕ
right_side_code cat target right =
    if_eq right row 0
    (if_lt right (inherited cat target) (number UnknownRight) (if_lt right (visible cat target) 0 (number UnknownRight)))

-- the first ground against a target and two sides of it: 8, then 9, then 10
unfoldable pub sides_code : List ℕ → ℕ → ℕ → ℕ → ℕ
sides_code cat target left right =
    or_else (target_code cat target) (or_else (left_side_code cat target left) (right_side_code cat target right))

-- 11: too few work words
unfoldable pub words_code : ℕ → ℕ
words_code words = if_lt words work_bound (number TooFewWords) 0

-- the first ground against a question, by number: those of the check, then 8 to 10, then 11
unfoldable pub question_code : List ℕ → ℕ → ℕ → ℕ → ℕ → ℕ
question_code cat target left right words =
    or_else (check_code cat) (or_else (sides_code cat target left right) (words_code words))

-- 'holds' or 'breaks'
unfoldable pub ask_meaning : List ℕ → ℕ → ℕ → ℕ → ℕ → Reply
ask_meaning cat target left right words =
    reply_of (question_code cat target left right words) (pick (holds (view cat target) left right) 1 0 ∷ [])

-- the rows of the first breaking pair, or no value for 'none'
unfoldable pub pair_meaning : List ℕ → ℕ → ℕ → ℕ → ℕ → Reply
pair_meaning cat target left right words =
    reply_of (question_code cat target left right words) (first_pair (view cat target) left right)
