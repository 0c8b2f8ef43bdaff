-- Calls that are refused, one for each ground of the refusals 8 to 16, with all grounds against each: wherever it can
-- be, the one that the call is refused for is the only one. Beside each stands the nearest call that is not refused.
-- Then the order of refusals: calls with several grounds. The album unless said; its listing has one entry at place
-- 3.
use Rattle.std.specs.Prelude.{ℕ, ◌≡◌, List, [], ◌∷◌, ◌++◌, length, take, drop}
use Rattle.model.specs.Bounds.{row}
use Rattle.model.specs.Bytes.{bytes4}
use Rattle.model.specs.Check.{check_code}
use Rattle.model.specs.Question.{target_code, left_side_code, right_side_code, words_code, question_code}
use Rattle.model.specs.Entry.{entry}
use Rattle.model.specs.Listing.{cells, ordinary}
use Rattle.model.specs.Calls.{place_code, room_code}
use Rattle.model.specs.List.{list_code}
use Rattle.model.specs.Entries.{entries_code}
use Rattle.model.specs.Packing.{output_code, pack_code, packed}
use Rattle.model.specs.Reading.{entries_held, read_code, tail_code}
use Rattle.model.specs.Album.{album, no_rows}
use Rattle.model.specs.Damaged.{not_zero, cut, no_table, late_table, many_columns, own_parent, too_wide}
use Rattle.model.specs.Damaged.{unknown_parent_row}
use Rattle.model.specs.Line.{in_line, forked}
use Rattle.model.specs.declared.Entry.{Entry}

-- a call with code c is refused with the number, which is the only one among the grounds against it
pub record OnlyOf (c : ℕ) (grounds : List ℕ) (n : ℕ) : Type 0 where
  pub code : c ≡ n
  pub alone : not_zero grounds ≡ n ∷ []

-- what this says: neither another number nor a ground beside the one is allowed
pub record OneGround : Type 0 where
  pub one : OnlyOf 8 (0 ∷ 8 ∷ 0 ∷ []) 8
  pub other_code : OnlyOf 9 (8 ∷ []) 8 → ⊥
  pub ground_beside : OnlyOf 8 (8 ∷ 9 ∷ []) 8 → ⊥

-- the grounds against a question, a listing call, a reading and a packing, by number
abbrev pub AskOnly : List ℕ → ℕ → ℕ → ℕ → ℕ → ℕ → Type 0
AskOnly b t x a words =
    OnlyOf (question_code b t x a words)
    (check_code b ∷ target_code b t ∷ left_side_code b t x ∷ right_side_code b t a ∷ words_code words ∷ [])

abbrev pub ListOnly : List ℕ → ℕ → ℕ → ℕ → ℕ → ℕ → Type 0
ListOnly b place budget room words =
    OnlyOf (list_code b place budget room words)
    (check_code b
    ∷ words_code words
    ∷ place_code (length (cells (ordinary b))) place
    ∷ room_code budget room (drop place (cells (ordinary b)))
    ∷ [])

abbrev pub ReadOnly : List ℕ → ℕ → Type 0
ReadOnly b = OnlyOf (read_code b) (tail_code b ∷ entries_code (entries_held b) ∷ [])

abbrev pub PackOnly : List Entry → ℕ → ℕ → Type 0
PackOnly es room = OnlyOf (pack_code es room) (entries_code es ∷ output_code (length es) room ∷ [])

-- the question: target, left, right and work words
pub record RefusedQuestions : Type 0 where
  -- 8: the album has tables 0 and 1
  pub unknown_table : AskOnly album 2 0 row 16384 8
  pub last_table : question_code album 1 0 row 16384 ≡ 0
  pub past_one_table : question_code no_rows 1 0 row 16384 ≡ 8
  pub fourth_table : question_code in_line 3 0 row 16384 ≡ 0
  pub past_four_tables : question_code in_line 4 0 row 16384 ≡ 8
  -- 9: table 1 has visible columns 0 to 2
  pub unknown_column : AskOnly album 1 8 row 16384 9
  pub all_columns : question_code album 1 7 row 16384 ≡ 0
  -- 10: its own columns are 1 and 2; 0 is inherited, 3 is no column, and 254 and 256 are not the row; the root's
  -- only column is 0
  pub inherited_right : AskOnly album 1 0 0 16384 10
  pub unknown_right : AskOnly album 1 0 3 16384 10
  pub right_below : AskOnly album 0 0 1 16384 10
  pub almost_row : AskOnly album 1 0 254 16384 10
  pub above_row : AskOnly album 1 0 256 16384 10
  pub first_own : question_code album 1 0 1 16384 ≡ 0
  -- table 2 of two under one root inherits one column
  pub own_of_third : question_code forked 2 0 1 16384 ≡ 0
  pub inherited_of_third : AskOnly forked 2 0 0 16384 10
  pub last_own : question_code album 1 0 2 16384 ≡ 0
  -- 11: one word too few, and no word
  pub few_words : AskOnly album 1 1 2 16383 11
  pub no_words : AskOnly album 1 1 2 0 11
  pub enough_words : question_code album 1 1 2 16384 ≡ 0
  -- by number: 1 to 7 before 8 to 11, 8 before 9 to 11, 9 before 10 and 11, 10 before 11
  pub first1 : question_code cut 99 65535 99 0 ≡ 1
  pub first2 : question_code no_table 99 65535 99 0 ≡ 2
  pub first3 : question_code late_table 99 65535 99 0 ≡ 3
  pub first4 : question_code many_columns 99 65535 99 0 ≡ 4
  pub first5 : question_code own_parent 99 65535 99 0 ≡ 5
  pub first6 : question_code too_wide 99 65535 99 0 ≡ 6
  pub first7 : question_code unknown_parent_row 99 65535 99 0 ≡ 7
  pub first8 : question_code album 2 65535 99 0 ≡ 8
  pub first9 : question_code album 1 65535 99 0 ≡ 9
  pub first10 : question_code album 1 7 99 0 ≡ 10

-- the listing call: place, budget, records in the run and work words
pub record RefusedListings : Type 0 where
  -- 11: one word too few
  pub few_words : ListOnly album 0 1 8 16383 11
  pub enough_words : list_code album 0 1 8 16384 ≡ 0
  -- 12: the last place is 10
  pub past_the_end : ListOnly album 11 1 8 16384 12
  pub past_the_end_at_budget0 : ListOnly album 11 0 0 16384 12
  pub last_place : list_code album 10 1 0 16384 ≡ 0
  -- 13: there is budget, the next set has one entry, and the run has no record; at place 2 the next set has no entry
  pub short_run : ListOnly album 3 1 0 16384 13
  pub run_fits : list_code album 3 1 1 16384 ≡ 0
  pub budget0 : list_code album 3 0 0 16384 ≡ 0
  pub no_entry_next : list_code album 2 8 0 16384 ≡ 0
  -- by number: 1 to 7 before 11 and 12, 11 before 12 and 13
  pub first1 : list_code cut 99 1 0 0 ≡ 1
  pub first2 : list_code no_table 99 1 0 0 ≡ 2
  pub first3 : list_code late_table 99 1 0 0 ≡ 3
  pub first4 : list_code many_columns 99 1 0 0 ≡ 4
  pub first5 : list_code own_parent 99 1 0 0 ≡ 5
  pub first6 : list_code too_wide 99 1 0 0 ≡ 6
  pub first7 : list_code unknown_parent_row 99 1 0 0 ≡ 7
  pub eleven_before12 : list_code album 11 1 0 16383 ≡ 11
  pub eleven_before13 : list_code album 3 1 0 16383 ≡ 11

-- a list of no entries has 8 bytes: the number of entries, and the distance
unfoldable pub empty_list : List ℕ
empty_list = bytes4 0 ++ bytes4 8

-- one entry is said to be there, and is not
unfoldable pub lost_entry : List ℕ
lost_entry = bytes4 1 ++ bytes4 12

-- lists to read, and lists to pack with so many bytes of output
pub record RefusedLists : Type 0 where
  -- 14: 7 bytes and 4 bytes of the empty list, and no byte
  pub seven : ReadOnly (take 7 empty_list) 14
  pub four : ReadOnly (take 4 empty_list) 14
  pub none : ReadOnly [] 14
  pub eight : read_code empty_list ≡ 0
  -- 14: the distance is not 4k + 8: it leads 4 bytes too far, and to the end; it is above the length
  pub too_far : ReadOnly (bytes4 0 ++ bytes4 0 ++ bytes4 12) 14
  pub too_near : ReadOnly (bytes4 0 ++ bytes4 0 ++ bytes4 0) 14
  pub far_enough : read_code (bytes4 0 ++ bytes4 0 ++ bytes4 8) ≡ 0
  pub above_the_length : ReadOnly lost_entry 14
  pub lost_bytes : lost_entry ≡ 1 ∷ 0 ∷ 0 ∷ 0 ∷ 12 ∷ 0 ∷ 0 ∷ 0 ∷ []
  pub at_the_length : read_code (packed (entry 1 0 1 ∷ [])) ≡ 0
  -- 15: target over 15
  pub target16 : PackOnly (entry 16 0 row ∷ []) 12 15
  pub target15 : pack_code (entry 15 0 row ∷ []) 12 ≡ 0
  -- 15: right neither below 16 nor 255
  pub right16 : PackOnly (entry 0 0 16 ∷ []) 12 15
  pub right254 : PackOnly (entry 0 0 254 ∷ []) 12 15
  pub right15 : pack_code (entry 0 0 15 ∷ []) 12 ≡ 0
  -- 15: right in left, and beside it
  pub right_in_left : PackOnly (entry 0 5 2 ∷ []) 12 15
  pub top_right_in_left : PackOnly (entry 0 32768 15 ∷ []) 12 15
  pub right_beside : pack_code (entry 0 5 1 ∷ []) 12 ≡ 0
  pub row_of_all : pack_code (entry 0 65535 row ∷ []) 12 ≡ 0
  -- 15: not later than the one before: equal; a lower target; a larger left, whatever its number; as large a left
  -- with a higher number; the same left with a higher right, and with the row
  pub equal_neighbours : PackOnly (entry 1 1 2 ∷ entry 1 1 2 ∷ []) 16 15
  pub lower_target : PackOnly (entry 1 0 2 ∷ entry 0 3 2 ∷ []) 16 15
  pub smaller_left : PackOnly (entry 1 3 2 ∷ entry 1 8 2 ∷ []) 16 15
  pub lower_left : PackOnly (entry 1 5 3 ∷ entry 1 3 4 ∷ []) 16 15
  pub lower_right : PackOnly (entry 1 1 3 ∷ entry 1 1 2 ∷ []) 16 15
  pub row_first : PackOnly (entry 1 1 row ∷ entry 1 1 2 ∷ []) 16 15
  -- and each pair the other way round
  pub higher_target : pack_code (entry 0 3 2 ∷ entry 1 0 2 ∷ []) 16 ≡ 0
  pub larger_left : pack_code (entry 1 8 2 ∷ entry 1 3 2 ∷ []) 16 ≡ 0
  pub higher_left : pack_code (entry 1 3 4 ∷ entry 1 5 3 ∷ []) 16 ≡ 0
  pub higher_right : pack_code (entry 1 1 2 ∷ entry 1 1 3 ∷ []) 16 ≡ 0
  pub row_last : pack_code (entry 1 1 2 ∷ entry 1 1 row ∷ []) 16 ≡ 0
  -- 15 in a later entry: the third, and the third against the second
  pub bad_third : PackOnly (entry 0 0 1 ∷ entry 0 0 2 ∷ entry 16 0 3 ∷ []) 20 15
  pub early_third : PackOnly (entry 0 0 1 ∷ entry 0 0 3 ∷ entry 0 0 2 ∷ []) 20 15
  -- a list with a bad entry is not read either
  pub read_target16 : ReadOnly (packed (entry 16 0 row ∷ [])) 15
  pub read_equal_neighbours : ReadOnly (packed (entry 1 1 2 ∷ entry 1 1 2 ∷ [])) 15
  -- 16: 4k + 7 bytes of output, for no entry and for one
  pub short_output : PackOnly [] 7 16
  pub enough_output : pack_code [] 8 ≡ 0
  pub short_output_of_one : PackOnly (entry 1 1 2 ∷ []) 11 16
  pub enough_output_of_one : pack_code (entry 1 1 2 ∷ []) 12 ≡ 0
  -- by number: 14 before 15, 15 before 16
  pub fourteen_before15 : read_code (packed (entry 16 0 row ∷ []) ++ bytes4 1 ++ bytes4 20) ≡ 14
  pub fifteen_before16 : pack_code (entry 16 0 row ∷ []) 0 ≡ 15
