-- What calls reply, and what they leave in lent memory: questions, pairs and listing calls on small catalogues, and a
-- packed list. And what the listing program prints beside the album's lines.
use Rattle.std.specs.Prelude.{ℕ, ◌≤◌, ◌<◌, ◌≡◌, List, [], ◌∷◌, ◌++◌, length, replicate, drop, Some, None}
use Rattle.model.specs.Bounds.{work_bound, row}
use Rattle.model.specs.Reply.{Reply, refused, answered, words_after}
use Rattle.model.specs.Check.{check_code}
use Rattle.model.specs.Question.{ask_meaning, pair_meaning}
use Rattle.model.specs.Entry.{entry}
use Rattle.model.specs.Calls.{work_after, seen}
use Rattle.model.specs.List.{ListMeaning}
use Rattle.model.specs.Demand.{held, sets_passed, entry_count}
use Rattle.model.specs.Packing.{packed, pack_meaning, output_after}
use Rattle.model.specs.Reading.{open_meaning, entries_read, front_read, read_meaning, run_read, read_at}
use Rattle.model.specs.Text.{decimal, entry_line, refused_line, answer_text}
use Rattle.model.specs.Album.{album, no_rows, one_missing, both_missing, twins, two_groups}
use Rattle.model.specs.Damaged.{cut, too_wide}
use Rattle.model.specs.Line.{in_line}
use Rattle.model.specs.RefusedCalls.{lost_entry}
use Rattle.model.specs.declared.Entry.{Entry}

-- K1 to K6 and K8 as questions, K1 and K2 as pairs, the first of several pairs, and refused ones
pub record QuestionReplies : Type 0 where
  pub k1 : ask_meaning album 1 1 2 16384 ≡ answered (1 ∷ [])
  pub k2 : ask_meaning album 1 2 2 16384 ≡ answered (0 ∷ [])
  pub k3 : ask_meaning album 1 6 row 16384 ≡ answered (1 ∷ [])
  pub no_key : ask_meaning album 1 1 row 16384 ≡ answered (0 ∷ [])
  -- of the root: its column is not given by the empty set, and is given by itself, which is not listed
  pub k4 : ask_meaning album 0 0 0 16384 ≡ answered (0 ∷ [])
  pub k5 : ask_meaning album 0 1 0 16384 ≡ answered (1 ∷ [])
  -- keys that hold and are not listed
  pub k6 : ask_meaning no_rows 0 0 row 16384 ≡ answered (1 ∷ [])
  pub k8 : ask_meaning both_missing 0 1 row 16384 ≡ answered (1 ∷ [])
  -- of a root without a table below it: the pairs are below
  pub groups : ask_meaning two_groups 0 1 1 16384 ≡ answered (0 ∷ [])
  pub refused8 : ask_meaning album 2 1 2 16384 ≡ refused 8
  pub refused9 : ask_meaning album 1 8 row 16384 ≡ refused 9
  pub refused10 : ask_meaning album 1 0 0 16384 ≡ refused 10
  pub refused11 : ask_meaning album 1 1 2 16383 ≡ refused 11
  pub refused6 : ask_meaning too_wide 0 0 row 0 ≡ refused 6
  -- the pair replies 'none' where it holds, and the two rows where it breaks
  pub pair_of_k1 : pair_meaning album 1 1 2 16384 ≡ answered []
  pub pair_of_k2 : pair_meaning album 1 2 2 16384 ≡ answered (0 ∷ 2 ∷ [])
  -- the first of the pairs 0 and 4, 0 and 5, 1 and 2, 4 and 5; and, where the row is the right, of 0 and 1, 0 and 3, 1
  -- and 3, 2 and 4
  pub pair_of_groups : pair_meaning two_groups 0 1 1 16384 ≡ answered (0 ∷ 4 ∷ [])
  pub pair_of_row : pair_meaning two_groups 0 2 row 16384 ≡ answered (0 ∷ 1 ∷ [])
  pub pair_refused8 : pair_meaning album 2 1 2 16384 ≡ refused 8
  pub pair_refused9 : pair_meaning album 1 8 row 16384 ≡ refused 9
  pub pair_refused10 : pair_meaning album 1 0 0 16384 ≡ refused 10
  pub pair_refused11 : pair_meaning album 1 1 2 16383 ≡ refused 11
  pub pair_refused6 : pair_meaning too_wide 0 0 row 0 ≡ refused 6
  -- after an answer every work word is 0; after any refusal they are as they were
  pub zeroed : words_after 0 (3 ∷ 1 ∷ []) ≡ 0 ∷ 0 ∷ []
  pub zeroed_three : words_after 0 (3 ∷ 1 ∷ 4 ∷ []) ≡ 0 ∷ 0 ∷ 0 ∷ []
  pub kept : (n : ℕ) → (n ≡ 0 → ⊥) → words_after n (3 ∷ 1 ∷ []) ≡ 3 ∷ 1 ∷ []

-- a record that no call writes: no catalogue of these cases has a table 9
abbrev pub blank : Entry
blank = entry 9 9 9

-- a call as seen has what it was handed, its reply and what it left, each in its place; and what demand 3 reads off a
-- reply: the place held, the sets passed and the entry count
pub record CallParts : Type 0 where
  pub place : (seen 3 5 (blank ∷ []) (7 ∷ []) (refused 13) [] (8 ∷ [])).place ≡ 3
  pub budget : (seen 3 5 (blank ∷ []) (7 ∷ []) (refused 13) [] (8 ∷ [])).budget ≡ 5
  pub run : (seen 3 5 (blank ∷ []) (7 ∷ []) (refused 13) [] (8 ∷ [])).run ≡ blank ∷ []
  pub work : (seen 3 5 (blank ∷ []) (7 ∷ []) (refused 13) [] (8 ∷ [])).work ≡ 7 ∷ []
  pub reply : (seen 3 5 (blank ∷ []) (7 ∷ []) (refused 13) [] (8 ∷ [])).reply ≡ refused 13
  pub run_then : (seen 3 5 (blank ∷ []) (7 ∷ []) (refused 13) [] (8 ∷ [])).run_then ≡ []
  pub work_then : (seen 3 5 (blank ∷ []) (7 ∷ []) (refused 13) [] (8 ∷ [])).work_then ≡ 8 ∷ []
  pub place_held : held 3 (answered (9 ∷ 5 ∷ 1 ∷ [])) ≡ 9
  pub passed : sets_passed (answered (9 ∷ 5 ∷ 1 ∷ [])) ≡ 5
  pub count : entry_count (answered (9 ∷ 5 ∷ 1 ∷ [])) ≡ 1
  pub place_kept : held 3 (refused 13) ≡ 3
  pub none_passed : sets_passed (refused 13) ≡ 0
  pub none_counted : entry_count (refused 13) ≡ 0

-- so it is with whatever words, at least 16,384; afterwards they are all 0, or as they were
abbrev pub ListZeroes : List ℕ → ℕ → ℕ → List Entry → Reply → List Entry → Type 0
ListZeroes cat place budget run reply run_then =
    (work : List ℕ) → work_bound ≤ length work
    → ListMeaning cat (seen place budget run work reply run_then (replicate (length work) 0))

abbrev pub ListKeeps : List ℕ → ℕ → ℕ → List Entry → Reply → List Entry → Type 0
ListKeeps cat place budget run reply run_then =
    (work : List ℕ) → work_bound ≤ length work → ListMeaning cat (seen place budget run work reply run_then work)

-- the album's sets have an entry each at the places 3, 6 and 8
pub record ListReplies : Type 0 where
  pub blank_table : blank.target ≡ 9
  -- all in one call, with a record more than entries, and with as many
  pub whole : ListZeroes album 0 10 (blank ∷ blank ∷ blank ∷ blank ∷ []) (answered (10 ∷ 10 ∷ 3 ∷ []))
      (entry 1 1 2 ∷ entry 1 3 row ∷ entry 1 6 row ∷ blank ∷ [])
  pub exactly : ListZeroes album 0 10 (blank ∷ blank ∷ blank ∷ []) (answered (10 ∷ 10 ∷ 3 ∷ []))
      (entry 1 1 2 ∷ entry 1 3 row ∷ entry 1 6 row ∷ [])
  -- more budget than sets
  pub budget_left : ListZeroes album 8 99 (blank ∷ []) (answered (10 ∷ 2 ∷ 1 ∷ [])) (entry 1 6 row ∷ [])
  -- the budget ends it; the run ends it, before the next entry; and from there on
  pub by_budget : ListZeroes album 1 4 (blank ∷ blank ∷ []) (answered (5 ∷ 4 ∷ 1 ∷ [])) (entry 1 1 2 ∷ blank ∷ [])
  pub by_run : ListZeroes album 0 10 (blank ∷ []) (answered (6 ∷ 6 ∷ 1 ∷ [])) (entry 1 1 2 ∷ [])
  pub gone_on : ListZeroes album 6 10 (blank ∷ []) (answered (8 ∷ 2 ∷ 1 ∷ [])) (entry 1 3 row ∷ [])
  pub budget0 : ListZeroes album 3 0 (blank ∷ []) (answered (3 ∷ 0 ∷ 0 ∷ [])) (blank ∷ [])
  pub no_record : ListZeroes album 0 10 [] (answered (3 ∷ 3 ∷ 0 ∷ [])) []
  -- 13: two equal rows have two entries at place 0; the run is untouched, and the work words are 0
  pub refused13 : ListZeroes twins 0 1 (blank ∷ []) (refused 13) (blank ∷ [])
  pub two_at_once : ListZeroes twins 0 1 (blank ∷ blank ∷ []) (answered (1 ∷ 1 ∷ 2 ∷ []))
      (entry 0 0 0 ∷ entry 0 0 1 ∷ [])
  -- a set that is a key has one entry, whatever columns it gives: {2, 4} at place 28 of four tables in a line gives 3
  pub key_alone : ListZeroes in_line 28 1 (blank ∷ []) (answered (29 ∷ 1 ∷ 1 ∷ [])) (entry 3 20 row ∷ [])
  -- a set whose left side is not backed has its place and no entries
  pub unbacked : ListZeroes in_line 10 1 [] (answered (11 ∷ 1 ∷ 0 ∷ [])) []
  -- 12, 11 and a refused catalogue: nothing lent is altered
  pub refused12 : ListKeeps album 11 1 (blank ∷ []) (refused 12) (blank ∷ [])
  pub refused11 : ListMeaning album (seen 0 10 (blank ∷ []) (3 ∷ 1 ∷ []) (refused 11) (blank ∷ []) (3 ∷ 1 ∷ []))
  pub refused6 : ListMeaning too_wide (seen 0 10 (blank ∷ []) (3 ∷ 1 ∷ []) (refused 6) (blank ∷ []) (3 ∷ 1 ∷ []))
  -- the words afterwards, by the code: 0 after an answer and after 13, as they were after any other refusal
  pub zeroed : work_after 0 (3 ∷ 1 ∷ []) ≡ 0 ∷ 0 ∷ []
  pub zeroed_three : work_after 0 (3 ∷ 1 ∷ 4 ∷ []) ≡ 0 ∷ 0 ∷ 0 ∷ []
  pub zeroed13 : work_after 13 (3 ∷ 1 ∷ 4 ∷ []) ≡ 0 ∷ 0 ∷ 0 ∷ []
  pub kept : (n : ℕ) → (n ≡ 0 → ⊥) → (n ≡ 13 → ⊥) → work_after n (3 ∷ 1 ∷ []) ≡ 3 ∷ 1 ∷ []

-- three entries, two of the album and one with a left over one byte, and their 20 bytes
abbrev pub some : List Entry
some = entry 1 1 2 ∷ entry 1 3 row ∷ entry 2 258 3 ∷ []

abbrev pub some_bytes : List ℕ
some_bytes =
    1 ∷ 2 ∷ 1 ∷ 0
    ∷ 1 ∷ 255 ∷ 3 ∷ 0
    ∷ 2 ∷ 3 ∷ 2 ∷ 1
    ∷ 3 ∷ 0 ∷ 0 ∷ 0
    ∷ 20 ∷ 0 ∷ 0 ∷ 0
    ∷ []

-- the same with two bytes in front
abbrev pub behind : List ℕ
behind = 7 ∷ 8 ∷ some_bytes

pub record PackedReplies : Type 0 where
  pub bytes : packed some ≡ some_bytes
  pub no_entry : packed [] ≡ 0 ∷ 0 ∷ 0 ∷ 0 ∷ 8 ∷ 0 ∷ 0 ∷ 0 ∷ []
  -- packing writes 4k + 8 bytes from the start of its output, no others; refused, it alters nothing
  pub writes : pack_meaning some 22 ≡ answered (20 ∷ [])
  pub output : output_after some (replicate 22 6) ≡ some_bytes ++ (6 ∷ 6 ∷ [])
  pub refused16 : pack_meaning some 19 ≡ refused 16
  pub output_kept16 : output_after some (replicate 19 6) ≡ replicate 19 6
  pub refused15 : pack_meaning (entry 16 0 row ∷ []) 12 ≡ refused 15
  pub output_kept15 : output_after (entry 16 0 row ∷ []) (replicate 12 6) ≡ replicate 12 6
  -- reading: how many entries and how many bytes in front, the entries, and the part in front
  pub opens : open_meaning behind ≡ answered (3 ∷ 2 ∷ [])
  pub entries : entries_read behind ≡ some
  pub front : front_read behind ≡ 7 ∷ 8 ∷ []
  pub refused14 : open_meaning lost_entry ≡ refused 14
  pub opened15 : open_meaning (packed (entry 16 0 row ∷ [])) ≡ refused 15
  pub no_entries15 : entries_read (packed (entry 16 0 row ∷ [])) ≡ []
  pub read14 : read_meaning lost_entry 0 1 ≡ refused 14
  pub read15 : read_meaning (packed (entry 16 0 row ∷ [])) 0 1 ≡ refused 15
  pub no_entries : entries_read lost_entry ≡ []
  pub no_front : front_read (7 ∷ 8 ∷ drop 1 some_bytes) ≡ []
  -- entry by entry, and 'end' after the last
  pub first : read_at (entries_read behind) 0 ≡ Some (entry 1 1 2)
  pub last : read_at (entries_read behind) 2 ≡ Some (entry 2 258 3)
  pub end : read_at (entries_read behind) 3 ≡ None
  pub past_end : read_at (entries_read behind) 9 ≡ None
  -- from an entry on into a run: as many as it has records, the others untouched
  pub from_second : read_meaning behind 1 4 ≡ answered (2 ∷ [])
  pub run_from_second : run_read behind 1 (blank ∷ blank ∷ blank ∷ blank ∷ [])
      ≡ entry 1 3 row ∷ entry 2 258 3 ∷ blank ∷ blank ∷ []
  pub short_run : read_meaning behind 1 1 ≡ answered (1 ∷ [])
  pub run_of_one : run_read behind 1 (blank ∷ []) ≡ entry 1 3 row ∷ []
  pub run_kept : run_read lost_entry 0 (blank ∷ []) ≡ blank ∷ []

-- the listing program's text, byte for byte
pub record TextReplies : Type 0 where
  pub zero : decimal 0 ≡ 48 ∷ []
  pub ten : decimal 10 ≡ 49 ∷ 48 ∷ []
  -- `15 65535 row`: no line is longer
  pub widest : entry_line (entry 15 65535 row) ≡ 49 ∷ 53 ∷ 32 ∷ 54 ∷ 53 ∷ 53 ∷ 51 ∷ 53 ∷ 32 ∷ 114 ∷ 111 ∷ 119 ∷ 10 ∷ []
  -- `tables 1 sets 2 entries 0`: a table without rows lists nothing
  pub no_rows_text : answer_text no_rows
      ≡ 116 ∷ 97 ∷ 98 ∷ 108 ∷ 101 ∷ 115 ∷ 32 ∷ 49 ∷ 32
      ∷ 115 ∷ 101 ∷ 116 ∷ 115 ∷ 32 ∷ 50 ∷ 32
      ∷ 101 ∷ 110 ∷ 116 ∷ 114 ∷ 105 ∷ 101 ∷ 115 ∷ 32 ∷ 48 ∷ 10
      ∷ []
  -- `tables 1 sets 2 entries 1`, `0 0 row`: one row, whose cell is missing
  pub one_missing_text : answer_text one_missing
      ≡ 116 ∷ 97 ∷ 98 ∷ 108 ∷ 101 ∷ 115 ∷ 32 ∷ 49 ∷ 32
      ∷ 115 ∷ 101 ∷ 116 ∷ 115 ∷ 32 ∷ 50 ∷ 32
      ∷ 101 ∷ 110 ∷ 116 ∷ 114 ∷ 105 ∷ 101 ∷ 115 ∷ 32 ∷ 49 ∷ 10
      ∷ 48 ∷ 32 ∷ 48 ∷ 32 ∷ 114 ∷ 111 ∷ 119 ∷ 10
      ∷ []
  -- `refused 1`, `refused 6` and `refused 16`
  pub refused1 : answer_text cut ≡ 114 ∷ 101 ∷ 102 ∷ 117 ∷ 115 ∷ 101 ∷ 100 ∷ 32 ∷ 49 ∷ 10 ∷ []
  pub refused6 : answer_text too_wide ≡ 114 ∷ 101 ∷ 102 ∷ 117 ∷ 115 ∷ 101 ∷ 100 ∷ 32 ∷ 54 ∷ 10 ∷ []
  pub refused16 : refused_line 16 ≡ 114 ∷ 101 ∷ 102 ∷ 117 ∷ 115 ∷ 101 ∷ 100 ∷ 32 ∷ 49 ∷ 54 ∷ 10 ∷ []
  -- at the bound a file is looked at, as this one that is refused by 2; one byte more is `too long`, whatever the bytes
  pub at_the_bound : (cat : List ℕ) → length cat ≡ 32768 → check_code cat ≡ 2
      → answer_text cat ≡ 114 ∷ 101 ∷ 102 ∷ 117 ∷ 115 ∷ 101 ∷ 100 ∷ 32 ∷ 50 ∷ 10 ∷ []
  pub long : (cat : List ℕ) → 32768 < length cat → answer_text cat ≡ 116 ∷ 111 ∷ 111 ∷ 32 ∷ 108 ∷ 111 ∷ 110 ∷ 103 ∷ 10
      ∷ []
