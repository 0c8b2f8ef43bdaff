-- Packed lists with evidence (document 02, b, d and e): the album's list and six records, which are accepted, and what
-- is refused: for each ground of 17 to 19 a call that has no other refusal against it, the nearest that is accepted,
-- and the order. That the right is in the set is never the only ground of 17: rows that agree on the set agree on it.
use Rattle.std.specs.Prelude.{ℕ, ◌≡◌, List, [], ◌∷◌, ◌++◌, take, drop}
use Rattle.model.specs.Bounds.{row}
use Rattle.model.specs.Reply.{refused, answered}
use Rattle.model.specs.Check.{check_code}
use Rattle.model.specs.Entry.{entry}
use Rattle.model.specs.Packing.{packed}
use Rattle.model.specs.Reading.{entries_held, read_code}
use Rattle.model.specs.Evidence.{records_bytes, records_held}
use Rattle.model.specs.Verify.{records_code, sound_code, cover_code, verify_code, verify_meaning}
use Rattle.model.specs.Album.{album, no_rows, one_missing, both_missing, key_below, lost_above, two_keys, twins}
use Rattle.model.specs.Damaged.{cut, unknown_parent_row}
use Rattle.model.specs.RefusedCalls.{OnlyOf, empty_list}
use Rattle.model.specs.declared.Entry.{Entry}
use Rattle.model.specs.declared.Evidence.{Evidence}

abbrev pub evidence : ℕ → ℕ → ℕ → ℕ → ℕ → Evidence
evidence target set right first second =
    record { target = target; right = right; set = set; first = first; second = second }

-- the album's listing, packed
unfoldable pub album_list : List ℕ
album_list = packed (entry 1 1 2 ∷ entry 1 3 row ∷ entry 1 6 row ∷ [])

-- a record for each largest set that fails: in table 0 {} for 0 and {0} for the row, in table 1 {0, 2} for 1, {1} for
-- 2, {0, 2} and {1} for the row
unfoldable pub album_records : List Evidence
album_records =
    evidence 0 0 0 0 2 ∷ evidence 0 1 row 0 1 ∷ evidence 1 5 1 0 1 ∷ evidence 1 2 2 0 2 ∷ evidence 1 5 row 0 1
    ∷ evidence 1 2 row 0 2 ∷ []

unfoldable pub album_evidence : List ℕ
album_evidence = records_bytes album_records

-- the grounds against a call, by number; and against a call on the album
abbrev pub CallOnly : List ℕ → List ℕ → List ℕ → ℕ → Type 0
CallOnly cat file bytes =
    OnlyOf (verify_code cat file bytes)
    (check_code cat
    ∷ read_code file
    ∷ records_code cat bytes
    ∷ sound_code cat (entries_held file)
    ∷ cover_code cat (entries_held file) (records_held bytes)
    ∷ [])

abbrev pub AlbumOnly : List ℕ → List ℕ → ℕ → Type 0
AlbumOnly = CallOnly album

-- the album's list with one more record: refused, and accepted as 7
abbrev pub MoreOnly : Evidence → ℕ → Type 0
MoreOnly e = AlbumOnly album_list (album_evidence ++ records_bytes (e ∷ []))

abbrev pub AcceptedWith : Evidence → Type 0
AcceptedWith e =
    verify_meaning album album_list (album_evidence ++ records_bytes (e ∷ [])) ≡ answered (3 ∷ 7 ∷ [])

-- another list with the album's evidence, and with other records
abbrev pub ListedOnly : List Entry → ℕ → Type 0
ListedOnly es = AlbumOnly (packed es) album_evidence

abbrev pub WithOnly : List Evidence → ℕ → Type 0
WithOnly rs = AlbumOnly album_list (records_bytes rs)

-- the evidence of the catalogue whose root and lower table both have keys
unfoldable pub key_evidence : List ℕ
key_evidence = records_bytes (evidence 1 1 1 0 1 ∷ evidence 1 1 row 0 1 ∷ [])

-- that of two rows whose only cells are missing: {} gives neither the column nor the row
unfoldable pub both_evidence : List ℕ
both_evidence = records_bytes (evidence 0 0 0 0 1 ∷ evidence 0 0 row 0 1 ∷ [])

-- the full listing where the root's cell is missing
unfoldable pub lost_list : List ℕ
lost_list = packed (entry 0 0 row ∷ entry 1 0 1 ∷ [])

-- the evidence where {0} and {1, 2} are keys: {1} and {2} give neither the other columns nor the row
unfoldable pub keys_evidence : List ℕ
keys_evidence =
    records_bytes
    (evidence 0 2 0 0 1 ∷ evidence 0 4 0 0 2 ∷ evidence 0 4 1 0 2 ∷ evidence 0 2 2 0 1 ∷ evidence 0 2 row 0 1
    ∷ evidence 0 4 row 0 2 ∷ [])

-- lists with it
abbrev pub KeysOnly : List Entry → ℕ → Type 0
KeysOnly es = CallOnly two_keys (packed es) keys_evidence

-- the evidence of two equal rows: no set is a key
unfoldable pub twins_evidence : List ℕ
twins_evidence = records_bytes (evidence 0 3 row 0 1 ∷ [])

pub record Supplied : Type 0 where
  -- accepted: 3 entries and 6 records; also behind other bytes, and with the records repeated, in another order, or
  -- with rows exchanged
  pub whole : verify_meaning album album_list album_evidence ≡ answered (3 ∷ 6 ∷ [])
  pub behind : verify_meaning album (album ++ album_list) album_evidence ≡ answered (3 ∷ 6 ∷ [])
  pub repeated : verify_meaning album album_list (album_evidence ++ album_evidence) ≡ answered (3 ∷ 12 ∷ [])
  pub reordered : verify_meaning album album_list (drop 24 album_evidence ++ take 24 album_evidence)
      ≡ answered (3 ∷ 6 ∷ [])
  pub exchanged : AcceptedWith (evidence 1 2 2 2 0)
  -- a record has 8 bytes: target, right, set, first row, second row
  pub bytes : records_bytes (evidence 1 258 3 772 1286 ∷ []) ≡ 1 ∷ 3 ∷ 2 ∷ 1 ∷ 4 ∷ 3 ∷ 6 ∷ 5 ∷ []
  pub read_back : records_held album_evidence ≡ album_records
  pub read_wide : records_held (1 ∷ 3 ∷ 2 ∷ 1 ∷ 4 ∷ 3 ∷ 6 ∷ 5 ∷ []) ≡ evidence 1 258 3 772 1286 ∷ []
  -- of one row the empty left is a key, and no record is true; without rows nothing is listed
  pub no_evidence : verify_meaning one_missing (packed (entry 0 0 row ∷ [])) [] ≡ answered (1 ∷ 0 ∷ [])
  pub nothing_listed : verify_meaning no_rows empty_list [] ≡ answered (0 ∷ 0 ∷ [])
  -- a set that is not backed needs no cover: {0} where both cells are missing, a key that is not listed; below a root
  -- whose cell is missing {0} and {0, 1}, which fail, where {1} has a record. The record may be that of {0, 1}
  pub unlisted_key : verify_meaning both_missing empty_list both_evidence ≡ answered (0 ∷ 2 ∷ [])
  pub backed_only : verify_meaning lost_above lost_list (records_bytes (evidence 1 2 row 0 1 ∷ []))
      ≡ answered (2 ∷ 1 ∷ [])
  pub unbacked_record : verify_meaning lost_above lost_list (records_bytes (evidence 1 3 row 0 1 ∷ []))
      ≡ answered (2 ∷ 1 ∷ [])
  -- a left may contain one that is listed for another target, and that of a column a key of another target, as {} of
  -- the list above
  pub key_of_root : verify_meaning key_below (packed (entry 0 0 row ∷ entry 1 2 row ∷ [])) key_evidence
      ≡ answered (2 ∷ 2 ∷ [])
  -- a listed key covers for every right: {0} for 1 and 2, {1, 2} for 0
  pub keys_cover : verify_meaning two_keys (packed (entry 0 1 row ∷ entry 0 6 row ∷ [])) keys_evidence
      ≡ answered (2 ∷ 6 ∷ [])
  -- where there is no key, columns stand for themselves
  pub no_keys : verify_meaning twins (packed (entry 0 0 0 ∷ entry 0 0 1 ∷ [])) twins_evidence ≡ answered (2 ∷ 1 ∷ [])
  -- 17: the last record is broken, by a byte less and by a byte more
  pub byte_less : verify_code album album_list (take 47 album_evidence) ≡ 17
  pub byte_more : AlbumOnly album_list (album_evidence ++ 0 ∷ []) 17
  -- 17: 8 to 10 do not allow its target, set or right; a row does not exist; its right is in its set; its rows do not
  -- agree on the set; they agree on the right; they are one row
  pub unknown_table : MoreOnly (evidence 2 0 row 0 1) 17
  pub farther_table : MoreOnly (evidence 3 0 row 0 1) 17
  pub unknown_column : MoreOnly (evidence 0 2 0 0 2) 17
  pub inherited_right : MoreOnly (evidence 1 0 0 0 2) 17
  pub unknown_right : MoreOnly (evidence 1 0 3 0 2) 17
  pub first_beyond : MoreOnly (evidence 1 0 row 4 0) 17
  pub second_beyond : MoreOnly (evidence 1 0 row 0 4) 17
  pub last_rows : AcceptedWith (evidence 1 0 row 3 2)
  pub last_rows_exchanged : AcceptedWith (evidence 1 0 row 2 3)
  pub right_in_set : MoreOnly (evidence 1 2 1 0 1) 17
  pub not_agreed : MoreOnly (evidence 1 4 row 0 2) 17
  pub also_agreed : MoreOnly (evidence 1 0 2 0 1) 17
  pub one_row : MoreOnly (evidence 1 0 row 1 1) 17
  -- 18: an entry falls under 8, 9 or 10; it fails; it contains another listed left for its target and right, which for
  -- another right is none
  pub entry_table : ListedOnly (entry 1 1 2 ∷ entry 1 3 row ∷ entry 1 6 row ∷ entry 2 0 row ∷ []) 18
  pub entry_column : ListedOnly (entry 1 1 2 ∷ entry 1 8 2 ∷ entry 1 3 row ∷ entry 1 6 row ∷ []) 18
  pub entry_right : ListedOnly (entry 1 1 2 ∷ entry 1 4 0 ∷ entry 1 3 row ∷ entry 1 6 row ∷ []) 18
  -- without the column that is not visible it would hold and contain no other, so 19 stands against the call too
  pub column_first : verify_code album (packed (entry 1 3 row ∷ entry 1 6 row ∷ entry 1 9 2 ∷ [])) album_evidence ≡ 18
  pub entry_fails : ListedOnly (entry 1 1 2 ∷ entry 1 2 2 ∷ entry 1 3 row ∷ entry 1 6 row ∷ []) 18
  pub contains_another : CallOnly twins (packed (entry 0 0 0 ∷ entry 0 0 1 ∷ entry 0 2 0 ∷ [])) twins_evidence 18
  -- 18: an entry is not backed, though it holds and contains no other: without rows, and where both cells are missing
  pub no_rows_entry : verify_code no_rows (packed (entry 0 0 row ∷ [])) [] ≡ 18
  pub unbacked_entry : CallOnly both_missing (packed (entry 0 1 row ∷ [])) both_evidence 18
  pub contains_key : ListedOnly (entry 1 1 2 ∷ entry 1 3 row ∷ entry 1 6 row ∷ entry 1 7 row ∷ []) 18
  -- 18: the left of a column's entry is a listed key, or contains one, though it contains no other left that is listed
  -- for the column
  pub given_by_key : KeysOnly (entry 0 1 1 ∷ entry 0 1 row ∷ entry 0 6 row ∷ []) 18
  pub given_by_last : KeysOnly (entry 0 1 row ∷ entry 0 6 0 ∷ entry 0 6 row ∷ []) 18
  pub above_key : KeysOnly (entry 0 1 row ∷ entry 0 3 2 ∷ entry 0 6 row ∷ []) 18
  -- 19: an entry is missing, or has a column too many; a record is missing, is for another right or another target, or
  -- has a set too small
  pub entry_missing : ListedOnly (entry 1 3 row ∷ entry 1 6 row ∷ []) 19
  pub key_missing : ListedOnly (entry 1 1 2 ∷ entry 1 6 row ∷ []) 19
  pub larger : ListedOnly (entry 1 3 2 ∷ entry 1 6 row ∷ []) 19
  -- 19: columns are listed in place of the key that gives them, which do not cover for the row
  pub columns_for_key : KeysOnly (entry 0 1 1 ∷ entry 0 1 2 ∷ entry 0 6 row ∷ []) 19
  pub no_entry : AlbumOnly empty_list album_evidence 19
  pub no_record : WithOnly [] 19
  pub record_missing : AlbumOnly album_list (take 40 album_evidence) 19
  pub other_right : WithOnly (evidence 0 0 0 0 2 ∷ evidence 0 1 row 0 1 ∷ evidence 1 5 1 0 1 ∷ evidence 1 2 2 0 2
      ∷ evidence 1 5 row 0 1 ∷ evidence 1 2 2 0 2 ∷ []) 19
  pub other_target : WithOnly (evidence 0 0 0 0 2 ∷ evidence 1 1 row 0 1 ∷ evidence 1 5 1 0 1 ∷ evidence 1 2 2 0 2
      ∷ evidence 1 5 row 0 1 ∷ evidence 1 2 row 0 2 ∷ []) 19
  pub smaller_set : WithOnly (evidence 0 0 0 0 2 ∷ evidence 0 0 row 0 1 ∷ evidence 1 5 1 0 1 ∷ evidence 1 2 2 0 2
      ∷ evidence 1 5 row 0 1 ∷ evidence 1 2 row 0 2 ∷ []) 19
  -- 19: the empty set alone is uncovered; what would cover is listed for another target
  pub empty_uncovered : verify_code one_missing (packed (entry 0 0 0 ∷ [])) [] ≡ 19
  pub key_of_root_alone : verify_code key_below (packed (entry 0 0 row ∷ [])) key_evidence ≡ 19
  -- 19: a record of a set that is not backed does not cover a backed one
  pub backed_uncovered : verify_code lost_above lost_list (records_bytes (evidence 1 1 row 0 1 ∷ [])) ≡ 19
  -- the order: the catalogue, then the list, then 17, 18 and 19
  pub first1 : verify_meaning cut [] (0 ∷ []) ≡ refused 1
  pub first7 : verify_meaning unknown_parent_row [] (0 ∷ []) ≡ refused 7
  pub first14 : verify_meaning album [] (0 ∷ []) ≡ refused 14
  pub first15 : verify_meaning album (packed (entry 16 0 row ∷ [])) (0 ∷ []) ≡ refused 15
  pub first17 : verify_meaning album (packed (entry 2 0 row ∷ [])) (0 ∷ []) ≡ refused 17
  pub first18 : verify_meaning album (packed (entry 2 0 row ∷ [])) [] ≡ refused 18
  pub refused19 : verify_meaning album album_list [] ≡ refused 19
