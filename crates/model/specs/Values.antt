-- The document's numbers: its bounds, the order of bytes, the number of each refusal, and the values of each answer.
use Rattle.std.specs.Prelude.{ℕ, ◌≡◌, true, false, [], ◌∷◌, take, drop, Some, None, Ok, Err}
use Rattle.columns.specs.Bound.{column_bound}
use Rattle.model.specs.Bounds.{table_bound, row_bound, work_bound, smallest_file, no_parent, missing, row, file_bound}
use Rattle.model.specs.Bytes.{u16_at, u32_at, bytes2, bytes4, Bytes}
use Rattle.model.specs.Refusal.{number, last_refusal}
use Rattle.model.specs.Reply.{refused, answered, reply_of, check_reply, ask_reply, pair_reply, list_reply}
use Rattle.model.specs.Reply.{pack_reply, open_reply, entries_reply, verify_reply, convert_reply}
use Rattle.model.specs.Catalogue.{cell}
use Rattle.model.specs.Encode.{content, encode}
use Rattle.model.specs.Album.{album}
use Rattle.model.specs.declared.Refusal.{Refusal}
use Rattle.model.specs.declared.Refusal.TheVariants.{FileTooShort, BadTrailer, BadExtent, TableTooLarge}
use Rattle.model.specs.declared.Refusal.TheVariants.{BadParentTable, TooManyVisible, BadParentRow, UnknownTable}
use Rattle.model.specs.declared.Refusal.TheVariants.{UnknownColumn, UnknownRight, TooFewWords, PastTheEnd}
use Rattle.model.specs.declared.Refusal.TheVariants.{RunTooShort, NoList, BadEntry, OutputTooShort}
use Rattle.model.specs.declared.Refusal.TheVariants.{FalseRecord, UnsoundEntry, UncoveredSet}
use Rattle.model.specs.declared.Refusal.TheVariants.{BadText, UnfitText, NoRoom}

-- "Bounds", "The catalogue file" and "Agreement"
pub record BoundValues : Type 0 where
  pub tables_at_most : ◌≡◌ {A = ℕ} table_bound 16
  pub columns_at_most : ◌≡◌ {A = ℕ} column_bound 16
  pub rows_at_most : ◌≡◌ {A = ℕ} row_bound 4096
  pub words_at_least : ◌≡◌ {A = ℕ} work_bound 16384
  pub smallest : ◌≡◌ {A = ℕ} smallest_file 16
  pub above_the_root : ◌≡◌ {A = ℕ} no_parent 65535
  pub missing_cell : ◌≡◌ {A = ℕ} missing 4294967295
  pub the_row : ◌≡◌ {A = ℕ} row 255
  pub file_at_most : ◌≡◌ {A = ℕ} file_bound 32768

-- numbers are unsigned and little-endian, read and written; past the end stand zeros
pub record ByteOrder : Type 0 where
  pub read2 : u16_at (9 ∷ 1 ∷ 2 ∷ []) 1 ≡ 513
  pub read4 : u32_at (9 ∷ 1 ∷ 2 ∷ 3 ∷ 4 ∷ []) 1 ≡ 67305985
  pub read_past : u32_at (9 ∷ 1 ∷ 2 ∷ []) 1 ≡ 513
  pub write2 : bytes2 513 ≡ 1 ∷ 2 ∷ []
  pub write4 : bytes4 67305985 ≡ 1 ∷ 2 ∷ 3 ∷ 4 ∷ []
  pub lowest2 : bytes2 197121 ≡ 1 ∷ 2 ∷ []
  pub lowest4 : bytes4 21542142465 ≡ 1 ∷ 2 ∷ 3 ∷ 4 ∷ []
  -- a byte is below 256
  pub bytes : Bytes (0 ∷ 255 ∷ [])
  pub not_bytes : Bytes (256 ∷ []) → ⊥
  -- a cell has all 4 bytes of its code
  pub code_bytes : cell (encode (content 1 no_parent ((no_parent, 67305985 ∷ []) ∷ []) ∷ [])) 0 0 0 ≡ 67305985
  -- the album's table 0: columns, parent table, rows, and its rows 5, 5 and missing
  pub album_root : take 24 album
      ≡ 1 ∷ 0 ∷ 255 ∷ 255 ∷ 3 ∷ 0
      ∷ 255 ∷ 255 ∷ 5 ∷ 0 ∷ 0 ∷ 0
      ∷ 255 ∷ 255 ∷ 5 ∷ 0 ∷ 0 ∷ 0
      ∷ 255 ∷ 255 ∷ 255 ∷ 255 ∷ 255 ∷ 255
      ∷ []
  -- its table 1: the first 6 bytes, and its rows 0; 1, 7. 1; 3, 7. 2; 1, 8. 2; 2, 8
  pub album_below : take 46 (drop 24 album)
      ≡ 2 ∷ 0 ∷ 0 ∷ 0 ∷ 4 ∷ 0
      ∷ 0 ∷ 0 ∷ 1 ∷ 0 ∷ 0 ∷ 0 ∷ 7 ∷ 0 ∷ 0 ∷ 0
      ∷ 1 ∷ 0 ∷ 3 ∷ 0 ∷ 0 ∷ 0 ∷ 7 ∷ 0 ∷ 0 ∷ 0
      ∷ 2 ∷ 0 ∷ 1 ∷ 0 ∷ 0 ∷ 0 ∷ 8 ∷ 0 ∷ 0 ∷ 0
      ∷ 2 ∷ 0 ∷ 2 ∷ 0 ∷ 0 ∷ 0 ∷ 8 ∷ 0 ∷ 0 ∷ 0
      ∷ []
  -- its trailer: offsets 0 and 24, 2 tables, the trailer at 70
  pub album_trailer : drop 70 album ≡ 0 ∷ 0 ∷ 0 ∷ 0 ∷ 24 ∷ 0 ∷ 0 ∷ 0 ∷ 2 ∷ 0 ∷ 70 ∷ 0 ∷ 0 ∷ 0 ∷ []

-- "Feeder desk codes", and document 02
pub record RefusalNumbers : Type 0 where
  pub file_too_short : number FileTooShort ≡ 1
  pub bad_trailer : number BadTrailer ≡ 2
  pub bad_extent : number BadExtent ≡ 3
  pub table_too_large : number TableTooLarge ≡ 4
  pub bad_parent_table : number BadParentTable ≡ 5
  pub too_many_visible : number TooManyVisible ≡ 6
  pub bad_parent_row : number BadParentRow ≡ 7
  pub unknown_table : number UnknownTable ≡ 8
  pub unknown_column : number UnknownColumn ≡ 9
  pub unknown_right : number UnknownRight ≡ 10
  pub too_few_words : number TooFewWords ≡ 11
  pub past_the_end : number PastTheEnd ≡ 12
  pub run_too_short : number RunTooShort ≡ 13
  pub no_list : number NoList ≡ 14
  pub bad_entry : number BadEntry ≡ 15
  pub output_too_short : number OutputTooShort ≡ 16
  pub false_record : number FalseRecord ≡ 17
  pub unsound_entry : number UnsoundEntry ≡ 18
  pub uncovered_set : number UncoveredSet ≡ 19
  pub bad_text : number BadText ≡ 20
  pub unfit_text : number UnfitText ≡ 21
  pub no_room : number NoRoom ≡ 22
  pub last : ◌≡◌ {A = ℕ} last_refusal 22

-- a refusal returns its number alone, an answer its values, whatever they are
pub record AnswerValues : Type 0 where
  pub no_ground : reply_of 0 (7 ∷ []) ≡ answered (7 ∷ [])
  pub a_ground : (n : ℕ) → (n ≡ 0 → ⊥) → reply_of n (7 ∷ []) ≡ refused n
  -- the check: tables, and sets over all targets
  pub sound : (t s : ℕ) → check_reply (Ok (record { tables = t; sets = s })) ≡ answered (t ∷ s ∷ [])
  -- the question: 1 for 'holds', 0 for 'breaks'
  pub holds : ask_reply (Ok true) ≡ answered (1 ∷ [])
  pub breaks : ask_reply (Ok false) ≡ answered (0 ∷ [])
  -- the pair: lower row first, or none
  pub rows : (p q : ℕ) → pair_reply (Ok (Some (record { first = p; second = q }))) ≡ answered (p ∷ q ∷ [])
  pub none : pair_reply (Ok None) ≡ answered []
  -- the listing: next place, sets passed, entry count
  pub listed : (p k c : ℕ) → list_reply (Ok (record { place = p; passed = k; count = c })) ≡ answered (p ∷ k ∷ c ∷ [])
  -- packing: bytes written; opening: entries and bytes in front; reading: entries read
  pub packed : (n : ℕ) → pack_reply (Ok n) ≡ answered (n ∷ [])
  pub opened : (k n : ℕ) → open_reply (Ok (record { entries = k; front = n })) ≡ answered (k ∷ n ∷ [])
  pub read : (k : ℕ) → entries_reply (Ok k) ≡ answered (k ∷ [])
  -- the check by evidence: entries, and records
  pub accepted : (k n : ℕ) → verify_reply (Ok (record { entries = k; records = n })) ≡ answered (k ∷ n ∷ [])
  -- converting: bytes
  pub converted_bytes : (n : ℕ) → convert_reply (Ok n) ≡ answered (n ∷ [])
  -- and each refused
  pub not_sound : (r : Refusal) → check_reply (Err r) ≡ refused (number r)
  pub not_asked : (r : Refusal) → ask_reply (Err r) ≡ refused (number r)
  pub not_paired : (r : Refusal) → pair_reply (Err r) ≡ refused (number r)
  pub not_listed : (r : Refusal) → list_reply (Err r) ≡ refused (number r)
  pub not_packed : (r : Refusal) → pack_reply (Err r) ≡ refused (number r)
  pub not_opened : (r : Refusal) → open_reply (Err r) ≡ refused (number r)
  pub not_read : (r : Refusal) → entries_reply (Err r) ≡ refused (number r)
  pub not_accepted : (r : Refusal) → verify_reply (Err r) ≡ refused (number r)
  pub not_converted : (r : Refusal) → convert_reply (Err r) ≡ refused (number r)
