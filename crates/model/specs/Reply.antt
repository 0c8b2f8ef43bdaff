-- What a public call replies: a refusal's number alone, or the answer's values. One definition for each answer lists
-- its cases.
use Rattle.std.specs.Prelude.{ℕ, Bool, true, false, List, [], ◌∷◌, length, replicate, Option, Some, None}
use Rattle.std.specs.Prelude.{Result, Ok, Err}
use Rattle.columns.specs.Test.{if_eq}
use Rattle.model.specs.Refusal.{number}
use Rattle.model.specs.declared.Refusal.{Refusal}
use Rattle.model.specs.declared.Checked.{Checked}
use Rattle.model.specs.declared.RowPair.{RowPair}
use Rattle.model.specs.declared.Progress.{Progress}
use Rattle.model.specs.declared.Opened.{Opened}
use Rattle.model.specs.declared.Verified.{Verified}

pub data Reply : Type 0 where
  refused : ℕ → Reply
  answered : List ℕ → Reply

-- a refusal by its number, or the values where the number is 0
unfoldable pub reply_of : ℕ → List ℕ → Reply
reply_of code values = if_eq code 0 (answered values) (refused code)

-- work words after a question or a pair: zeroed by an answer, as they were after a refusal
unfoldable pub words_after : ℕ → List ℕ → List ℕ
words_after code words = if_eq code 0 (replicate (length words) 0) words

-- tables and sets over all targets
abbrev pub check_reply : Result Checked Refusal → Reply
check_reply (Ok c) = answered (c.tables ∷ c.sets ∷ [])
check_reply (Err r) = refused (number r)

-- 1 for 'holds', 0 for 'breaks'
abbrev pub ask_reply : Result Bool Refusal → Reply
ask_reply (Ok true) = answered (1 ∷ [])
ask_reply (Ok false) = answered (0 ∷ [])
ask_reply (Err r) = refused (number r)

-- the two rows, or no value for 'none'
abbrev pub pair_reply : Result (Option RowPair) Refusal → Reply
pair_reply (Ok (Some p)) = answered (p.first ∷ p.second ∷ [])
pair_reply (Ok None) = answered []
pair_reply (Err r) = refused (number r)

-- the next place, the number of sets passed, the entry count
abbrev pub list_reply : Result Progress Refusal → Reply
list_reply (Ok l) = answered (l.place ∷ l.passed ∷ l.count ∷ [])
list_reply (Err r) = refused (number r)

-- the number of bytes written
abbrev pub pack_reply : Result ℕ Refusal → Reply
pack_reply (Ok n) = answered (n ∷ [])
pack_reply (Err r) = refused (number r)

-- the number of entries, and of bytes in front
abbrev pub open_reply : Result Opened Refusal → Reply
open_reply (Ok o) = answered (o.entries ∷ o.front ∷ [])
open_reply (Err r) = refused (number r)

-- the number of entries read
abbrev pub entries_reply : Result ℕ Refusal → Reply
entries_reply (Ok k) = answered (k ∷ [])
entries_reply (Err r) = refused (number r)

-- the number of entries, and of evidence records
abbrev pub verify_reply : Result Verified Refusal → Reply
verify_reply (Ok v) = answered (v.entries ∷ v.records ∷ [])
verify_reply (Err r) = refused (number r)

-- the number of bytes written
abbrev pub convert_reply : Result ℕ Refusal → Reply
convert_reply (Ok n) = answered (n ∷ [])
convert_reply (Err r) = refused (number r)
