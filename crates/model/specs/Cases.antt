-- The proved cases, as one table: K1 to K11 of document 01, what it says of the album, the first of several breaking
-- pairs, what rows back and what keys stand for (document 02, a, d and e), and the tables of the other files by
-- subject. Left sides are numbers: {0} is 1, {1} is 2, {1, 2} is 6.
use Rattle.std.specs.Prelude.{ℕ, ◌≤◌, ◌≡◌, false, length}
use mathlib.Core.List.{[], ◌∷◌, Memᴰ}
use Rattle.columns.specs.Order.{Precedes, in_order}
use Rattle.model.specs.Bounds.{work_bound, row}
use Rattle.model.specs.Reply.{refused, answered}
use Rattle.model.specs.Catalogue.{visible}
use Rattle.model.specs.Check.{Accepted, check_meaning}
use Rattle.model.specs.View.{Holds, Key, Breaks, Minimal, Backed}
use Rattle.model.specs.Pair.{FirstPair}
use Rattle.model.specs.Target.{view, present_at}
use Rattle.model.specs.Entry.{entry}
use Rattle.model.specs.Listing.{cells, ordinary}
use Rattle.model.specs.Calls.{flat, Seen}
use Rattle.model.specs.List.{ListMeaning}
use Rattle.model.specs.Text.{answer_text}
use Rattle.model.specs.Album.{album, album_lines, no_rows, one_missing, both_missing, equal_rows, two_groups}
use Rattle.model.specs.Album.{parted, lost_above, two_keys, twins}
use Rattle.model.specs.Damaged.{too_wide, Damages, AtTheBounds, DamageOrder}
use Rattle.model.specs.RefusedCalls.{OneGround, RefusedQuestions, RefusedListings, RefusedLists}
use Rattle.model.specs.Supplied.{Supplied}
use Rattle.model.specs.Texts.{Conversions, FinePoints}
use Rattle.model.specs.Line.{Line, Fork, Depth}
use Rattle.model.specs.Replies.{QuestionReplies, CallParts, ListReplies, PackedReplies, TextReplies}
use Rattle.model.specs.Values.{BoundValues, ByteOrder, RefusalNumbers, AnswerValues}
use Rattle.model.specs.declared.Entry.{Entry}

pub record Cases : Type 0 where
  -- K1 table 1, {0} gives 2
  pub k1 : Holds (view album 1) 1 2
  -- K2 {1} doesn't give 2, rows 0 and 2 break it: they are the first pair
  pub k2 : (Holds (view album 1) 2 2 → ⊥) × FirstPair (view album 1) 2 2 0 2
  -- K3 {1, 2} gives the row
  pub k3 : Key (view album 1) 6
  -- K4 table 0, the empty set doesn't give 0
  pub k4 : Holds (view album 0) 0 0 → ⊥
  -- K5 table 0, {0} gives 0, unlisted
  pub k5 : Holds (view album 0) 1 0 × (Memᴰ (entry 0 1 0) (flat (cells (ordinary album))) → ⊥)
  -- K6 no rows: the empty set gives the row, unlisted (document 02, d)
  pub k6 : Key (view no_rows 0) 0 × (Memᴰ (entry 0 0 row) (flat (cells (ordinary no_rows))) → ⊥)
  -- K7 one row with a missing cell: the empty set gives its column, unlisted, since it is a key (document 02, e)
  pub k7 : Holds (view one_missing 0) 0 0 × (Memᴰ (entry 0 0 0) (flat (cells (ordinary one_missing))) → ⊥)
  pub k7_missing : present_at one_missing 0 0 0 ≡ false
  -- K8 two rows, both cells missing: {0} gives the row, unlisted (document 02, d)
  pub k8 : Key (view both_missing 0) 1 × (Memᴰ (entry 0 1 row) (flat (cells (ordinary both_missing))) → ⊥)
  -- K9 two equal rows under one parent, all cells present: no key
  pub k9 : (x : ℕ) → Key (view equal_rows 1) x → ⊥
  pub k9_present : Backed (view equal_rows 1) 3
  -- K10 table 1, left 4 precedes left 3
  pub k10 : Precedes 4 3 × (in_order (visible album 1) ≡ 0 ∷ 1 ∷ 2 ∷ 4 ∷ 3 ∷ 5 ∷ 6 ∷ 7 ∷ [])
  -- K11 place 10 returns 10 and no entry: whatever the budget and the run, with words enough
  pub k11 : (s : Seen Entry) → s.place ≡ 10 → work_bound ≤ length s.work → ListMeaning album s
      → (s.reply ≡ answered (10 ∷ 0 ∷ 0 ∷ [])) × (s.run_then ≡ s.run)
  -- backed left sides (document 02, d): without rows not even the empty one; of one row it is, and its key is
  -- listed; {0} and {1} by different rows, and {0, 1} by none, though it is a key; below a missing cell {1} and not {0}
  pub no_rows_unbacked : Backed (view no_rows 0) 0 → ⊥
  pub empty_backed : Backed (view one_missing 0) 0
  pub one_missing_listing : flat (cells (ordinary one_missing)) ≡ entry 0 0 row ∷ []
  pub first_backed : Backed (view parted 0) 1
  pub second_backed : Backed (view parted 0) 2
  pub both_unbacked : Backed (view parted 0) 3 → ⊥
  pub both_key : Key (view parted 0) 3
  pub parted_listing : flat (cells (ordinary parted)) ≡ []
  pub own_backed : Backed (view lost_above 1) 2
  pub above_unbacked : Backed (view lost_above 1) 1 → ⊥
  pub lost_above_listing : flat (cells (ordinary lost_above)) ≡ entry 0 0 row ∷ entry 1 0 1 ∷ []
  -- a key stands for what it gives (document 02, e): {0} and {1, 2} are keys, and what they give is minimal and not
  -- listed; {0} gives 2 in the album's table 1 and is no key, so it is listed, though {0, 1} is a key; and where there
  -- is no key, all that is minimal is listed
  pub key_of_one : Key (view two_keys 0) 1
  pub key_of_two : Key (view two_keys 0) 6
  pub given_by_one : Minimal (view two_keys 0) 1 1 × Minimal (view two_keys 0) 1 2
  pub given_by_two : Minimal (view two_keys 0) 6 0
  pub two_keys_listing : flat (cells (ordinary two_keys)) ≡ entry 0 1 row ∷ entry 0 6 row ∷ []
  pub larger_key : Key (view album 1) 3 × (Key (view album 1) 1 → ⊥)
  pub twins_listing : flat (cells (ordinary twins)) ≡ entry 0 0 0 ∷ entry 0 0 1 ∷ []
  -- of four breaking pairs the first: the lowest first row, then the lowest second row
  pub first_of_groups : FirstPair (view two_groups 0) 1 1 0 4
  pub later_second : Breaks (view two_groups 0) 1 1 0 5
  pub lower_second : Breaks (view two_groups 0) 1 1 1 2
  pub last_of_groups : Breaks (view two_groups 0) 1 1 4 5
  -- the album's file, what its check answers, and its full listing
  pub album_length : length album ≡ 84
  pub album_check : check_meaning album ≡ answered (2 ∷ 10 ∷ [])
  pub refused_check : check_meaning too_wide ≡ refused 6
  pub album_listing : flat (cells (ordinary album)) ≡ entry 1 1 2 ∷ entry 1 3 row ∷ entry 1 6 row ∷ []
  -- and what the listing program prints for it
  pub album_text : answer_text album ≡ album_lines
  -- every catalogue of the table is accepted
  pub album_accepted : Accepted album
  pub no_rows_accepted : Accepted no_rows
  pub one_missing_accepted : Accepted one_missing
  pub both_missing_accepted : Accepted both_missing
  pub equal_rows_accepted : Accepted equal_rows
  pub two_groups_accepted : Accepted two_groups
  pub parted_accepted : Accepted parted
  pub lost_above_accepted : Accepted lost_above
  pub two_keys_accepted : Accepted two_keys
  pub twins_accepted : Accepted twins
  -- specs/Line.antt: four tables in a line, two tables under one parent, sixteen tables in a line
  pub line : Line
  pub fork : Fork
  pub depth : Depth
  -- specs/Damaged.antt and specs/RefusedCalls.antt: each ground of the refusals 1 to 16, and their order
  pub damages : Damages
  pub at_the_bounds : AtTheBounds
  pub damage_order : DamageOrder
  pub one_ground : OneGround
  pub refused_questions : RefusedQuestions
  pub refused_listings : RefusedListings
  pub refused_lists : RefusedLists
  -- specs/Supplied.antt: the album's list with evidence, and each ground of the refusals 17 to 19
  pub supplied : Supplied
  -- specs/Texts.antt: texts of the supplier's kind, converted and refused, and each fine point of their form
  pub conversions : Conversions
  pub fine_points : FinePoints
  -- specs/Replies.antt: replies, and lent memory afterwards
  pub question_replies : QuestionReplies
  pub call_parts : CallParts
  pub list_replies : ListReplies
  pub packed_replies : PackedReplies
  pub text_replies : TextReplies
  -- specs/Values.antt: the document's numbers
  pub bounds : BoundValues
  pub byte_order : ByteOrder
  pub refusal_numbers : RefusalNumbers
  pub answer_values : AnswerValues
