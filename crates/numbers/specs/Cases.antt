-- What answers and refusals go back to C as, by examples: the numbers that include/cagberin.h names.
use Rattle.std.specs.Prelude.{◌≡◌, [], ◌∷◌, pos, negsuc}
use Rattle.model.specs.Reply.{refused, answered}
use Rattle.numbers.specs.Number.{number_of, value_or, status_of, found_of, list_seen}

pub record NumberCases : Type 0 where
  -- the check: 0, or the refusal made negative
  pub sound : status_of (answered (2 ∷ 10 ∷ [])) ≡ pos 0
  pub not_sound : status_of (refused 6) ≡ negsuc 5
  -- the question: 1 for 'holds', 0 for 'breaks'
  pub holds : number_of 0 (answered (1 ∷ [])) ≡ pos 1
  pub breaks : number_of 0 (answered (0 ∷ [])) ≡ pos 0
  pub not_asked : number_of 0 (refused 11) ≡ negsuc 10
  -- the pair: 1 with two rows, 0 for 'none'
  pub pair : found_of (answered (0 ∷ 2 ∷ [])) ≡ pos 1
  pub none : found_of (answered []) ≡ pos 0
  pub no_pair : found_of (refused 8) ≡ negsuc 7
  -- behind the pointers: the values in their order, and what was there without them
  pub first : value_or 0 9 (answered (0 ∷ 2 ∷ [])) ≡ 0
  pub second : value_or 1 9 (answered (0 ∷ 2 ∷ [])) ≡ 2
  pub kept_first : value_or 0 9 (answered []) ≡ 9
  pub kept_second : value_or 1 9 (answered []) ≡ 9
  pub kept : value_or 0 9 (refused 8) ≡ 9
  -- the check by evidence: the entry count
  pub accepted : number_of 0 (answered (3 ∷ 6 ∷ [])) ≡ pos 3
  pub no_value : number_of 0 (answered []) ≡ pos 0
  pub not_accepted : number_of 0 (refused 19) ≡ negsuc 18
  -- the listing: the entry count, with the place reached and the sets passed behind the pointers
  pub listed : list_seen (pos 3) 10 7 ≡ answered (10 ∷ 7 ∷ 3 ∷ [])
  pub not_listed : list_seen (negsuc 12) 10 7 ≡ refused 13
