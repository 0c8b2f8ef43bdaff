-- Listing calls, over any list of cells: for each place, what stands there. One call's stop rule, its refusals 11 to
-- 13, what it replies and what it leaves in the lent run and work words. Nothing here knows what an entry is.
use Rattle.std.specs.Prelude.{ℕ, suc, ◌+◌, ◌-◌, ◌≡◌, List, [], ◌∷◌, ◌++◌, length, take, drop, replicate}
use Rattle.columns.specs.Test.{if_eq, if_lt, if_le}
use Rattle.model.specs.Refusal.{number, or_else}
use Rattle.model.specs.Reply.{Reply, reply_of}
use Rattle.model.specs.Question.{words_code}
use Rattle.model.specs.declared.Refusal.TheVariants.{PastTheEnd, RunTooShort}

-- the cells one after the other
abbrev pub flat : {A : Type 0} → List (List A) → List A
flat [] = []
flat (c ∷ cs) = c ++ flat cs

-- how many sets are passed from here on: until the budget is used up, no set is left, or the next set's entries no
-- longer all fit
unfoldable pub passed : {A : Type 0} → ℕ → ℕ → List (List A) → ℕ
passed budget room [] = 0
passed budget room (c ∷ cs) =
    if_eq budget 0 0 (if_le (length c) room (suc (passed (budget - 1) (room - length c) cs)) 0)

-- what is written for them
unfoldable pub written : {A : Type 0} → ℕ → ℕ → List (List A) → List A
written budget room cs = flat (take (passed budget room cs) cs)

-- 12: the place is above the last
unfoldable pub place_code : ℕ → ℕ → ℕ
place_code last place = if_lt last place (number PastTheEnd) 0

-- 13: there is budget and a next set, and it has more entries than the run has records
unfoldable pub room_code : {A : Type 0} → ℕ → ℕ → List (List A) → ℕ
room_code budget room [] = 0
room_code budget room (c ∷ cs) = if_eq budget 0 0 (if_lt room (length c) (number RunTooShort) 0)

-- the first ground against a call, by number, with so many records and words lent
unfoldable pub call_code : {A : Type 0} → List (List A) → ℕ → ℕ → ℕ → ℕ → ℕ
call_code cells place budget room words =
    or_else (words_code words) (or_else (place_code (length cells) place) (room_code budget room (drop place cells)))

-- the run afterwards: what is written from its start, the others untouched; as it was after a refusal
unfoldable pub run_after : {A : Type 0} → ℕ → List A → List A → List A
run_after code es run = if_eq code 0 (es ++ drop (length es) run) run

-- the work words afterwards: zeroed by an answer and by 13, as they were after any other refusal
unfoldable pub work_after : ℕ → List ℕ → List ℕ
work_after code work =
    if_eq code 0 (replicate (length work) 0) (if_eq code (number RunTooShort) (replicate (length work) 0) work)

-- one call as seen: what it was handed, what it replied, and the lent memory afterwards
pub record Seen (A : Type 0) : Type 0 where
  pub place : ℕ
  pub budget : ℕ
  pub run : List A
  pub work : List ℕ
  pub reply : Reply
  pub run_then : List A
  pub work_then : List ℕ

-- from its place, budget, run and work words, its reply, and the run and the work words afterwards
abbrev pub seen : {A : Type 0} → ℕ → ℕ → List A → List ℕ → Reply → List A → List ℕ → Seen A
seen place budget run work reply run_then work_then =
    record {
      place = place;
      budget = budget;
      run = run;
      work = work;
      reply = reply;
      run_then = run_then;
      work_then = work_then;
    }

-- the call did what it must, where `code` is the first ground against it
pub record Obeys {A : Type 0} (cells : List (List A)) (code : ℕ) (s : Seen A) : Type 0 where
  pub reply : s.reply
      ≡ reply_of code
      ((s.place + passed s.budget (length s.run) (drop s.place cells))
      ∷ passed s.budget (length s.run) (drop s.place cells)
      ∷ length (written s.budget (length s.run) (drop s.place cells))
      ∷ [])
  pub run : s.run_then ≡ run_after code (written s.budget (length s.run) (drop s.place cells)) s.run
  pub work : s.work_then ≡ work_after code s.work
