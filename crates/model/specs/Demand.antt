-- Demand 3, clause by clause, about a list of calls as seen. Each call is handed the place held; at the start that is
-- 0.
use Rattle.std.specs.Prelude.{ℕ, suc, ◌+◌, ◌≤◌, ◌<◌, ◌≡◌, ◌⊎◌, ◌↔◌, length, take, drop, get_or, replicate}
use mathlib.Core.List.{List, [], ◌∷◌, ◌++◌, Memᴰ}
use Rattle.model.specs.Bounds.{work_bound}
use Rattle.model.specs.Refusal.{number}
use Rattle.model.specs.Reply.{Reply, refused, answered}
use Rattle.model.specs.Entry.{Ordered, Once}
use Rattle.model.specs.Listing.{Listing, cells, Stands, count_all}
use Rattle.model.specs.Calls.{flat, Seen, Obeys, call_code}
use Rattle.model.specs.declared.Entry.{Entry}
use Rattle.model.specs.declared.Refusal.TheVariants.{TooFewWords, PastTheEnd, RunTooShort}

-- the place held after a reply, the number of sets it passed and its entry count: a refused call leaves the place and
-- passes nothing
abbrev pub held : ℕ → Reply → ℕ
held p (refused n) = p
held p (answered vs) = get_or vs 0 0

abbrev pub sets_passed : Reply → ℕ
sets_passed (refused n) = 0
sets_passed (answered vs) = get_or vs 1 0

abbrev pub entry_count : Reply → ℕ
entry_count (refused n) = 0
entry_count (answered vs) = get_or vs 2 0

-- each call is handed the place held
abbrev pub Linked : {A : Type 0} → ℕ → List (Seen A) → Type 0
Linked p [] = Unit {0}
Linked p (s ∷ ss) = (s.place ≡ p) × Linked (held p s.reply) ss

-- the place held after the list
abbrev pub place_held : {A : Type 0} → ℕ → List (Seen A) → ℕ
place_held p [] = p
place_held p (s ∷ ss) = place_held (held p s.reply) ss

-- the records joined: those at each run's start as they stand at the call's return, as many as its count says
abbrev pub joined : {A : Type 0} → List (Seen A) → List A
joined [] = []
joined (s ∷ ss) = take (entry_count s.reply) s.run_then ++ joined ss

-- a sum over the replies
abbrev pub total : {A : Type 0} → (Reply → ℕ) → List (Seen A) → ℕ
total f [] = 0
total f (s ∷ ss) = f s.reply + total f ss

-- what holds of every call of the list
abbrev pub Every : {A : Type 0} → (Seen A → Type 0) → List (Seen A) → Type 0
Every P [] = Unit {0}
Every P (s ∷ ss) = P s × Every P ss

-- each call obeys the contract of the listing
abbrev pub AllObey : {A : Type 0} → List (List A) → List (Seen A) → Type 0
AllObey cs = Every (λ s. Obeys cs (call_code cs s.place s.budget (length s.run) (length s.work)) s)

-- a list of calls as demand 3 has them: linked from place 0 on, and each obeys
pub record Calls {A : Type 0} (cs : List (List A)) (ss : List (Seen A)) : Type 0 where
  pub linked : Linked 0 ss
  pub obey : AllObey cs ss

-- what a call is handed besides the place, and that of a call as seen
pub record Input (A : Type 0) : Type 0 where
  pub budget : ℕ
  pub run : List A
  pub work : List ℕ

abbrev pub input_of : {A : Type 0} → Seen A → Input A
input_of s = record { budget = s.budget; run = s.run; work = s.work }

-- a call is lent enough: words, a run for all entries, and some budget
pub record Ample {A : Type 0} (cs : List (List A)) (s : Seen A) : Type 0 where
  pub words : work_bound ≤ length s.work
  pub room : length (flat cs) ≤ length s.run
  pub budget : 0 < s.budget

-- the stop rule, as a statement: k sets are passed from a place with a budget and room for so many entries, and not
-- one more could be
pub record Stops {A : Type 0} (cs : List (List A)) (place budget room k : ℕ) : Type 0 where
  pub in_budget : k ≤ budget
  pub in_range : place + k ≤ length cs
  pub fits : length (flat (take k (drop place cs))) ≤ room
  pub reason : (k ≡ budget) ⊎ ((place + k ≡ length cs) ⊎ (room < length (flat (take (suc k) (drop place cs)))))

-- one call: refused exactly where the table says so, and otherwise stopped by the stop rule with the entries of its
-- own sets. Records past its entry count are untouched, which after a refusal are all; the work words are 0 after an
-- answer and after 13, and untouched after others
pub record Rightly {A : Type 0} (cs : List (List A)) (s : Seen A) : Type 0 where
  pub refused11 : (s.reply ≡ refused (number TooFewWords)) ↔ (length s.work < work_bound)
  pub refused12 : (s.reply ≡ refused (number PastTheEnd)) ↔ ((work_bound ≤ length s.work) × (length cs < s.place))
  pub refused13 : (s.reply ≡ refused (number RunTooShort))
      ↔ ((work_bound ≤ length s.work) × (s.place < length cs) × (0 < s.budget)
      × (length s.run < length (get_or cs s.place [])))
  pub no_other : (n : ℕ) → s.reply ≡ refused n
      → (n ≡ number TooFewWords) ⊎ ((n ≡ number PastTheEnd) ⊎ (n ≡ number RunTooShort))
  pub rises : held s.place s.reply ≡ s.place + sets_passed s.reply
  pub stops : (vs : List ℕ) → s.reply ≡ answered vs
      → Stops cs s.place s.budget (length s.run) (sets_passed s.reply)
  pub own : take (entry_count s.reply) s.run_then ≡ flat (take (sets_passed s.reply) (drop s.place cs))
  pub counted : entry_count s.reply ≡ length (flat (take (sets_passed s.reply) (drop s.place cs)))
  pub others : drop (entry_count s.reply) s.run_then ≡ drop (entry_count s.reply) s.run
  pub zeroed : (vs : List ℕ) → s.reply ≡ answered vs → s.work_then ≡ replicate (length s.work) 0
  pub zeroed13 : s.reply ≡ refused (number RunTooShort) → s.work_then ≡ replicate (length s.work) 0
  pub words_kept : (n : ℕ) → s.reply ≡ refused n → (n ≡ number RunTooShort → ⊥) → s.work_then ≡ s.work

-- demand 3 about any cells
pub record Demand3 {A : Type 0} (cs : List (List A)) (ss : List (Seen A)) : Type 0 where
  pub in_range : place_held 0 ss ≤ length cs
  pub joined_is : joined ss ≡ flat (take (place_held 0 ss) cs)
  pub each : Every (Rightly cs) ss
  pub never_past : Every (λ s. s.reply ≡ refused (number PastTheEnd) → ⊥) ss
  pub passed_add : total sets_passed ss ≡ place_held 0 ss
  pub counts_add : total entry_count ss ≡ length (joined ss)
  pub at_the_last : place_held 0 ss ≡ length cs → joined ss ≡ flat cs

-- and about a listing: at the last place the joined entries are exactly those that stand in it, once, in the stated
-- order, and as many as there are
pub record Complete (l : Listing) (ss : List (Seen Entry)) : Type 0 where
  pub calls : Demand3 (cells l) ss
  pub exactly : place_held 0 ss ≡ length (cells l) → (e : Entry) → Memᴰ e (joined ss) ↔ Stands l e
  pub once : place_held 0 ss ≡ length (cells l) → Once (joined ss)
  pub in_order : place_held 0 ss ≡ length (cells l) → Ordered (joined ss)
  pub count : place_held 0 ss ≡ length (cells l) → length (joined ss) ≡ count_all l
