-- The contracts of `begin` and `step`, for any listing (specs/Meaning.antt of `walk`): what is still to be put, what
-- will be replied, and what the work words are meanwhile and at the end.
use Rattle.std.specs.Prelude.{ℕ, ◌≤◌, ◌+◌, ◌≡◌, List, [], ◌∷◌, length, drop, replicate, Result, Ok, Err}
use Rattle.columns.specs.Test.{if_eq}
use Rattle.model.specs.Calls.{passed, written, work_after}
use Rattle.model.specs.Listing.{Listing, cells}
use Rattle.model.specs.List.{first_code}
use Rattle.model.specs.Reply.{Reply, reply_of, list_reply}
use Rattle.model.specs.declared.Entry.{Entry}
use Rattle.model.specs.declared.Refusal.{Refusal}
use Rattle.passing.specs.declared.Walk.{Walk}
use Rattle.steps.specs.declared.Stepped.{Stepped}
use Rattle.steps.specs.declared.Stepped.TheVariants.{Put, Done}
use Rattle.walk.specs.Meaning.{ahead, final, Good}

-- what is to be put where `code` is the first ground against a call: nothing after a refusal
unfoldable pub due : ℕ → List Entry → List Entry
due code es = if_eq code 0 es []

-- what is still to be put
abbrev pub to_put : Listing → Stepped → List Entry
to_put l (Put e w) = e ∷ ahead l w
to_put l (Done a) = []

-- what will be replied
abbrev pub reply_to : Listing → Stepped → Reply
reply_to l (Put e w) = final l w
reply_to l (Done a) = list_reply (Ok a)

-- the same of the first step of a call: after a refusal nothing is to be put
abbrev pub first_to_put : Listing → Result Stepped Refusal → List Entry
first_to_put l (Ok s) = to_put l s
first_to_put l (Err r) = []

abbrev pub first_reply_to : Listing → Result Stepped Refusal → Reply
first_reply_to l (Ok s) = reply_to l s
first_reply_to l (Err r) = list_reply (Err r)

-- the work words, which were `words` when the call began: they fit the walk, or are as a call leaves them
abbrev pub WordsBegun : Listing → ℕ → List ℕ → Result Stepped Refusal → List ℕ → Type 0
WordsBegun l code words (Ok (Put e w)) wordsNow = (code ≡ 0) × Good l w wordsNow
WordsBegun l code words (Ok (Done a)) wordsNow = wordsNow ≡ work_after code words
WordsBegun l code words (Err r) wordsNow = wordsNow ≡ work_after code words

-- the same after a step from `words`: the last step zeroes them
abbrev pub WordsStepped : Listing → List ℕ → Stepped → List ℕ → Type 0
WordsStepped l words (Put e w) wordsNow = Good l w wordsNow
WordsStepped l words (Done a) wordsNow = wordsNow ≡ replicate (length words) 0

-- the first step of a call that is to write es and to answer vs, where `code` is the first ground against it
pub record Begins (l : Listing) (code : ℕ) (es : List Entry) (vs : List ℕ) (room : ℕ) (words : List ℕ)
    (s : Result Stepped Refusal) (wordsNow : List ℕ) : Type 0 where
  pub put : first_to_put l s ≡ due code es
  pub fits : length (first_to_put l s) ≤ room
  pub reply : first_reply_to l s ≡ reply_of code vs
  pub kept : WordsBegun l code words s wordsNow

-- what a call writes from a place on, and the values that it answers, where there is no ground against it
abbrev pub whole : Listing → ℕ → ℕ → ℕ → List Entry
whole l place budget room = written budget room (drop place (cells l))

abbrev pub values : Listing → ℕ → ℕ → ℕ → List ℕ
values l place budget room =
    (place + passed budget room (drop place (cells l))) ∷ passed budget room (drop place (cells l))
    ∷ length (whole l place budget room) ∷ []

-- the contract of `begin`, where `before` comes before the refusals of the call itself
abbrev pub Began : ℕ → Listing → ℕ → ℕ → ℕ → List ℕ → Result Stepped Refusal → List ℕ → Type 0
Began before l place budget room words =
    Begins l (first_code before (cells l) place budget room (length words)) (whole l place budget room)
    (values l place budget room) room words

-- the contract of `step`, from a walk that fits the words
pub record Went (l : Listing) (w : Walk) (words : List ℕ) (s : Stepped) (wordsNow : List ℕ) : Type 0 where
  pub put : to_put l s ≡ ahead l w
  pub reply : reply_to l s ≡ final l w
  pub kept : WordsStepped l words s wordsNow
