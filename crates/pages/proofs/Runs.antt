-- What a listing call with a run by value gives on an accepted catalogue, from a place up to the last and with a
-- budget for all sets: it is never refused, and its first records are the entries of the sets that it passed.
use Prim.Native.Nat.{ℕ, ◌+◌, ◌≤◌, ◌<◌}
use mathlib.Core.Path.{◌≡◌, refl, sym, ap, subst, ◌∙◌}
use mathlib.Core.List.{List, [], ◌∷◌, ◌++◌}
use native.Mathlib.Omega.{arith}
use lib.ListN.{length, take, drop, get_or, replicate, length-replicate, length-drop}
use lib.Seq.{take-take, take_at}
use Rattle.columns.specs.Bound.{column_bound}
use Rattle.columns.proofs.Test.{if_lt_no}
use Rattle.model.specs.Bounds.{work_bound}
use Rattle.model.specs.Refusal.{number}
use Rattle.model.specs.Reply.{answered, refused, list_reply}
use Rattle.model.specs.Calls.{flat, passed, written}
use Rattle.model.specs.Listing.{cells, ordinary}
use Rattle.model.specs.Check.{check_code}
use Rattle.model.specs.List.{list_code, ListMeaning}
use Rattle.model.specs.Entry.{entry}
use Rattle.model.specs.declared.Entry.{Entry}
use Rattle.model.specs.declared.Refusal.{Refusal}
use Rattle.model.specs.declared.Progress.{Progress}
use Rattle.std.specs.Prelude.{Result, Ok, Err, IsOk}
use Rattle.model.proofs.Calls.{call_none, passed_fit_at}
use Rattle.model.proofs.Stops.{passed_in_range, written_fits}
use Rattle.model.proofs.Grounds.{reply_answered}
use Rattle.model.proofs.Rightly.{run_answered}
use Rattle.model.proofs.Listing.{cells_length}
use Rattle.model.proofs.Complete.{after_none}
use Rattle.model.proofs.Rights.{ordinary_bounded, ordinary_row}
use Rattle.model.proofs.Short.{cell_short}
use Rattle.model.specs.Calls.{seen}
use Rattle.listing.specs.Filled.{run_bound, cap, FilledBy}
use Rattle.pages.specs.Pages.{Listable}

-- the run holds the entries of the sets from one place up to another, which is later where there is a later one
pub record Ran (cs : List (List Entry)) (last place reached count : ℕ) (run : List Entry) : Type 0 where
  pub sets : ℕ
  pub reaches : reached ≡ place + sets
  pub in_range : reached ≤ last
  pub rises : place < last → place < reached
  pub fits : count ≤ run_bound
  pub counted : count ≡ length (flat (take sets (drop place cs)))
  pub records : take count run ≡ flat (take sets (drop place cs))

-- the bound is the room for a run that long
room_whole : cap run_bound ≡ run_bound
unfolding cap
room_whole = if_lt_no run_bound (omega arith)

-- over plain values: es is written, k sets are passed
answered_is : (p k c p' k' c' : ℕ) → answered (p ∷ k ∷ c ∷ []) ≡ answered (p' ∷ k' ∷ c' ∷ []) → (p ≡ p') × (c ≡ c')
answered_is p k c p' k' c' e = (cc, cc)

refused_is_none : (n : ℕ) (vs : List ℕ) → refused n ≡ answered vs → ⊥
refused_is_none n vs e = let z : ◌≡◌ {A = ℕ} 0 1 = cc in omega arith

first_records : (c r : ℕ) (es rest run : List Entry) → take r run ≡ es ++ rest → c ≡ length es → length es ≤ r
    → take c run ≡ es
first_records c r es rest run e l h =
    sym (take-take c r run (omega arith)) ∙ ap (take c) e ∙ take_at es rest c (sym l)

module _ (cat : List ℕ) (last : ℕ) (h : Listable cat last) (place : ℕ) (in_range : place ≤ last) (work : List ℕ)
    (enough : work_bound ≤ length work) (r : ℕ) (room : column_bound ≤ r) where
  abbrev cs : List (List Entry)
  cs = cells (ordinary cat)

  -- the statement about the call, with room for r records
  abbrev Call : Result Progress Refusal → List Entry → List ℕ → Type 0
  Call a run work_then =
      ListMeaning cat (seen place last (replicate r (entry 0 0 0)) work (list_reply a) (take r run) work_then)

  lastly : last ≡ length cs
  lastly = h.whole ∙ sym (cells_length cat)

  places : place ≤ length cs
  places = omega (arith, lastly)

  wide : (p : ℕ) → length (get_or cs p []) ≤ length (replicate r (entry 0 0 0))
  wide p =
      omega (
        arith,
        cell_short (ordinary cat) (ordinary_bounded cat h.accepted) (ordinary_row cat) p,
        length-replicate r (entry 0 0 0),
      )

  -- nothing stands against it
  no_code : list_code cat place last (length (replicate r (entry 0 0 0))) (length work) ≡ 0
  no_code =
      after_none (check_code cat) h.accepted (cells (ordinary cat)) place last (length (replicate r (entry 0 0 0)))
      (length work)
      ∙ call_none cs place last (length (replicate r (entry 0 0 0))) (length work) enough places (λ _ _. wide place)

  pub never_refused : (why : Refusal) (run : List Entry) (work_then : List ℕ) → Call (Err why) run work_then
      → ⊥
  never_refused why run work_then o = refused_is_none (number why) _ (o.reply ∙ sym (reply_answered _ no_code))

  abbrev rows : List Entry
  rows = replicate r (entry 0 0 0)

  abbrev passes : ℕ
  passes = passed last (length rows) (drop place cs)

  pub ran_room : (p : Progress) (run : List Entry) (work_then : List ℕ) → r ≤ run_bound
      → Call (Ok p) run work_then → Ran cs last place p.place p.count run
  unfolding written
  ran_room done run work_then small o =
      let said =
      answered_is done.place done.passed done.count (place + passes) passes (length (written last (length rows) (drop place cs)))
      (o.reply ∙ sym (reply_answered _ no_code)) in
      let long = length-replicate r (entry 0 0 0) in
      let few = written_fits last (length rows) (drop place cs) in
      let all = passed_in_range last (length rows) (drop place cs) in
      let left = length-drop place cs in
      let c = said.1 in
      let p = said.0 in
      record {
        sets = passes;
        reaches = p;
        in_range = omega (arith, places, lastly);
        rises =
            λ l. omega
            (arith, passed_fit_at last (length rows) place cs (omega (arith, lastly)) (omega arith) (wide place));
        fits = omega arith;
        counted = c;
        records = first_records done.count r (flat (take passes (drop place cs))) _ run (o.run ∙ run_answered _ _ _ no_code)
            c (omega arith);
      }

-- the same for the run by value, where the statement is that of its contract
module _ (cat : List ℕ) (last : ℕ) (h : Listable cat last) (place : ℕ) (in_range : place ≤ last) (work : List ℕ)
    (enough : work_bound ≤ length work) where
  filled_call : (a : Result Progress Refusal) (run : List Entry) (work_then : List ℕ)
      → FilledBy cat place last run_bound work a run work_then
      → Call cat last h place in_range work enough (cap run_bound) (omega (arith, room_whole)) a run work_then
  filled_call a run work_then f = f.listed

  -- it is not refused
  pub filled_answers : (a : Result Progress Refusal) (run : List Entry) (work_then : List ℕ)
      → FilledBy cat place last run_bound work a run work_then → IsOk a
  filled_answers (Ok p) run work_then f = refl
  filled_answers (Err why) run work_then f =
      absurd
      (never_refused cat last h place in_range work enough (cap run_bound) (omega (arith, room_whole)) why run work_then
      (filled_call (Err why) run work_then f))

  pub ran : (p : Progress) (a : Result Progress Refusal) (run : List Entry) (work_then : List ℕ)
      → FilledBy cat place last run_bound work a run work_then → a ≡ Ok p
      → Ran (cells (ordinary cat)) last place p.place p.count run
  ran p a run work_then f e =
      ran_room cat last h place in_range work enough (cap run_bound) (omega (arith, room_whole)) p run work_then
      (omega (arith, room_whole))
      (filled_call (Ok p) run work_then
      (subst (λ (x : Result Progress Refusal). FilledBy cat place last run_bound work x run work_then) e f))
