-- The hypothesis of demand 3 can be met, whatever budgets, runs and work words are handed in: the meaning of a call,
-- as a function, makes such a list. And the last place is reached: by one call, and by every list of enough calls
-- with enough lent to each.
use Prim.Native.Nat.{ℕ, suc, ◌+◌, ◌≤◌, ◌<◌, zero-le}
use mathlib.Core.Path.{◌≡◌, refl, sym, ap, ◌∙◌}
use mathlib.Core.Logic.{⊎_elim}
use mathlib.Core.List.{List, [], ◌∷◌, map}
use native.Mathlib.Nat.{le_refl, le_of_eq}
use native.Mathlib.Omega.{arith}
use lib.ListN.{length, drop, get_or, replicate, length-drop, length-replicate, length-map}
use Rattle.model.specs.Bounds.{work_bound}
use Rattle.model.specs.Reply.{Reply, answered, reply_of}
use Rattle.model.specs.Calls.{flat, passed, written, run_after, work_after, call_code, Seen, Obeys}
use Rattle.model.specs.Demand.{held, Linked, place_held, Every, AllObey, Input, input_of, Calls, Ample}
use Rattle.model.proofs.Calls.{le_or_lt, cell_le, call_none, passed_fit_at, flat_drop_le}
use Rattle.model.proofs.Stops.{passed_all}
use Rattle.model.proofs.Grounds.{reply_answered}
use Rattle.model.proofs.Rightly.{obeys_rightly}
use Rattle.model.proofs.Demand.{held_in_range}

module _ {A : Type 0} (cs : List (List A)) where
  -- the call that the contract leaves, and the calls from a place held on
  abbrev call_at : ℕ → Input A → Seen A
  call_at p i =
      let code = call_code cs p i.budget (length i.run) (length i.work) in
      let k = passed i.budget (length i.run) (drop p cs) in
      let es = written i.budget (length i.run) (drop p cs) in
      record {
        place = p;
        budget = i.budget;
        run = i.run;
        work = i.work;
        reply = reply_of code ((p + k) ∷ k ∷ length es ∷ []);
        run_then = run_after code es i.run;
        work_then = work_after code i.work;
      }

  abbrev calls_from : ℕ → List (Input A) → List (Seen A)
  calls_from p [] = []
  calls_from p (i ∷ rest) = call_at p i ∷ calls_from (held p (call_at p i).reply) rest

  calls_linked : (p : ℕ) (inputs : List (Input A)) → Linked p (calls_from p inputs)
  calls_linked p [] = tt
  calls_linked p (i ∷ rest) = (refl, calls_linked (held p (call_at p i).reply) rest)

  calls_obey : (p : ℕ) (inputs : List (Input A)) → AllObey cs (calls_from p inputs)
  calls_obey p [] = tt
  calls_obey p (i ∷ rest) =
      (record { reply = refl; run = refl; work = refl }, calls_obey (held p (call_at p i).reply) rest)

  calls_inputs : (p : ℕ) (inputs : List (Input A)) → map input_of (calls_from p inputs) ≡ inputs
  calls_inputs p [] = refl
  calls_inputs p (i ∷ rest) = ap (λ (l : List (Input A)). i ∷ l) (calls_inputs (held p (call_at p i).reply) rest)

-- for any inputs there is such a list, with these inputs and of their length
pub obedient : {A : Type 0} (cs : List (List A)) (inputs : List (Input A))
    → (ss : List (Seen A)) × Calls cs ss × (map input_of ss ≡ inputs) × (length ss ≡ length inputs)
obedient {A} cs inputs = (ss, record { linked = calls_linked cs 0 inputs; obey = calls_obey cs 0 inputs }, same, long)
  where
    ss : List (Seen A)
    ss = calls_from cs 0 inputs

    same : map input_of ss ≡ inputs
    same = calls_inputs cs 0 inputs

    long : length ss ≡ length inputs
    long = sym (length-map ss input_of) ∙ ap length same

-- the place that an answer holds
held_answered : (p k c : ℕ) (r : Reply) → r ≡ answered ((p + k) ∷ k ∷ c ∷ []) → held p r ≡ p + k
held_answered p k c r e = rw e

module _ {A : Type 0} (cs : List (List A)) (s : Seen A)
    (o : Obeys cs (call_code cs s.place s.budget (length s.run) (length s.work)) s)
    (words : work_bound ≤ length s.work) (in_range : s.place ≤ length cs) where
  -- a call with words enough whose next set fits is answered
  answers : length (get_or cs s.place []) ≤ length s.run
      → held s.place s.reply ≡ s.place + passed s.budget (length s.run) (drop s.place cs)
  answers fits =
      held_answered s.place _ _ s.reply
      (o.reply
      ∙ sym (reply_answered _
      (call_none cs s.place s.budget (length s.run) (length s.work) words in_range (λ _ _. fits))))

  -- with budget and room for the next set it raises a place below the last
  pub progress : length (get_or cs s.place []) ≤ length s.run → 0 < s.budget → s.place < length cs
      → s.place < held s.place s.reply
  progress fits b l =
      omega (arith, answers fits, passed_fit_at s.budget (length s.run) s.place cs l b fits)

  -- with budget and room for all that is left it reaches the last
  pub reaches : length (flat cs) ≤ length s.run → length cs ≤ s.place + s.budget
      → held s.place s.reply ≡ length cs
  reaches room b =
      omega (
        arith,
        answers (omega (arith, cell_le s.place cs)),
        length-drop s.place cs,
        passed_all s.budget (length s.run) (drop s.place cs) (omega (arith, length-drop s.place cs))
            (omega (arith, flat_drop_le s.place cs)),
      )

-- one call reaches the last place: budget for all sets, a run for all entries, and words enough
pub reached : {A : Type 0} (cs : List (List A)) → (ss : List (Seen A)) × Calls cs ss × (place_held 0 ss ≡ length cs)
reached {A} cs = by (replicate work_bound 0) (le_of_eq (sym (length-replicate {A = ℕ} work_bound 0)))
  where
    by : (work : List ℕ) → work_bound ≤ length work
        → (ss : List (Seen A)) × Calls cs ss × (place_held 0 ss ≡ length cs)
    by work w =
        (calls_from cs 0 inputs, record { linked = calls_linked cs 0 inputs; obey = calls_obey cs 0 inputs }, there)
      where
        input : Input A
        input = record { budget = length cs; run = flat cs; work = work }

        inputs : List (Input A)
        inputs = input ∷ []

        there : place_held 0 (calls_from cs 0 inputs) ≡ length cs
        there =
            reaches cs (call_at cs 0 input) (record { reply = refl; run = refl; work = refl }) w
            zero-le (le_refl _) (omega arith)

module _ {A : Type 0} (cs : List (List A)) where
  -- a call that is lent enough raises a place below the last
  pub ample_progress : (s : Seen A)
      → Obeys cs (call_code cs s.place s.budget (length s.run) (length s.work)) s
      → Ample cs s → s.place < length cs → s.place < held s.place s.reply
  ample_progress s o a l =
      progress cs s o a.words (omega arith) (omega (arith, cell_le s.place cs)) a.budget l

  -- so one call less is needed after it
  ample_rises : (p n : ℕ) (s : Seen A) → s.place ≡ p → p ≤ length cs
      → Obeys cs (call_code cs s.place s.budget (length s.run) (length s.work)) s → Ample cs s
      → length cs ≤ p + suc n → length cs ≤ held p s.reply + n
  ample_rises p n s e l o a h = rw (← e) (⊎_elim last below (le_or_lt (length cs) s.place))
    where
      last : length cs ≤ s.place → length cs ≤ held s.place s.reply + n
      last m = omega (arith, (obeys_rightly cs s o).rises)

      below : s.place < length cs → length cs ≤ held s.place s.reply + n
      below m = omega (arith, ample_progress s o a m)

  enough_from : (p : ℕ) (ss : List (Seen A)) → p ≤ length cs → Linked p ss → AllObey cs ss → Every (Ample cs) ss
      → length cs ≤ p + length ss → place_held p ss ≡ length cs
  enough_from p [] l k o a h = omega arith
  enough_from p (s ∷ ss) l k o a h =
      enough_from (held p s.reply) ss (range k.0 o.0) k.1 o.1 a.1
      (ample_rises p (length ss) s k.0 l o.0 a.0 h)
    where
      range : s.place ≡ p → Obeys cs (call_code cs s.place s.budget (length s.run) (length s.work)) s
          → held p s.reply ≤ length cs
      range e b = rw (← e) (held_in_range cs s (obeys_rightly cs s b) (omega arith))

-- so every list of as many such calls as there are sets reaches the last place
pub enough_calls : {A : Type 0} (cs : List (List A)) (ss : List (Seen A)) → Calls cs ss → Every (Ample cs) ss
    → length cs ≤ length ss → place_held 0 ss ≡ length cs
enough_calls cs ss c a l = enough_from cs 0 ss zero-le c.linked c.obey a (omega arith)
