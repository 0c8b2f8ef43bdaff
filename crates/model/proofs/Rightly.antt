-- One listing call that obeys its contract does what demand 3 says of each call.
use Prim.Native.Nat.{ℕ, ◌+◌, ◌≤◌, ◌<◌}
use mathlib.Core.Path.{◌≡◌, refl, sym, ap, ◌∙◌}
use mathlib.Core.Logic.{◌⊎◌, inl, inr, ◌↔◌}
use mathlib.Core.List.{List, [], ◌∷◌, ◌++◌}
use native.Mathlib.Nat.{add-zero}
use native.Mathlib.Omega.{arith}
use lib.ListN.{length, take, drop, get_or, replicate}
use lib.Seq.{take-append_seam, drop-append_seam}
use Rattle.columns.proofs.Test.{if_eq_yes, if_eq_no}
use Rattle.model.specs.Bounds.{work_bound}
use Rattle.model.specs.Refusal.{number}
use Rattle.model.specs.Reply.{Reply, refused, answered}
use Rattle.model.specs.Calls.{flat, passed, written, run_after, work_after, call_code, Seen, Obeys}
use Rattle.model.specs.Demand.{held, sets_passed, entry_count, Rightly}
use Rattle.model.specs.declared.Refusal.TheVariants.{TooFewWords, PastTheEnd, RunTooShort}
use Rattle.model.proofs.Calls.{Outcome, few, past, short, none, outcome}
use Rattle.model.proofs.Grounds.{reply_refused, reply_answered}
use Rattle.model.proofs.Stops.{passed_stops}

-- what a code leaves in the run and in the work words
pub run_answered : {A : Type 0} (code : ℕ) (es run : List A) → code ≡ 0
    → run_after code es run ≡ es ++ drop (length es) run
unfolding run_after
run_answered code es run e = if_eq_yes _ e

pub run_refused : {A : Type 0} (code n : ℕ) (es run : List A) → code ≡ n → 0 < n → run_after code es run ≡ run
unfolding run_after
run_refused code n es run e h = if_eq_no _ (λ z. omega arith)

pub work_answered : (code : ℕ) (work : List ℕ) → code ≡ 0 → work_after code work ≡ replicate (length work) 0
unfolding work_after
work_answered code work e = if_eq_yes _ e

pub work_short : (code : ℕ) (work : List ℕ) → code ≡ number RunTooShort
    → work_after code work ≡ replicate (length work) 0
unfolding work_after
work_short code work e = if_eq_no _ (λ z. omega arith) ∙ if_eq_yes _ e

pub work_kept : (code n : ℕ) (work : List ℕ) → code ≡ n → 0 < n → (n ≡ number RunTooShort → ⊥)
    → work_after code work ≡ work
unfolding work_after
work_kept code n work e h o = if_eq_no _ (λ z. omega arith) ∙ if_eq_no _ (λ z. o (sym e ∙ z))

-- a reply is one thing
refused_is : (r : Reply) (m n : ℕ) → r ≡ refused m → r ≡ refused n → m ≡ n
refused_is r m n p q = cc

refused_not_answered : (r : Reply) (n : ℕ) (vs : List ℕ) → r ≡ refused n → r ≡ answered vs → ⊥
refused_not_answered r n vs p q = let z : ◌≡◌ {A = ℕ} 0 1 = cc in omega arith

-- what a refusal says of the place, the sets and the entries
refused_rises : (p n : ℕ) (r : Reply) → r ≡ refused n → held p r ≡ p + sets_passed r
refused_rises p n r e = rw e (sym (add-zero p))

refused_own : {A : Type 0} (n : ℕ) (r : Reply) (run : List A) (cs : List (List A)) → r ≡ refused n
    → take (entry_count r) run ≡ flat (take (sets_passed r) cs)
refused_own n r run cs e = rw e

refused_counted : {A : Type 0} (n : ℕ) (r : Reply) (cs : List (List A)) → r ≡ refused n
    → entry_count r ≡ length (flat (take (sets_passed r) cs))
refused_counted n r cs e = rw e

-- and what an answer says, where k sets are passed and es is written
answered_rises : (p k c : ℕ) (r : Reply) → r ≡ answered ((p + k) ∷ k ∷ c ∷ []) → held p r ≡ p + sets_passed r
answered_rises p k c r e = rw e

answered_passed : (p k c : ℕ) (r : Reply) → r ≡ answered (p ∷ k ∷ c ∷ []) → sets_passed r ≡ k
answered_passed p k c r e = rw e

answered_count : (p k c : ℕ) (r : Reply) → r ≡ answered (p ∷ k ∷ c ∷ []) → entry_count r ≡ c
answered_count p k c r e = rw e

answered_own : {A : Type 0} (c : ℕ) (es run : List A) → c ≡ length es → take c (es ++ run) ≡ es
answered_own c es run e = rw e (take-append_seam es run)

answered_others : {A : Type 0} (c : ℕ) (es run : List A) → c ≡ length es → drop c (es ++ drop (length es) run)
    ≡ drop c run
answered_others c es run e = rw e (drop-append_seam es (drop (length es) run))

-- a refused call
module _ {A : Type 0} (cs : List (List A)) (s : Seen A) where
  refused_rightly : (n : ℕ) → s.reply ≡ refused n
      → (n ≡ number TooFewWords) ↔ (length s.work < work_bound)
      → (n ≡ number PastTheEnd) ↔ ((work_bound ≤ length s.work) × (length cs < s.place))
      → (n ≡ number RunTooShort)
      ↔ ((work_bound ≤ length s.work) × (s.place < length cs) × (0 < s.budget)
      × (length s.run < length (get_or cs s.place [])))
      → (n ≡ number TooFewWords) ⊎ ((n ≡ number PastTheEnd) ⊎ (n ≡ number RunTooShort))
      → s.run_then ≡ s.run → (n ≡ number RunTooShort → s.work_then ≡ replicate (length s.work) 0)
      → ((n ≡ number RunTooShort → ⊥) → s.work_then ≡ s.work)
      → Rightly cs s
  refused_rightly n e f p t one same empty kept =
      record {
        refused11 = (λ q. f.0 (refused_is _ _ _ e q), λ h. e ∙ ap refused (f.1 h));
        refused12 = (λ q. p.0 (refused_is _ _ _ e q), λ h. e ∙ ap refused (p.1 h));
        refused13 = (λ q. t.0 (refused_is _ _ _ e q), λ h. e ∙ ap refused (t.1 h));
        no_other = λ m q. rw (refused_is s.reply m n q e) one;
        rises = refused_rises s.place n s.reply e;
        stops = λ vs q. absurd (refused_not_answered s.reply n vs e q);
        own = refused_own n s.reply s.run_then (drop s.place cs) e;
        counted = refused_counted n s.reply (drop s.place cs) e;
        others = ap (drop (entry_count s.reply)) same;
        zeroed = λ vs q. absurd (refused_not_answered s.reply n vs e q);
        zeroed13 = λ q. empty (refused_is _ _ _ e q);
        words_kept = λ m q o. kept (λ z. o (refused_is _ _ _ q e ∙ z));
      }

  -- an answered call
  answered_rightly : (k : ℕ) (es : List A) → k ≡ passed s.budget (length s.run) (drop s.place cs)
      → es ≡ flat (take k (drop s.place cs)) → s.reply ≡ answered ((s.place + k) ∷ k ∷ length es ∷ [])
      → s.run_then ≡ es ++ drop (length es) s.run → work_bound ≤ length s.work → s.place ≤ length cs
      → (s.place < length cs → 0 < s.budget → length (get_or cs s.place []) ≤ length s.run)
      → s.work_then ≡ replicate (length s.work) 0
      → Rightly cs s
  answered_rightly k es ek ew e u w l f z =
      record {
        refused11 = (λ q. absurd (not_refused q), λ h. absurd (omega arith));
        refused12 = (λ q. absurd (not_refused q), λ h. absurd (omega arith));
        refused13 = (λ q. absurd (not_refused q), λ h. absurd (omega (arith, f h.1 h.2)));
        no_other = λ m q. absurd (not_refused q);
        rises = answered_rises s.place k (length es) s.reply e;
        stops = λ vs q. rw passes (rw ek (passed_stops cs s.place s.budget (length s.run) l));
        own = ap (take (entry_count s.reply)) u ∙ answered_own _ es (drop (length es) s.run) counts ∙ there;
        counted = counts ∙ ap length there;
        others = ap (drop (entry_count s.reply)) u ∙ answered_others _ es s.run counts;
        zeroed = λ vs q. z;
        zeroed13 = λ q. absurd (not_refused q);
        words_kept = λ n q o. absurd (not_refused q);
      }
    where
      not_refused : {n : ℕ} → s.reply ≡ refused n → ⊥
      not_refused {n} q = refused_not_answered s.reply n _ q e

      passes : sets_passed s.reply ≡ k
      passes = answered_passed _ k (length es) s.reply e

      counts : entry_count s.reply ≡ length es
      counts = answered_count _ k (length es) s.reply e

      there : es ≡ flat (take (sets_passed s.reply) (drop s.place cs))
      there = ew ∙ ap (λ (j : ℕ). flat (take j (drop s.place cs))) (sym passes)

  -- a call that obeys, by the four outcomes
  by_outcome : (code : ℕ) → Outcome cs s.place s.budget (length s.run) (length s.work) code
      → Obeys cs code s → Rightly cs s
  unfolding written
  by_outcome code (few e w) o =
      refused_rightly (number TooFewWords) (o.reply ∙ sym (reply_refused _ (sym e) (λ z. omega arith)))
      (λ _. w, λ _. refl) (λ q. absurd (omega arith), λ h. absurd (omega arith))
      (λ q. absurd (omega arith), λ h. absurd (omega arith)) (inl refl)
      (o.run ∙ run_refused code _ _ s.run e (omega arith)) (λ q. absurd (omega arith))
      (λ q. o.work ∙ work_kept code _ s.work e (omega arith) q)
  by_outcome code (past e w l) o =
      refused_rightly (number PastTheEnd) (o.reply ∙ sym (reply_refused _ (sym e) (λ z. omega arith)))
      (λ q. absurd (omega arith), λ h. absurd (omega arith)) (λ _. (w, l), λ _. refl)
      (λ q. absurd (omega arith), λ h. absurd (omega arith)) (inr (inl refl))
      (o.run ∙ run_refused code _ _ s.run e (omega arith)) (λ q. absurd (omega arith))
      (λ q. o.work ∙ work_kept code _ s.work e (omega arith) q)
  by_outcome code (short e w l b h) o =
      refused_rightly (number RunTooShort) (o.reply ∙ sym (reply_refused _ (sym e) (λ z. omega arith)))
      (λ q. absurd (omega arith), λ h. absurd (omega arith)) (λ q. absurd (omega arith), λ h. absurd (omega arith))
      (λ _. (w, l, b, h), λ _. refl) (inr (inr refl))
      (o.run ∙ run_refused code _ _ s.run e (omega arith)) (λ q. o.work ∙ work_short code s.work e)
      (λ q. absurd (q refl))
  by_outcome code (none e w l f) o =
      answered_rightly _ _ refl refl (o.reply ∙ sym (reply_answered _ e))
      (o.run ∙ run_answered code _ s.run e) w l f (o.work ∙ work_answered code s.work e)

pub obeys_rightly : {A : Type 0} (cs : List (List A)) (s : Seen A)
    → Obeys cs (call_code cs s.place s.budget (length s.run) (length s.work)) s → Rightly cs s
obeys_rightly cs s o =
    by_outcome cs s _ (outcome cs s.place s.budget (length s.run) (length s.work)) o
