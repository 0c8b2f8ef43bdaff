-- What `begin` shows, over plain values: the refusals, an answer at once, and an answer or an entry by way of the
-- first set.
use Prim.Native.Nat.{ℕ, suc, ◌+◌, ◌≤◌, ◌<◌}
use mathlib.Core.Path.{◌≡◌, refl, sym, ap, ap₂, subst, ◌∙◌}
use mathlib.Core.List.{List, [], ◌∷◌}
use native.Mathlib.Omega.{arith}
use lib.ListN.{length, drop, get_or, replicate}
use Rattle.columns.proofs.Test.{if_eq_yes, if_eq_no}
use Rattle.model.specs.Bounds.{work_bound}
use Rattle.model.specs.Refusal.{number}
use Rattle.model.specs.Calls.{passed, written, call_code, work_after}
use Rattle.model.specs.Listing.{Listing, cells}
use Rattle.model.specs.List.{first_code}
use Rattle.model.specs.Reply.{Reply, reply_of, answered}
use Rattle.model.specs.declared.Entry.{Entry}
use Rattle.std.specs.Prelude.{Result, Ok, Err, Some, None}
use Rattle.model.specs.declared.Refusal.{Refusal}
use Rattle.model.specs.declared.Refusal.TheVariants.{TooFewWords, PastTheEnd, RunTooShort}
use Rattle.model.proofs.Codes.{number_pos}
use Rattle.model.proofs.Grounds.{or_else_first}
use Rattle.model.proofs.Complete.{after_none}
use Rattle.model.proofs.Calls.{passed_spent, written_spent, passed_end_at, written_end_at, call_few, call_past}
use Rattle.model.proofs.Calls.{call_short, call_none}
use Rattle.model.proofs.Stops.{written_fits}
use Rattle.walk.specs.Meaning.{ahead, final}
use Rattle.steps.specs.Steps.{due, Began, Went, whole, values}
use Rattle.walk.specs.Walks.{First, Passes, cell_of}
use Rattle.passing.specs.declared.Walk.{Walk}
use Rattle.steps.specs.declared.Stepped.{Stepped}
use Rattle.steps.specs.declared.Stepped.TheVariants.{Done}
use Rattle.steps.proofs.Stepping.{kept_after}
use Rattle.walk.proofs.Places.{drop_here, drop_inside}
use Rattle.walk.proofs.Walks.{ahead_next, cell_here}

-- nothing is passed and nothing is to be put
abbrev pub idle_at : ℕ → Result Stepped Refusal
idle_at place = Ok (Done (record { place = place; passed = 0; count = 0 }))

module _ (before : ℕ) (l : Listing) (place budget room : ℕ) (words : List ℕ) where
  abbrev ground : ℕ
  ground = first_code before (cells l) place budget room (length words)

  -- a refusal that leaves the words as they are
  refused_at : (r : Refusal) → ground ≡ number r → (number r ≡ 0 → ⊥)
      → (number r ≡ number RunTooShort → ⊥) → Began before l place budget room words (Err r) words
  unfolding due reply_of work_after
  refused_at r e n s =
      record {
        put = sym (rw e (if_eq_no _ n));
        fits = omega arith;
        reply = sym (rw e (if_eq_no _ n));
        kept = sym (rw e (if_eq_no _ n ∙ if_eq_no _ s));
      }

  -- what comes before is refused, and is not 13
  pub begin_refused : (r : Refusal) → number r ≡ before → number r < number RunTooShort
      → Began before l place budget room words (Err r) words
  unfolding first_code
  begin_refused r e small =
      refused_at r (or_else_first _ (λ z. number_pos r (e ∙ z)) ∙ sym e) (number_pos r) (λ z. omega arith)

  module _ (ok : before ≡ 0) where
    -- nothing comes before
    after_check : ground ≡ call_code (cells l) place budget room (length words)
    after_check = after_none before ok (cells l) place budget room (length words)

    pub begin_few : length words < work_bound
        → Began before l place budget room words (Err TooFewWords) words
    begin_few h =
        refused_at TooFewWords (after_check ∙ call_few (cells l) place budget room (length words) h)
        (λ z. omega arith) (λ z. omega arith)

    module _ (enough : work_bound ≤ length words) where
      pub begin_past : length (cells l) < place
          → Began before l place budget room words (Err PastTheEnd) words
      begin_past h =
          refused_at PastTheEnd
          (after_check ∙ call_past (cells l) place budget room (length words) enough (omega arith))
          (λ z. omega arith) (λ z. omega arith)

      -- nothing is passed
      module _ (inside : place ≤ length (cells l)) (zeroed : List ℕ) (z : zeroed ≡ replicate (length words) 0) where
        idle : ground ≡ 0 → passed budget room (drop place (cells l)) ≡ 0
            → written budget room (drop place (cells l)) ≡ []
            → Began before l place budget room words (idle_at place) zeroed
        unfolding due reply_of work_after
        idle e p w =
            record {
              put = sym (if_eq_yes _ e ∙ w);
              fits = omega arith;
              reply =
                  sym (if_eq_yes _ e
                  ∙ ap₂ (λ (k : ℕ) (es : List Entry). answered ((place + k) ∷ k ∷ length es ∷ [])) p w
                  ∙ ap (λ (k : ℕ). answered (k ∷ 0 ∷ 0 ∷ [])) (omega arith));
              kept = z ∙ sym (if_eq_yes _ e);
            }

        pub begin_spent : budget ≡ 0 → Began before l place budget room words (idle_at place) zeroed
        begin_spent q =
            idle
            (after_check ∙ call_none (cells l) place budget room (length words) enough (omega arith)
            (λ _ b. absurd (omega arith)))
            (ap (λ (g : ℕ). passed g room (drop place (cells l))) q ∙ passed_spent room _)
            (ap (λ (g : ℕ). written g room (drop place (cells l))) q ∙ written_spent room _)

        pub begin_end : place ≡ length (cells l)
            → Began before l place budget room words (idle_at place) zeroed
        begin_end q =
            idle
            (after_check ∙ call_none (cells l) place budget room (length words) enough (omega arith)
            (λ b _. absurd (omega arith)))
            (passed_end_at budget room place (cells l) (omega arith))
            (written_end_at budget room place (cells l) (omega arith))

      -- what a walk answers, by its numbers
      abbrev final_at : ℕ → ℕ → ℕ → ℕ → ℕ → Reply
      final_at p g r q n =
          answered
          ((p + passed g r (drop p (cells l))) ∷ (q + passed g r (drop p (cells l)))
          ∷ (n + length (written g r (drop p (cells l)))) ∷ [])

      -- by way of the first set
      module _ (w : Walk) (mid : List ℕ) (f : First l place budget room w mid) where
        here : drop place (cells l) ≡ cell_of l w ∷ drop (suc place) (cells l)
        here =
            subst (λ (p : ℕ). drop p (cells l) ≡ cell_of l w ∷ drop (suc p) (cells l)) f.start
            (cell_here l w mid f.fresh)

        within : place < length (cells l)
        within = drop_inside place (cells l) _ _ here

        cell_is : get_or (cells l) place [] ≡ cell_of l w
        cell_is = drop_here place (cells l) (cell_of l w) [] _ here

        some : 0 < budget
        some = omega (arith, f.fresh.budget, f.useful)

        -- what the first walk has ahead is all that the call writes and answers
        walk_ahead : ahead l w ≡ whole l place budget room
        walk_ahead =
            ahead_next l w f.fresh.pending
            ∙ ap₂ (λ (g r : ℕ). written g r (drop w.place (cells l))) f.useful f.free
            ∙ ap (λ (p : ℕ). written budget room (drop p (cells l))) f.start

        walk_final : final l w ≡ answered (values l place budget room)
        unfolding final
        walk_final =
            ap₂ (λ (g r : ℕ). final_at w.place g r w.passed w.count) f.useful f.free
            ∙ ap₂ (λ (p q : ℕ). final_at p budget room q w.count) f.start f.none
            ∙ ap (final_at place budget room 0) f.empty
            ∙ ap₂ (λ (k n : ℕ). answered ((place + passed budget room (drop place (cells l))) ∷ k ∷ n ∷ []))
            (omega arith) (omega arith)

        pub begin_short : (after : List ℕ) → Passes l w None after → length after ≡ length words → (zeroed : List ℕ)
            → zeroed ≡ replicate (length after) 0
            → Began before l place budget room words (Err RunTooShort) zeroed
        unfolding due reply_of work_after
        begin_short after h same zeroed z =
            let e : ground ≡ number RunTooShort =
            after_check ∙ call_short (cells l) place budget room (length words) enough within some
            (omega (arith, f.free, ap length cell_is)) in
            record {
              put = sym (rw e (if_eq_no _ (λ q. omega arith)));
              fits = omega arith;
              reply = sym (rw e (if_eq_no _ (λ q. omega arith)));
              kept =
                  z ∙ ap (λ (k : ℕ). replicate k 0) same ∙ sym (rw e (if_eq_no _ (λ q. omega arith) ∙ if_eq_yes _ refl));
            }

        pub begin_walks : (v : Walk) (after : List ℕ) → Passes l w (Some v) after → length after ≡ length words
            → (s : Stepped) (now : List ℕ) → Went l v after s now → Began before l place budget room words (Ok s) now
        unfolding due reply_of
        begin_walks v after h same s now g =
            let e : ground ≡ 0 =
            after_check ∙ call_none (cells l) place budget room (length words) enough (omega (arith, within))
            (λ _ _. omega (arith, h.3, f.free, ap length cell_is)) in
            let p = g.put ∙ h.1.put ∙ walk_ahead in
            record {
              put = p ∙ sym (if_eq_yes _ e);
              fits = omega (arith, ap length p, written_fits budget room (drop place (cells l)));
              reply = g.reply ∙ h.1.reply ∙ walk_final ∙ sym (if_eq_yes _ e);
              kept = kept_after l _ words after s now e same g.kept;
            }
