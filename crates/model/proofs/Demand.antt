-- Demand 3, about any cells: a list of calls, each handed the place held and each obeying its contract, joins what
-- stands below the place held.
use Prim.Native.Nat.{ℕ, ◌+◌, ◌≤◌, zero-le}
use mathlib.Core.Path.{◌≡◌, refl, sym, ap, ◌∙◌}
use mathlib.Core.List.{List, [], ◌∷◌, ◌++◌, append-nil, append_assoc}
use native.Mathlib.Nat.{add-zero, zero-add}
use native.Mathlib.Omega.{arith}
use lib.ListN.{length, take, drop, length-append}
use lib.Seq.{take-length}
use Rattle.model.specs.Refusal.{number}
use Rattle.model.specs.Reply.{Reply, refused, answered}
use Rattle.model.specs.Calls.{flat, Seen}
use Rattle.model.specs.Demand.{held, sets_passed, entry_count, Linked, place_held, joined, total, Every, AllObey}
use Rattle.model.specs.Demand.{Rightly, Demand3}
use Rattle.model.specs.declared.Refusal.TheVariants.{PastTheEnd}
use Rattle.model.proofs.Calls.{flat_take_add}
use Rattle.model.proofs.Rightly.{obeys_rightly}

-- what holds of each call
pub every_map : {A : Type 0} {P Q : Seen A → Type 0} → ((s : Seen A) → P s → Q s)
    → (ss : List (Seen A)) → Every P ss → Every Q ss
every_map f [] h = tt
every_map f (s ∷ ss) h = (f s h.0, every_map f ss h.1)

-- all of demand 3 but its last line, from any place held
pub record From {A : Type 0} (cs : List (List A)) (p : ℕ) (ss : List (Seen A)) : Type 0 where
  pub in_range : place_held p ss ≤ length cs
  pub joined_is : flat (take p cs) ++ joined ss ≡ flat (take (place_held p ss) cs)
  pub passed_add : p + total sets_passed ss ≡ place_held p ss
  pub counts_add : total entry_count ss ≡ length (joined ss)

module _ {A : Type 0} (cs : List (List A)) where
  -- a call leaves the place in range
  pub held_in_range : (s : Seen A) → Rightly cs s → s.place ≤ length cs → held s.place s.reply ≤ length cs
  held_in_range s r l = go s.reply refl
    where
      go : (q : Reply) → s.reply ≡ q → held s.place s.reply ≤ length cs
      go (refused n) e = rw e l
      go (answered vs) e = rw r.rises (r.stops vs e).in_range

  next_in_range : (p : ℕ) (s : Seen A) → p ≤ length cs → s.place ≡ p → Rightly cs s → held p s.reply ≤ length cs
  next_in_range p s l e r = rw (← e) (held_in_range s r (omega arith))

  from_nil : (p : ℕ) → p ≤ length cs → From cs p []
  from_nil p l =
      record { in_range = l; joined_is = append-nil (flat (take p cs)); passed_add = add-zero p; counts_add = refl }

  -- one call more, over plain variables: j is what it joins, k how many sets it passes, c its entry count, q the place
  -- then held, z the place held at the end, rest what is joined later
  join_step : (p k q z : ℕ) (j rest : List A) → q ≡ p + k → j ≡ flat (take k (drop p cs))
      → flat (take q cs) ++ rest ≡ flat (take z cs) → flat (take p cs) ++ (j ++ rest) ≡ flat (take z cs)
  join_step p k q z j rest eq ej ih =
      sym (append_assoc (flat (take p cs)) j rest)
      ∙ ap (λ (l : List A). l ++ rest)
      (ap (λ (l : List A). flat (take p cs) ++ l) ej ∙ sym (flat_take_add p k cs)
      ∙ ap (λ (n : ℕ). flat (take n cs)) (sym eq))
      ∙ ih

  count_step : (c n : ℕ) (j rest : List A) → c ≡ length j → n ≡ length rest → c + n ≡ length (j ++ rest)
  count_step c n j rest e h = rw length-append (omega arith)

  from_step : (p : ℕ) (s : Seen A) (ss : List (Seen A)) → s.place ≡ p → Rightly cs s → From cs (held p s.reply) ss
      → From cs p (s ∷ ss)
  from_step p s ss e r t =
      record {
        in_range = t.in_range;
        joined_is = join_step p _ next (place_held next ss) now (joined ss) rises own t.joined_is;
        passed_add = omega (arith, rises);
        counts_add = count_step _ _ now (joined ss) (r.counted ∙ ap length (sym r.own)) t.counts_add;
      }
    where
      next : ℕ
      next = held p s.reply

      now : List A
      now = take (entry_count s.reply) s.run_then

      rises : held p s.reply ≡ p + sets_passed s.reply
      rises = rw (← e) r.rises

      own : now ≡ flat (take (sets_passed s.reply) (drop p cs))
      own = r.own ∙ ap (λ (n : ℕ). flat (take (sets_passed s.reply) (drop n cs))) e

  -- from any place held
  pub demand3_from : (p : ℕ) (ss : List (Seen A)) → p ≤ length cs → Linked p ss → Every (Rightly cs) ss → From cs p ss
  demand3_from p [] l k h = from_nil p l
  demand3_from p (s ∷ ss) l k h =
      from_step p s ss k.0 h.0
      (demand3_from (held p s.reply) ss (next_in_range p s l k.0 h.0) k.1 h.1)

  -- no call of such a list is refused with 12
  pub never_past_lem : (p : ℕ) (ss : List (Seen A)) → p ≤ length cs → Linked p ss → Every (Rightly cs) ss
      → Every (λ s. s.reply ≡ refused (number PastTheEnd) → ⊥) ss
  never_past_lem p [] l k h = tt
  never_past_lem p (s ∷ ss) l k h =
      (not_past k.0 h.0, never_past_lem (held p s.reply) ss (next_in_range p s l k.0 h.0) k.1 h.1)
    where
      not_past : s.place ≡ p → Rightly cs s → s.reply ≡ refused (number PastTheEnd) → ⊥
      not_past e r q = omega (arith, (r.refused12.0 q).1)

pub all_rightly : {A : Type 0} (cs : List (List A)) (ss : List (Seen A)) → AllObey cs ss → Every (Rightly cs) ss
all_rightly cs ss = every_map (obeys_rightly cs) ss

-- demand 3: a single claim about every list of calls
pub demand3 : {A : Type 0} (cs : List (List A)) (ss : List (Seen A)) → Linked 0 ss → AllObey cs ss → Demand3 cs ss
demand3 {A} cs ss k o =
    record {
      in_range = t.in_range;
      joined_is = t.joined_is;
      each = all_rightly cs ss o;
      never_past = never_past_lem cs 0 ss zero-le k (all_rightly cs ss o);
      passed_add = sym (zero-add (total sets_passed ss)) ∙ t.passed_add;
      counts_add = t.counts_add;
      at_the_last = λ e. t.joined_is ∙ ap (λ (n : ℕ). flat (take n cs)) e ∙ ap flat (take-length cs);
    }
  where
    t : From cs 0 ss
    t = demand3_from cs 0 ss zero-le k (all_rightly cs ss o)
