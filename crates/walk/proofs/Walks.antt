-- What `first`, `pass`, `following` and `onward` show, over plain values.
use Prim.Native.Nat.{ℕ, suc, ◌+◌, ◌-◌, ◌*◌, ◌^◌, ◌≤◌, ◌<◌}
use mathlib.Core.Path.{◌≡◌, refl, sym, ap, ap₂, subst, ◌∙◌}
use mathlib.Core.List.{List, [], ◌∷◌, ◌++◌}
use native.Mathlib.Numerals.{add-one}
use native.Mathlib.Decide.{dec_lt}
use native.Mathlib.Omega.{arith}
use lib.Count.{ones, ones-le}
use lib.ListN.{length, drop, get_or, length-append}
use Rattle.std.specs.Prelude.{Option, Some, None}
use Rattle.columns.specs.Bound.{column_bound}
use Rattle.columns.proofs.Test.{if_lt_yes, if_lt_no}
use Rattle.columns.proofs.Membership.{members_own}
use Rattle.columns.specs.Order.{in_order, next_of}
use Rattle.columns.specs.Set.{members_of}
use Rattle.columns.specs.declared.ColumnSet.{ColumnSet}
use Rattle.model.specs.Bounds.{table_bound, work_bound}
use Rattle.model.specs.Calls.{passed, written}
use Rattle.model.specs.Listing.{Listing, width_of, cells, Bounded}
use Rattle.model.specs.Reply.{answered}
use Rattle.model.specs.declared.Entry.{Entry}
use Rattle.model.proofs.Calls.{passed_nil, written_nil, passed_spent, written_spent}
use Rattle.model.proofs.Calls.{passed_full, written_full, passed_fit, written_fit}
use Rattle.model.proofs.Short.{places_few}
use Rattle.passing.specs.Pass.{right_bound, passed_on, passed_by, Passable}
use Rattle.passing.specs.declared.Held.{Held}
use Rattle.passing.specs.declared.Walk.{Walk}
use Rattle.rights.specs.Ready.{Ready}
use Rattle.rights.specs.Rights.{listed_rights, entries_of_mask}
use Rattle.rights.proofs.Mask.{mask_lt, entries_count, entries_none, entries_of_rights}
use Rattle.walk.specs.Places.{SetAt, SetBefore, Found}
use Rattle.walk.specs.Meaning.{ahead, final, Sound, Good}
use Rattle.walk.specs.Walks.{Fresh, First, Same, cell_of, moved_to, Passes, After, Follows, Stopped, Goes}
use Rattle.walk.proofs.Places.{stands_cells, stands_inside, stands_before, chosen_lt, next_within, next_target}
use Rattle.walk.proofs.Places.{next_none, found_stands}

answers : {a b c d e f : ℕ} → a ≡ d → b ≡ e → c ≡ f → answered (a ∷ b ∷ c ∷ []) ≡ answered (d ∷ e ∷ f ∷ [])
answers p q r = cc

-- a set that fits is passed: what is ahead from its place is its entries, and what is ahead from the next
module _ {A : Type 0} (cs : List (List A)) (p g r k : ℕ) (c : List A) (here : drop p cs ≡ c ∷ drop (suc p) cs)
    (some : 0 < g)
    (size : k ≡ length c) (fits : k ≤ r) where
  next : drop (suc p) cs ≡ drop (p + 1) cs
  next = ap (λ (i : ℕ). drop i cs) (sym (add-one p))

  room : r - length c ≡ r - k
  room = omega arith

  written_next : written g r (drop p cs) ≡ c ++ written (g - 1) (r - k) (drop (p + 1) cs)
  written_next =
      ap (written g r) here ∙ written_fit g r c (drop (suc p) cs) some (omega arith)
      ∙ ap₂ (λ (s : ℕ) (l : List (List A)). c ++ written (g - 1) s l) room next

  passed_next : passed g r (drop p cs) ≡ suc (passed (g - 1) (r - k) (drop (p + 1) cs))
  passed_next =
      ap (passed g r) here ∙ passed_fit g r c (drop (suc p) cs) some (omega arith)
      ∙ ap₂ (λ (s : ℕ) (l : List (List A)). suc (passed (g - 1) s l)) room next

-- nothing is pending
module _ (l : Listing) (w : Walk) (nothing : w.pending ≡ 0) where
  pub ahead_next : ahead l w ≡ written w.budget w.room (drop w.place (cells l))
  unfolding ahead
  ahead_next =
      ap (λ (es : List Entry). es ++ written w.budget w.room (drop w.place (cells l)))
      (entries_none w.target w.left w.members w.pending nothing)

  -- and nothing is passed
  stopped : passed w.budget w.room (drop w.place (cells l)) ≡ 0
      → written w.budget w.room (drop w.place (cells l)) ≡ [] → Stopped l w
  unfolding final
  stopped p e =
      record { put = ahead_next ∙ e; reply = answers (omega arith) (omega arith) (omega (arith, ap length e)) }

  pub stopped_spent : w.budget ≡ 0 → Stopped l w
  stopped_spent z =
      stopped (ap (λ (g : ℕ). passed g w.room (drop w.place (cells l))) z ∙ passed_spent w.room _)
      (ap (λ (g : ℕ). written g w.room (drop w.place (cells l))) z ∙ written_spent w.room _)

  pub stopped_end : drop w.place (cells l) ≡ [] → Stopped l w
  stopped_end z =
      stopped (ap (passed w.budget w.room) z ∙ passed_nil Entry w.budget w.room)
      (ap (written w.budget w.room) z ∙ written_nil Entry w.budget w.room)

-- a walk at a set
module _ (l : Listing) (w : Walk) (words : List ℕ) (f : Fresh l w words) where
  pub cell_here : drop w.place (cells l) ≡ cell_of l w ∷ drop (suc w.place) (cells l)
  cell_here = stands_cells l w.target w.left w.place f.stands

  pub fresh_full : w.room < length (cell_of l w) → Stopped l w
  fresh_full h =
      stopped l w f.pending
      (ap (passed w.budget w.room) cell_here ∙ passed_full w.budget w.room _ _ h)
      (ap (written w.budget w.room) cell_here ∙ written_full w.budget w.room _ _ h)

  pub fresh_target : w.target < l.targets
  fresh_target = f.stands.set.target

  pub fresh_left : w.left < 2 ^ width_of l w.target
  fresh_left = chosen_lt l w.target w.left f.stands.index f.stands.set

  pub fresh_inside : w.left < 2 ^ w.members
  fresh_inside = subst (λ (n : ℕ). w.left < 2 ^ n) (sym f.sound.members) fresh_left

  fresh_few : width_of l w.target ≤ column_bound
  fresh_few = f.sound.bounded.members w.target fresh_target

  fresh_place : w.place < table_bound * 2 ^ column_bound
  fresh_place =
      omega (arith, stands_inside l w.target w.left w.place f.stands, places_few l f.sound.bounded)

  -- its rights
  module _ (mask : ℕ) (is : mask ≡ listed_rights l w.target w.left) where
    mask_below : mask < 2 ^ suc w.members
    mask_below =
        let e : suc (width_of l w.target) ≡ suc w.members = ap suc (sym f.sound.members) in
        subst (λ (k : ℕ). mask < 2 ^ k) e
        (subst (λ (m : ℕ). m < 2 ^ suc (width_of l w.target)) (sym is)
        (mask_lt (l.view w.target) (l.rights w.target) w.left))

    cell_mask : cell_of l w ≡ entries_of_mask w.target w.left w.members mask
    cell_mask =
        entries_of_rights l w.target w.left
        ∙ ap₂ (entries_of_mask w.target w.left) (sym f.sound.members) (sym is)

    cell_size : ones mask ≡ length (cell_of l w)
    cell_size = sym (ap length cell_mask ∙ entries_count w.target w.left w.members mask mask_below)

    size_le : ones mask ≤ right_bound
    size_le = omega (arith, ones-le (suc w.members) mask mask_below, f.sound.members, fresh_few)

    pass_full : w.room < ones mask → w.room < length (cell_of l w)
    pass_full h = omega (arith, cell_size)

    -- what the set's entries leave
    abbrev rest : List Entry
    rest = written (w.budget - 1) (w.room - ones mask) (drop (w.place + 1) (cells l))

    module _ (fits : ones mask ≤ w.room) where
      written_here : written w.budget w.room (drop w.place (cells l)) ≡ cell_of l w ++ rest
      written_here =
          written_next (cells l) w.place w.budget w.room (ones mask) (cell_of l w) cell_here
          f.budget cell_size fits

      pass_put : ahead l (passed_on w mask) ≡ ahead l w
      unfolding ahead
      pass_put =
          ap (λ (es : List Entry). es ++ rest) (sym cell_mask) ∙ sym written_here ∙ sym (ahead_next l w f.pending)

      pass_reply : final l (passed_on w mask) ≡ final l w
      unfolding final
      pass_reply =
          let p = passed_next (cells l) w.place w.budget w.room (ones mask) (cell_of l w) cell_here
          f.budget cell_size fits in
          let k = ap length written_here ∙ length-append (cell_of l w) rest in
          answers (omega arith) (omega arith) (omega (arith, cell_size))

      pass_at : (after : List ℕ) → (0 < w.budget - 1 → Ready l w.target w.held w.own after)
          → length after ≡ length words → Passes l w (Some (passed_on w mask)) after
      pass_at after ready same = (
        record {
          sound =
              record {
                bounded = f.sound.bounded;
                enough = omega (arith, f.sound.enough);
                members = f.sound.members;
                passed = omega (arith, f.sound.passed);
                counted = omega (arith, f.sound.counted, size_le);
              };
          stands =
              subst (SetBefore l w.target w.left) (sym (add-one w.place))
              (stands_before l w.target w.left w.place f.stands);
          pending = mask_below;
          ready = ready;
        },
        record { put = pass_put; reply = pass_reply },
        omega (arith, f.budget),
        omega (arith, cell_size),
      )

    pub fresh_passable : Passable w mask
    fresh_passable =
        record {
          place = fresh_place;
          passed = f.sound.passed;
          counted = f.sound.counted;
          rights = size_le;
          budget = f.budget;
        }

    -- what passing the set answers is right, if the words are ready wherever more sets can be passed
    pub passes_by : (after : List ℕ) → (0 < w.budget - 1 → Ready l w.target w.held w.own after)
        → length after ≡ length words → (r : Option Walk) → r ≡ passed_by w mask → Passes l w r after
    unfolding passed_by
    passes_by after ready same r e = at (dec_lt w.room (ones mask))
      where
        at : Dec (w.room < ones mask) → Passes l w r after
        at (yes h) = subst (λ (s : Option Walk). Passes l w s after) (sym (e ∙ if_lt_yes _ h)) (pass_full h)
        at (no h) =
            let fits : ones mask ≤ w.room = omega arith in
            subst (λ (s : Option Walk). Passes l w s after) (sym (e ∙ if_lt_no None fits)) (pass_at fits after ready same)

-- a walk that differs only in its set, where nothing is pending
module _ (l : Listing) (w : Walk) (nothing : w.pending ≡ 0) where
  moved_same : (t x n : ℕ) (held : Held) (own : ℕ) → Same l w (moved_to w t x n held own)
  unfolding final
  moved_same t x n held own =
      record { put = ahead_next l (moved_to w t x n held own) nothing ∙ sym (ahead_next l w nothing); reply = refl }

  pub moved_fresh : (t x n : ℕ) (held : Held) (own : ℕ) (words after : List ℕ) → Sound l w words
      → length after ≡ length words → 0 < w.budget → SetAt l t x w.place → n ≡ width_of l t
      → Fresh l (moved_to w t x n held own) after
  moved_fresh t x n held own words after sound same some s e =
      record {
        sound =
            record {
              bounded = sound.bounded;
              enough = omega (arith, sound.enough);
              members = e;
              passed = sound.passed;
              counted = sound.counted;
            };
        stands = s;
        pending = nothing;
        budget = some;
      }

-- a walk that is to pass its set, with the words made ready for its target: passing the set of the one is passing
-- that of the other
module _ (l : Listing) (w : Walk) (words : List ℕ) (f : Fresh l w words) {v : Walk} {held : Held} {own : ℕ}
    (is : v ≡ moved_to w w.target w.left w.members held own) where
  pub entered_fresh : (after : List ℕ) → length after ≡ length words → Fresh l v after
  entered_fresh after same =
      subst (λ (u : Walk). Fresh l u after) (sym is)
      (moved_fresh l w f.pending w.target w.left w.members held own words after f.sound same f.budget
      f.stands f.sound.members)

  pub entered_ready : {after : List ℕ} → Ready l w.target held own after
      → Ready l v.target v.held v.own after
  entered_ready {after} ready = subst (λ (u : Walk). Ready l u.target u.held u.own after) (sym is) ready

  moved_passes : (r : Option Walk) (after : List ℕ)
      → Passes l (moved_to w w.target w.left w.members held own) r after → Passes l w r after
  moved_passes (Some u) after (g, s, k, h) =
      let same = moved_same l w f.pending w.target w.left w.members held own in
      (g, record { put = s.put ∙ same.put; reply = s.reply ∙ same.reply }, k, h)
  moved_passes None after h = h

  pub entered_passes : (r : Option Walk) (after : List ℕ) → Passes l v r after → Passes l w r after
  entered_passes r after h = moved_passes r after (subst (λ (u : Walk). Passes l u r after) is h)

-- a walk whose set is passed, and nothing of it is pending
module _ (l : Listing) (w : Walk) (words : List ℕ) (g : Good l w words) (nothing : w.pending ≡ 0) where
  pub good_target : w.target < l.targets
  good_target = g.stands.set.target

  good_few : width_of l w.target ≤ column_bound
  good_few = g.sound.bounded.members w.target good_target

  -- what the set answers as its next is the next of its number
  next_of_lem : {r : Option ColumnSet} → next_of w.members (members_of w.left) ≡ r → next_of (width_of l w.target) w.left
      ≡ r
  next_of_lem e =
      let s = g.stands in
      let lt = chosen_lt l w.target w.left s.index s.set in
      ap₂ next_of (sym g.sound.members) (sym (members_own (width_of l w.target) w.left good_few lt)) ∙ e

  moved_after : (t x n : ℕ) (held : Held) (own : ℕ) (after : List ℕ) → 0 < w.budget → SetAt l t x w.place
      → n ≡ width_of l t → Ready l t held own after → length after ≡ length words
      → After l w (moved_to w t x n held own) after
  moved_after t x n held own after some s e ready same =
      record {
        fresh = moved_fresh l w nothing t x n held own words after g.sound same some s e;
        ready = ready;
        same = moved_same l w nothing t x n held own;
        budget = refl;
        place = refl;
        passed = refl;
        count = refl;
      }

  pub follow_within : (y : ColumnSet) → 0 < w.budget → next_of w.members (members_of w.left) ≡ Some y
      → Follows l w (Some (moved_to w w.target y.bits w.members w.held w.own)) words
  follow_within y some e =
      moved_after w.target y.bits w.members w.held w.own words some
      (next_within l w.target w.left w.place g.stands good_few y.bits (next_of_lem e))
      g.sound.members (g.ready some) refl

  pub follow_target : (n : ℕ) (held : Held) (own t : ℕ) (after : List ℕ) → 0 < w.budget
      → next_of w.members (members_of w.left) ≡ None → t ≡ w.target + 1 → t < l.targets → n ≡ width_of l t
      → Ready l t held own after → length after ≡ length words → Follows l w (Some (moved_to w t 0 n held own)) after
  follow_target n held own t after some e q h v ready same =
      moved_after t 0 n held own after some
      (subst (λ (i : ℕ). SetAt l i 0 w.place) (sym (q ∙ add-one w.target))
      (next_target l w.target w.left w.place g.stands good_few (next_of_lem e) (omega arith)))
      v ready same

  pub follow_none : (after : List ℕ) → next_of w.members (members_of w.left) ≡ None → l.targets ≤ w.target + 1
      → Follows l w None after
  follow_none after e h =
      next_none l w.target w.left w.place g.stands good_few
      (next_of_lem e) (omega arith)

  -- going on by way of the next set
  pub goes_full : (v : Walk) (mid after : List ℕ) → After l w v mid → Passes l v None after → Goes l w None after
  goes_full v mid after a h =
      let s = fresh_full l v mid a.fresh h in
      record {
        put = sym a.same.put ∙ s.put;
        reply = sym a.same.reply ∙ s.reply ∙ answers a.place a.passed a.count;
      }

  pub goes_at : (v u : Walk) (mid after : List ℕ) → After l w v mid → Passes l v (Some u) after → Goes l w (Some u) after
  goes_at v u mid after a h = (
    h.0,
    record { put = h.1.put ∙ a.same.put; reply = h.1.reply ∙ a.same.reply },
    omega (arith, h.2, a.budget),
  )

  pub goes : (v : Walk) (r : Option Walk) (mid after : List ℕ) → After l w v mid → Passes l v r after → Goes l w r after
  goes v (Some u) mid after a h = goes_at v u mid after a h
  goes v None mid after a h = goes_full v mid after a h

-- the first walk of a call
pub first_walk : (l : Listing) (words : List ℕ) (place budget room t i x n : ℕ) (held : Held) (own : ℕ) → Bounded l
    → work_bound ≤ length words → 0 < budget → Found l place t i → n ≡ width_of l t → x ≡ get_or (in_order n) i 0
    → First l place budget room
    (record {
      target = t;
      left = x;
      members = n;
      held = held;
      own = own;
      place = place;
      budget = budget;
      room = room;
      passed = 0;
      count = 0;
      pending = 0;
    }) words
first_walk l words place budget room t i x n held own bounded enough some f e q =
    record {
      fresh =
          record {
            sound =
                record {
                  bounded = bounded;
                  enough = enough;
                  members = e;
                  passed = omega arith;
                  counted = omega arith;
                };
            stands = found_stands l place t i x f (q ∙ ap (λ (k : ℕ). get_or (in_order k) i 0) e);
            pending = refl;
            budget = some;
          };
      start = refl;
      useful = refl;
      free = refl;
      none = refl;
      empty = refl;
    }
