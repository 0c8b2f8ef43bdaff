-- Demand 3 for every listing within the bounds: about every list of calls as seen, each handed the place held and
-- each as the contract of a call on the listing says, where no ground comes before the call's own. Its hypothesis can
-- be met, and the last place is reached. The ordinary listing of an accepted catalogue is the instance at the end,
-- with nothing left abstract.
use Prim.Native.Nat.{ℕ}
use mathlib.Core.Path.{◌≡◌, sym, subst}
use mathlib.Core.Logic.{◌↔◌}
use mathlib.Core.List.{List, map, Memᴰ}
use lib.ListN.{length}
use Rattle.columns.proofs.Test.{if_eq_yes}
use Rattle.model.specs.Refusal.{or_else}
use Rattle.model.specs.Check.{check_code, Accepted}
use Rattle.model.specs.Entry.{Ordered, Once}
use Rattle.model.specs.Listing.{Listing, Bounded, Stands, ordinary, cells, count_all}
use Rattle.model.specs.Calls.{flat, Seen, Obeys, call_code}
use Rattle.model.specs.Demand.{Linked, Every, place_held, joined, Input, input_of, Demand3, Complete}
use Rattle.model.specs.List.{first_code, CallMeaning, ListMeaning}
use Rattle.model.specs.declared.Entry.{Entry}
use Rattle.model.proofs.Grounds.{or_else_left}
use Rattle.model.proofs.Demand.{demand3, every_map}
use Rattle.model.proofs.Obedient.{obedient, reached}
use Rattle.model.proofs.Listing.{stands_is, full_ordered, full_once, full_count}
use Rattle.model.proofs.Rights.{ordinary_bounded}

-- where no ground comes before, the first ground against a call is one of the call's own
pub after_none : {A : Type 0} (before : ℕ) → before ≡ 0 → (cs : List (List A)) (p g r w : ℕ)
    → first_code before cs p g r w ≡ call_code cs p g r w
unfolding first_code or_else
after_none before none cs p g r w = if_eq_yes _ none

-- and where there is no ground, none comes before
pub none_before : {A : Type 0} (before : ℕ) (cs : List (List A)) (p g r w : ℕ) → first_code before cs p g r w ≡ 0
    → before ≡ 0
unfolding first_code
none_before before cs p g r w e = or_else_left before _ e

module _ (before : ℕ) (none : before ≡ 0) (l : Listing) where
  -- so what is said of calls on a listing is said of calls on its cells
  abbrev ObeysCells : Seen Entry → Type 0
  ObeysCells s = Obeys (cells l) (call_code (cells l) s.place s.budget (length s.run) (length s.work)) s

  obeys : (s : Seen Entry) → CallMeaning before l s → ObeysCells s
  obeys s h =
      subst (λ (code : ℕ). Obeys (cells l) code s)
      (after_none before none (cells l) s.place s.budget (length s.run) (length s.work)) h

  means : (s : Seen Entry) → ObeysCells s → CallMeaning before l s
  means s h =
      subst (λ (code : ℕ). Obeys (cells l) code s)
      (sym (after_none before none (cells l) s.place s.budget (length s.run) (length s.work))) h

  -- what holds of the full listing holds of the entries joined at the last place
  at_the_last_lem : (ss : List (Seen Entry)) → Demand3 (cells l) ss → (P : List Entry → Type 0)
      → P (flat (cells l)) → place_held 0 ss ≡ length (cells l) → P (joined ss)
  at_the_last_lem ss d P h e = subst P (sym (d.at_the_last e)) h

  pub complete : Bounded l → (ss : List (Seen Entry)) → Linked 0 ss → Every (CallMeaning before l) ss → Complete l ss
  complete bounded ss linked all =
      let d : Demand3 (cells l) ss = demand3 (cells l) ss linked (every_map obeys ss all) in
      record {
        calls = d;
        exactly = λ last e. at_the_last_lem ss d (λ es. Memᴰ e es ↔ Stands l e) (stands_is l e) last;
        once = at_the_last_lem ss d Once (full_once l bounded);
        in_order = at_the_last_lem ss d Ordered (full_ordered l bounded);
        count = at_the_last_lem ss d (λ es. length es ≡ count_all l) (full_count l);
      }

  -- the hypothesis can be met: whatever budgets, runs and work words are lent, there is such a list of calls
  pub calls_exist : (inputs : List (Input Entry))
      → (ss : List (Seen Entry)) × Linked 0 ss × Every (CallMeaning before l) ss × (map input_of ss ≡ inputs)
  calls_exist inputs =
      let (ss, c, e, n) = obedient (cells l) inputs in
      (ss, c.linked, every_map means ss c.obey, e)

  -- and the last place is reached
  pub last_reached : (ss : List (Seen Entry)) × Linked 0 ss × Every (CallMeaning before l) ss
      × (place_held 0 ss ≡ length (cells l))
  last_reached =
      let (ss, c, e) = reached (cells l) in
      (ss, c.linked, every_map means ss c.obey, e)

-- the ordinary listing of an accepted catalogue
module _ (cat : List ℕ) (ok : Accepted cat) where
  pub ordinary_complete : (ss : List (Seen Entry)) → Linked 0 ss → Every (ListMeaning cat) ss
      → Complete (ordinary cat) ss
  ordinary_complete = complete (check_code cat) ok (ordinary cat) (ordinary_bounded cat ok)

  pub ordinary_calls_exist : (inputs : List (Input Entry))
      → (ss : List (Seen Entry)) × Linked 0 ss × Every (ListMeaning cat) ss × (map input_of ss ≡ inputs)
  ordinary_calls_exist = calls_exist (check_code cat) ok (ordinary cat)

  pub ordinary_last_reached : (ss : List (Seen Entry)) × Linked 0 ss × Every (ListMeaning cat) ss
      × (place_held 0 ss ≡ length (cells (ordinary cat)))
  ordinary_last_reached = last_reached (check_code cat) ok (ordinary cat)
