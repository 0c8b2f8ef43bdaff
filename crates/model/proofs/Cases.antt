-- The cases, K1 to K11 of document 01 and the tables of the other files: by computation on the bytes.
use Prim.Native.Nat.{ℕ, zero, suc, ◌+◌, ◌≤◌}
use mathlib.Core.Path.{◌≡◌, refl, sym, ap, subst, ◌∙◌}
use mathlib.Core.Logic.{◌⊎◌, inl, inr}
use mathlib.Core.List.Memᴰ
use mathlib.Core.List.{List, [], ◌∷◌, Memᴰ}
use mathlib.Core.Bool.{true, false}
use native.Mathlib.Omega.{arith}
use lib.Dec.{lit<}
use lib.ListN.{length, drop}
use Rattle.columns.specs.Test.{if_eq}
use Rattle.columns.specs.Order.{Precedes, in_order}
use Rattle.columns.proofs.Test.{if_lt_no}
use Rattle.model.specs.Bounds.{work_bound, row}
use Rattle.model.specs.Refusal.{number}
use Rattle.model.specs.declared.Refusal.TheVariants.{TooFewWords, PastTheEnd}
use Rattle.model.specs.Reply.{Reply, refused, answered, reply_of}
use Rattle.model.specs.Damaged.{too_wide}
use Rattle.model.specs.Question.{words_code}
use Rattle.model.specs.Catalogue.{visible}
use Rattle.model.specs.Check.{check_code, check_meaning}
use Rattle.model.specs.View.{Key, AgreeOn, holds}
use Rattle.model.specs.Pair.{first_pair}
use Rattle.model.specs.Target.{view}
use Rattle.model.specs.Entry.{entry}
use Rattle.model.specs.Listing.{ordinary, cells}
use Rattle.model.specs.Calls.{flat, passed, written, place_code, room_code, call_code, run_after, Seen, Obeys}
use Rattle.model.specs.List.{ListMeaning, list_code}
use Rattle.model.specs.Album.{album, no_rows, one_missing, both_missing, equal_rows, two_groups}
use Rattle.model.specs.Album.{parted, lost_above, two_keys}
use Rattle.model.specs.Cases.{Cases}
use Rattle.model.specs.declared.Entry.{Entry}
use Rattle.model.proofs.Grounds.{or_else_none}
use Rattle.model.proofs.Complete.{after_none}
use Rattle.model.proofs.Computes.{computes}
use Rattle.model.proofs.Damaged.{damages, at_the_bounds_lem, damage_order_lem}
use Rattle.model.proofs.RefusedCalls.{one_ground_lem, refused_questions_lem, refused_listings_lem, refused_lists_lem}
use Rattle.model.proofs.Supplied.{supplied}
use Rattle.model.proofs.Texts.{conversions, fine_points_lem}
use Rattle.model.proofs.Line.{line, fork, depth}
use Rattle.model.proofs.Replies.{question_replies_lem, call_parts_lem, list_replies_lem, packed_replies_lem}
use Rattle.model.proofs.Replies.{text_replies_lem}
use Rattle.model.proofs.Values.{bound_values, byte_order_lem, refusal_numbers_lem, answer_values_lem}
use Rattle.model.proofs.Text.{album_text_lem}
use Rattle.model.proofs.View.{holds_true, holds_false, breaks_is, minimal_is}
use Rattle.model.proofs.Backed.{backed_true, backed_false}
use Rattle.model.proofs.Pair.{first_pair_is}

-- the tests on these catalogues
test1 : holds (view album 1) 1 2 ≡ true
unfolding computes
test1 = refl

test2 : holds (view album 1) 2 2 ≡ false
unfolding computes
test2 = refl

-- rows 0 and 2
first2 : first_pair (view album 1) 2 2 ≡ 0 ∷ 2 ∷ []
unfolding computes
first2 = refl

test3 : holds (view album 1) 6 row ≡ true
unfolding computes
test3 = refl

test4 : holds (view album 0) 0 0 ≡ false
unfolding computes
test4 = refl

test5 : holds (view album 0) 1 0 ≡ true
unfolding computes
test5 = refl

test6 : holds (view no_rows 0) 0 row ≡ true
unfolding computes
test6 = refl

test7 : holds (view one_missing 0) 0 0 ≡ true
unfolding computes
test7 = refl

test8 : holds (view both_missing 0) 1 row ≡ true
unfolding computes
test8 = refl

-- the two rows agree on both visible columns, so on every left side, and are not one row
agree9 : (x : ℕ) → AgreeOn (view equal_rows 1) x 0 1
unfolding computes
agree9 x zero l i = tt
agree9 x (suc zero) l i = tt
agree9 x (suc (suc k)) l i = absurd (omega arith)

none9 : (x : ℕ) → Key (view equal_rows 1) x → ⊥
unfolding computes
none9 x h = h 0 1 (lit< tt) (lit< tt) (agree9 x)

order10 : Precedes 4 3
unfolding computes
order10 = inl (lit< tt)

lefts10 : in_order (visible album 1) ≡ 0 ∷ 1 ∷ 2 ∷ 4 ∷ 3 ∷ 5 ∷ 6 ∷ 7 ∷ []
unfolding computes
lefts10 = refl

-- the album
album_length_lem : length album ≡ 84
unfolding computes
album_length_lem = refl

album_accepted_lem : check_code album ≡ 0
unfolding computes
album_accepted_lem = refl

album_check_lem : check_meaning album ≡ answered (2 ∷ 10 ∷ [])
unfolding computes
album_check_lem = refl

refused_check_lem : check_meaning too_wide ≡ refused 6
unfolding computes
refused_check_lem = refl

album_listing_lem : flat (cells (ordinary album)) ≡ entry 1 1 2 ∷ entry 1 3 row ∷ entry 1 6 row ∷ []
unfolding computes
album_listing_lem = refl

album_places : length (cells (ordinary album)) ≡ 10
unfolding computes
album_places = refl

nothing_after : drop 10 (cells (ordinary album)) ≡ []
unfolding computes
nothing_after = refl

-- no entry of target 0 is listed
unlisted5 : Memᴰ (entry 0 1 0) (flat (cells (ordinary album))) → ⊥
unlisted5 m =
    first (Memᴰ.cases_cons (subst (λ (es : List Entry). Memᴰ (entry 0 1 0) es) album_listing_lem m))
  where
    other : (x a : ℕ) → entry 0 1 0 ≡ entry 1 x a → ⊥
    other x a e = let z : ◌≡◌ {A = ℕ} 0 1 = ap (λ (f : Entry). f.target) e in omega arith

    third : (entry 0 1 0 ≡ entry 1 6 row) ⊎ Memᴰ (entry 0 1 0) [] → ⊥
    third (inl e) = other 6 row e
    third (inr n) = Memᴰ.not-nil n

    second : (entry 0 1 0 ≡ entry 1 3 row) ⊎ Memᴰ (entry 0 1 0) (entry 1 6 row ∷ []) → ⊥
    second (inl e) = other 3 row e
    second (inr n) = third (Memᴰ.cases_cons n)

    first : (entry 0 1 0 ≡ entry 1 1 2) ⊎ Memᴰ (entry 0 1 0) (entry 1 3 row ∷ entry 1 6 row ∷ []) → ⊥
    first (inl e) = other 1 2 e
    first (inr n) = second (Memᴰ.cases_cons n)

-- where nothing is listed, no entry is
none_listed : (cat : List ℕ) (e : Entry) → flat (cells (ordinary cat)) ≡ [] → Memᴰ e (flat (cells (ordinary cat)))
    → ⊥
none_listed cat e none m = Memᴰ.not-nil (subst (λ (es : List Entry). Memᴰ e es) none m)

unlisted6 : Memᴰ (entry 0 0 row) (flat (cells (ordinary no_rows))) → ⊥
unfolding computes
unlisted6 = none_listed no_rows (entry 0 0 row) refl

-- the key alone is listed
listing7 : flat (cells (ordinary one_missing)) ≡ entry 0 0 row ∷ []
unfolding computes
listing7 = refl

unlisted7 : Memᴰ (entry 0 0 0) (flat (cells (ordinary one_missing))) → ⊥
unlisted7 m = at (Memᴰ.cases_cons (subst (λ (es : List Entry). Memᴰ (entry 0 0 0) es) listing7 m))
  where
    at : (entry 0 0 0 ≡ entry 0 0 row) ⊎ Memᴰ (entry 0 0 0) [] → ⊥
    at (inl e) = let z : ◌≡◌ {A = ℕ} 0 row = ap (λ (f : Entry). f.right) e in omega arith
    at (inr n) = Memᴰ.not-nil n

unlisted8 : Memᴰ (entry 0 1 row) (flat (cells (ordinary both_missing))) → ⊥
unfolding computes
unlisted8 = none_listed both_missing (entry 0 1 row) refl

-- a call at the last place: there is no ground against it, and it passes nothing and writes nothing
no_ground : {A : Type 0} (cs : List (List A)) (place budget room words : ℕ)
    → place ≡ length cs → drop place cs ≡ [] → work_bound ≤ words → call_code cs place budget room words ≡ 0
unfolding call_code words_code place_code room_code
no_ground cs place budget room words p d w =
    or_else_none (if_lt_no (number TooFewWords) w)
    (or_else_none (if_lt_no (number PastTheEnd) (omega arith)) (ap (room_code budget room) d))

replies : {A : Type 0} → ℕ → ℕ → ℕ → ℕ → List (List A) → Reply
replies code place budget room cs =
    reply_of code ((place + passed budget room cs) ∷ passed budget room cs ∷ length (written budget room cs) ∷ [])

passes_nothing : {A : Type 0} (cs : List (List A)) (code : ℕ) (s : Seen A)
    → code ≡ 0 → s.place ≡ 10 → drop s.place cs ≡ [] → Obeys cs code s
    → (s.reply ≡ answered (10 ∷ 0 ∷ 0 ∷ [])) × (s.run_then ≡ s.run)
unfolding replies passed written reply_of run_after if_eq
passes_nothing {A} cs code s z p d o = (
  o.reply ∙ ap (λ c. replies c s.place s.budget (length s.run) (drop s.place cs)) z
      ∙ ap (replies 0 s.place s.budget (length s.run)) d
      ∙ ap (λ n. replies {A = A} 0 n s.budget (length s.run) []) p,
  o.run ∙ ap (λ c. run_after c (written s.budget (length s.run) (drop s.place cs)) s.run) z
      ∙ ap (λ r. run_after 0 (written s.budget (length s.run) r) s.run) d,
)

last11 : (s : Seen Entry) → s.place ≡ 10 → work_bound ≤ length s.work → ListMeaning album s
    → (s.reply ≡ answered (10 ∷ 0 ∷ 0 ∷ [])) × (s.run_then ≡ s.run)
last11 s p w o =
    passes_nothing (cells (ordinary album)) (list_code album s.place s.budget (length s.run) (length s.work))
    s
    (after_none (check_code album) album_accepted_lem (cells (ordinary album)) s.place s.budget (length s.run)
    (length s.work) ∙ no_ground (cells (ordinary album)) s.place s.budget (length s.run)
    (length s.work) (p ∙ sym album_places) none w)
    p none o
  where
    none : drop s.place (cells (ordinary album)) ≡ []
    none = ap (λ n. drop n (cells (ordinary album))) p ∙ nothing_after

cases : Cases
unfolding computes
cases =
    record {
      k1 = holds_true (view album 1) 1 2 test1;
      k2 = (holds_false (view album 1) 2 2 test2, (first_pair_is (view album 1) 2 2 0 2).0 first2);
      k3 = holds_true (view album 1) 6 row test3;
      k4 = holds_false (view album 0) 0 0 test4;
      k5 = (holds_true (view album 0) 1 0 test5, unlisted5);
      k6 = (holds_true (view no_rows 0) 0 row test6, unlisted6);
      k7 = (holds_true (view one_missing 0) 0 0 test7, unlisted7);
      k7_missing = refl;
      k8 = (holds_true (view both_missing 0) 1 row test8, unlisted8);
      k9 = none9;
      k9_present = backed_true (view equal_rows 1) 3 refl;
      k10 = (order10, lefts10);
      k11 = last11;
      no_rows_unbacked = backed_false (view no_rows 0) 0 refl;
      empty_backed = backed_true (view one_missing 0) 0 refl;
      one_missing_listing = listing7;
      first_backed = backed_true (view parted 0) 1 refl;
      second_backed = backed_true (view parted 0) 2 refl;
      both_unbacked = backed_false (view parted 0) 3 refl;
      both_key = holds_true (view parted 0) 3 row refl;
      parted_listing = refl;
      own_backed = backed_true (view lost_above 1) 2 refl;
      above_unbacked = backed_false (view lost_above 1) 1 refl;
      lost_above_listing = refl;
      key_of_one = holds_true (view two_keys 0) 1 row refl;
      key_of_two = holds_true (view two_keys 0) 6 row refl;
      given_by_one = ((minimal_is (view two_keys 0) 1 1).0 tt, (minimal_is (view two_keys 0) 1 2).0 tt);
      given_by_two = (minimal_is (view two_keys 0) 6 0).0 tt;
      two_keys_listing = refl;
      larger_key = (holds_true (view album 1) 3 row refl, holds_false (view album 1) 1 row refl);
      twins_listing = refl;
      first_of_groups = (first_pair_is (view two_groups 0) 1 1 0 4).0 refl;
      later_second = (breaks_is (view two_groups 0) 1 1 0 5).0 tt;
      lower_second = (breaks_is (view two_groups 0) 1 1 1 2).0 tt;
      last_of_groups = (breaks_is (view two_groups 0) 1 1 4 5).0 tt;
      album_length = album_length_lem;
      album_check = album_check_lem;
      refused_check = refused_check_lem;
      album_listing = album_listing_lem;
      album_text = album_text_lem;
      album_accepted = album_accepted_lem;
      no_rows_accepted = refl;
      one_missing_accepted = refl;
      both_missing_accepted = refl;
      equal_rows_accepted = refl;
      two_groups_accepted = refl;
      parted_accepted = refl;
      lost_above_accepted = refl;
      two_keys_accepted = refl;
      twins_accepted = refl;
      line = line;
      fork = fork;
      depth = depth;
      damages = damages;
      at_the_bounds = at_the_bounds_lem;
      damage_order = damage_order_lem;
      one_ground = one_ground_lem;
      refused_questions = refused_questions_lem;
      refused_listings = refused_listings_lem;
      refused_lists = refused_lists_lem;
      supplied = supplied;
      conversions = conversions;
      fine_points = fine_points_lem;
      question_replies = question_replies_lem;
      call_parts = call_parts_lem;
      list_replies = list_replies_lem;
      packed_replies = packed_replies_lem;
      text_replies = text_replies_lem;
      bounds = bound_values;
      byte_order = byte_order_lem;
      refusal_numbers = refusal_numbers_lem;
      answer_values = answer_values_lem;
    }
