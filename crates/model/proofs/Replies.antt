-- What calls reply and what they leave in lent memory, by computation on the bytes.
use Prim.Native.Nat.{ℕ, ◌≤◌, ◌<◌}
use mathlib.Core.Path.{◌≡◌, refl, sym, ap, subst, ◌∙◌}
use mathlib.Core.List.{List, [], ◌∷◌}
use native.Mathlib.Omega.{arith}
use lib.ListN.{length, drop}
use Rattle.columns.proofs.Test.{if_eq_no, if_lt_no, if_lt_yes}
use Rattle.model.specs.Bounds.{work_bound}
use Rattle.model.specs.Refusal.{number, or_else}
use Rattle.model.specs.declared.Refusal.TheVariants.{TooFewWords}
use Rattle.model.specs.Question.{words_code}
use Rattle.model.specs.Check.{Accepted, check_code}
use Rattle.model.specs.Listing.{ordinary, cells}
use Rattle.model.specs.Calls.{place_code, room_code, call_code, Seen, Obeys}
use Rattle.model.specs.List.{ListMeaning}
use Rattle.model.specs.Text.{too_long, refused_line, listing_text, answer_text}
use Rattle.model.specs.Album.{album, twins}
use Rattle.model.specs.Line.{in_line}
use Rattle.model.specs.Replies.{QuestionReplies, CallParts, ListReplies, PackedReplies, TextReplies}
use Rattle.model.specs.declared.Entry.{Entry}
use Rattle.model.proofs.Grounds.{or_else_next}
use Rattle.model.proofs.Complete.{after_none}
use Rattle.model.proofs.Computes.{computes}

pub question_replies_lem : QuestionReplies
unfolding computes
question_replies_lem =
    record {
      k1 = refl;
      k2 = refl;
      k3 = refl;
      no_key = refl;
      k4 = refl;
      k5 = refl;
      k6 = refl;
      k8 = refl;
      groups = refl;
      refused8 = refl;
      refused9 = refl;
      refused10 = refl;
      refused11 = refl;
      refused6 = refl;
      pair_of_k1 = refl;
      pair_of_k2 = refl;
      pair_of_groups = refl;
      pair_of_row = refl;
      pair_refused8 = refl;
      pair_refused9 = refl;
      pair_refused10 = refl;
      pair_refused11 = refl;
      pair_refused6 = refl;
      zeroed = refl;
      zeroed_three = refl;
      kept = λ n ground. if_eq_no (0 ∷ 0 ∷ []) ground;
    }

pub call_parts_lem : CallParts
call_parts_lem =
    record {
      place = refl;
      budget = refl;
      run = refl;
      work = refl;
      reply = refl;
      run_then = refl;
      work_then = refl;
      place_held = refl;
      passed = refl;
      count = refl;
      place_kept = refl;
      none_passed = refl;
      none_counted = refl;
    }

-- with words enough, the grounds against a listing call are those of its place and of its run
enough : (cat : List ℕ) (s : Seen Entry) → Accepted cat → work_bound ≤ length s.work
    → Obeys (cells (ordinary cat))
    (or_else (place_code (length (cells (ordinary cat))) s.place)
    (room_code s.budget (length s.run) (drop s.place (cells (ordinary cat)))))
    s
    → ListMeaning cat s
unfolding call_code words_code
enough cat s z w o =
    subst (λ (n : ℕ). Obeys (cells (ordinary cat)) n s)
    (sym
    (after_none (check_code cat) z (cells (ordinary cat)) s.place s.budget (length s.run) (length s.work)
    ∙ or_else_next _ (if_lt_no (number TooFewWords) w)))
    o

pub list_replies_lem : ListReplies
unfolding computes
list_replies_lem =
    record {
      blank_table = refl;
      whole = λ work w. enough album _ refl w (record { reply = refl; run = refl; work = refl });
      exactly = λ work w. enough album _ refl w (record { reply = refl; run = refl; work = refl });
      budget_left = λ work w. enough album _ refl w (record { reply = refl; run = refl; work = refl });
      by_budget = λ work w. enough album _ refl w (record { reply = refl; run = refl; work = refl });
      by_run = λ work w. enough album _ refl w (record { reply = refl; run = refl; work = refl });
      gone_on = λ work w. enough album _ refl w (record { reply = refl; run = refl; work = refl });
      budget0 = λ work w. enough album _ refl w (record { reply = refl; run = refl; work = refl });
      no_record = λ work w. enough album _ refl w (record { reply = refl; run = refl; work = refl });
      refused13 = λ work w. enough twins _ refl w (record { reply = refl; run = refl; work = refl });
      two_at_once = λ work w. enough twins _ refl w (record { reply = refl; run = refl; work = refl });
      key_alone = λ work w. enough in_line _ refl w (record { reply = refl; run = refl; work = refl });
      unbacked = λ work w. enough in_line _ refl w (record { reply = refl; run = refl; work = refl });
      refused12 = λ work w. enough album _ refl w (record { reply = refl; run = refl; work = refl });
      refused11 = record { reply = refl; run = refl; work = refl };
      refused6 = record { reply = refl; run = refl; work = refl };
      zeroed = refl;
      zeroed_three = refl;
      zeroed13 = refl;
      kept = λ n answer full. if_eq_no (0 ∷ 0 ∷ []) answer ∙ if_eq_no (0 ∷ 0 ∷ []) full;
    }

pub packed_replies_lem : PackedReplies
unfolding computes
packed_replies_lem =
    record {
      bytes = refl;
      no_entry = refl;
      writes = refl;
      output = refl;
      refused16 = refl;
      output_kept16 = refl;
      refused15 = refl;
      output_kept15 = refl;
      opens = refl;
      entries = refl;
      front = refl;
      refused14 = refl;
      opened15 = refl;
      no_entries15 = refl;
      read14 = refl;
      read15 = refl;
      no_entries = refl;
      no_front = refl;
      first = refl;
      last = refl;
      end = refl;
      past_end = refl;
      from_second = refl;
      run_from_second = refl;
      short_run = refl;
      run_of_one = refl;
      run_kept = refl;
    }

at_the_bound_lem : (cat : List ℕ) → length cat ≡ 32768 → check_code cat ≡ 2 → answer_text cat ≡ refused_line 2
unfolding answer_text
at_the_bound_lem cat l e =
    if_lt_no too_long (omega arith) ∙ if_eq_no (listing_text cat) (λ z. omega (arith, e, z)) ∙ ap refused_line e

too_long_lem : (cat : List ℕ) → 32768 < length cat → answer_text cat ≡ too_long
unfolding answer_text
too_long_lem cat h = if_lt_yes _ h

pub text_replies_lem : TextReplies
unfolding computes
text_replies_lem =
    record {
      zero = refl;
      ten = refl;
      widest = refl;
      no_rows_text = refl;
      one_missing_text = refl;
      refused1 = refl;
      refused6 = refl;
      refused16 = refl;
      at_the_bound = at_the_bound_lem;
      long = too_long_lem;
    }
