-- The refused calls are refused with their numbers, for no other ground than stated: by computation on the bytes.
use Prim.Native.Nat.{ℕ}
use mathlib.Core.Path.{◌≡◌, refl, ap}
use native.Mathlib.Omega.{arith}
use lib.ListN.{length}
use Rattle.model.specs.RefusedCalls.{OneGround, RefusedQuestions, RefusedListings, RefusedLists}
use Rattle.model.proofs.Computes.{computes}

pub one_ground_lem : OneGround
unfolding computes
one_ground_lem =
    record {
      one = record { code = refl; alone = refl };
      other_code = λ o. let z : ◌≡◌ {A = ℕ} 9 8 = o.code in absurd (omega arith);
      ground_beside = λ o. let z : ◌≡◌ {A = ℕ} 2 1 = ap length o.alone in absurd (omega arith);
    }

pub refused_questions_lem : RefusedQuestions
unfolding computes
refused_questions_lem =
    record {
      unknown_table = record { code = refl; alone = refl };
      last_table = refl;
      past_one_table = refl;
      fourth_table = refl;
      past_four_tables = refl;
      unknown_column = record { code = refl; alone = refl };
      all_columns = refl;
      inherited_right = record { code = refl; alone = refl };
      unknown_right = record { code = refl; alone = refl };
      right_below = record { code = refl; alone = refl };
      almost_row = record { code = refl; alone = refl };
      above_row = record { code = refl; alone = refl };
      first_own = refl;
      own_of_third = refl;
      inherited_of_third = record { code = refl; alone = refl };
      last_own = refl;
      few_words = record { code = refl; alone = refl };
      no_words = record { code = refl; alone = refl };
      enough_words = refl;
      first1 = refl;
      first2 = refl;
      first3 = refl;
      first4 = refl;
      first5 = refl;
      first6 = refl;
      first7 = refl;
      first8 = refl;
      first9 = refl;
      first10 = refl;
    }

pub refused_listings_lem : RefusedListings
unfolding computes
refused_listings_lem =
    record {
      few_words = record { code = refl; alone = refl };
      enough_words = refl;
      past_the_end = record { code = refl; alone = refl };
      past_the_end_at_budget0 = record { code = refl; alone = refl };
      last_place = refl;
      short_run = record { code = refl; alone = refl };
      run_fits = refl;
      budget0 = refl;
      no_entry_next = refl;
      first1 = refl;
      first2 = refl;
      first3 = refl;
      first4 = refl;
      first5 = refl;
      first6 = refl;
      first7 = refl;
      eleven_before12 = refl;
      eleven_before13 = refl;
    }

pub refused_lists_lem : RefusedLists
unfolding computes
refused_lists_lem =
    record {
      seven = record { code = refl; alone = refl };
      four = record { code = refl; alone = refl };
      none = record { code = refl; alone = refl };
      eight = refl;
      too_far = record { code = refl; alone = refl };
      too_near = record { code = refl; alone = refl };
      far_enough = refl;
      above_the_length = record { code = refl; alone = refl };
      lost_bytes = refl;
      at_the_length = refl;
      target16 = record { code = refl; alone = refl };
      target15 = refl;
      right16 = record { code = refl; alone = refl };
      right254 = record { code = refl; alone = refl };
      right15 = refl;
      right_in_left = record { code = refl; alone = refl };
      top_right_in_left = record { code = refl; alone = refl };
      right_beside = refl;
      row_of_all = refl;
      equal_neighbours = record { code = refl; alone = refl };
      lower_target = record { code = refl; alone = refl };
      smaller_left = record { code = refl; alone = refl };
      lower_left = record { code = refl; alone = refl };
      lower_right = record { code = refl; alone = refl };
      row_first = record { code = refl; alone = refl };
      higher_target = refl;
      larger_left = refl;
      higher_left = refl;
      higher_right = refl;
      row_last = refl;
      bad_third = record { code = refl; alone = refl };
      early_third = record { code = refl; alone = refl };
      read_target16 = record { code = refl; alone = refl };
      read_equal_neighbours = record { code = refl; alone = refl };
      short_output = record { code = refl; alone = refl };
      enough_output = refl;
      short_output_of_one = record { code = refl; alone = refl };
      enough_output_of_one = refl;
      fourteen_before15 = refl;
      fifteen_before16 = refl;
    }
