-- The document's numbers, by computation.
use native.Mathlib.Omega.{arith}
use mathlib.Core.Path.{refl}
use mathlib.Core.List.{[], ◌∷◌}
use Rattle.columns.proofs.Test.{if_eq_no}
use Rattle.model.specs.Reply.{answered}
use Rattle.model.specs.Values.{BoundValues, ByteOrder, RefusalNumbers, AnswerValues}
use Rattle.model.proofs.Computes.{computes}

pub bound_values : BoundValues
unfolding computes
bound_values =
    record {
      tables_at_most = refl;
      columns_at_most = refl;
      rows_at_most = refl;
      words_at_least = refl;
      smallest = refl;
      above_the_root = refl;
      missing_cell = refl;
      the_row = refl;
      file_at_most = refl;
    }

pub byte_order_lem : ByteOrder
unfolding computes
byte_order_lem =
    record {
      read2 = refl;
      read4 = refl;
      read_past = refl;
      write2 = refl;
      write4 = refl;
      lowest2 = refl;
      lowest4 = refl;
      bytes = (omega arith, (omega arith, tt));
      not_bytes = λ h. absurd (omega (arith, h.0));
      code_bytes = refl;
      album_root = refl;
      album_below = refl;
      album_trailer = refl;
    }

pub refusal_numbers_lem : RefusalNumbers
unfolding computes
refusal_numbers_lem =
    record {
      file_too_short = refl;
      bad_trailer = refl;
      bad_extent = refl;
      table_too_large = refl;
      bad_parent_table = refl;
      too_many_visible = refl;
      bad_parent_row = refl;
      unknown_table = refl;
      unknown_column = refl;
      unknown_right = refl;
      too_few_words = refl;
      past_the_end = refl;
      run_too_short = refl;
      no_list = refl;
      bad_entry = refl;
      output_too_short = refl;
      false_record = refl;
      unsound_entry = refl;
      uncovered_set = refl;
      bad_text = refl;
      unfit_text = refl;
      no_room = refl;
      last = refl;
    }

pub answer_values_lem : AnswerValues
unfolding computes
answer_values_lem =
    record {
      no_ground = refl;
      a_ground = λ n ground. if_eq_no (answered (7 ∷ [])) ground;
      sound = λ t s. refl;
      holds = refl;
      breaks = refl;
      rows = λ p q. refl;
      none = refl;
      listed = λ p k c. refl;
      packed = λ n. refl;
      opened = λ k n. refl;
      read = λ k. refl;
      accepted = λ k n. refl;
      converted_bytes = λ n. refl;
      not_sound = λ r. refl;
      not_asked = λ r. refl;
      not_paired = λ r. refl;
      not_listed = λ r. refl;
      not_packed = λ r. refl;
      not_opened = λ r. refl;
      not_read = λ r. refl;
      not_accepted = λ r. refl;
      not_converted = λ r. refl;
    }
