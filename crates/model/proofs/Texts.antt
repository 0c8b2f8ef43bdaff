-- Texts of the supplier's kind: each case by computation.
use mathlib.Core.Path.{refl}
use Rattle.model.specs.Texts.{Conversions, FinePoints}
use Rattle.model.proofs.Computes.{computes}

pub conversions : Conversions
unfolding computes
conversions =
    record {
      words = refl;
      letters = refl;
      white_bytes = refl;
      quote_bytes = refl;
      digit_bytes = refl;
      album_stands = refl;
      album_read = refl;
      fork_stands = refl;
      fork_read = refl;
      fork_fits = refl;
      no_rows = refl;
      album_reply = refl;
      album_longer = refl;
      album_short = refl;
      written = refl;
      untouched = refl;
      shape_first = refl;
      text_before_rows = refl;
      shape_with_rows = refl;
      shape_with_aRoot_row = refl;
      unfit_before_room = refl;
      no_room = refl;
      deepest = refl;
      too_deep = refl;
      empty_too_deep = refl;
      byte_order_mark = refl;
    }

pub fine_points_lem : FinePoints
unfolding computes
fine_points_lem =
    record {
      white_outside = refl;
      white_empty = refl;
      white_in_tags = refl;
      no_white = refl;
      behind_less = refl;
      behind_close = refl;
      behind_slash = refl;
      in_the_name = refl;
      in_the_column = refl;
      before_the_value = refl;
      behind_the_value = refl;
      form_feed = refl;
      vertical_tab = refl;
      zero_byte = refl;
      no_break_space = refl;
      none_before = refl;
      none_between = refl;
      double_quotes = refl;
      mixed_quotes = refl;
      backtick = refl;
      no_quotes = refl;
      short_empty = refl;
      long_empty = refl;
      other_end = refl;
      longer_end = refl;
      no_end = refl;
      end_alone = refl;
      end_cut = refl;
      end_with_attribute = refl;
      leading_zero = refl;
      leading_zero_one = refl;
      upper_case = refl;
      no_number = refl;
      negative = refl;
      signed = refl;
      other_name = refl;
      other_root = refl;
      longer_root = refl;
      zero = refl;
      largest = refl;
      too_large = refl;
      far_too_large = refl;
      no_digits = refl;
      two_zeros = refl;
      zero_before = refl;
      colon_for_aDigit = refl;
      slash_for_aDigit = refl;
      signed_value = refl;
      no_value = refl;
      column_zero = refl;
      other_attribute = refl;
      any_order = refl;
      twice = refl;
      twice_apart = refl;
      twice_at_the_end = refl;
      twice_too_large = refl;
      on_catalogue = refl;
      other_text = refl;
      text_behind = refl;
      comment = refl;
      entity = refl;
      entity_in_value = refl;
      character_data = refl;
      prolog = refl;
      declaration = refl;
      prefix = refl;
      namespace = refl;
      second_root = refl;
      nothing = refl;
      white_alone = refl;
      row_alone = refl;
      unknown_table = refl;
      too_large_table = refl;
      unknown_column = refl;
      second_column_unknown = refl;
      too_large_column = refl;
      different_too_large = refl;
      child_at_the_root = refl;
      root_in_the_root = refl;
      child_in_the_child = refl;
      unfit_then_bad = refl;
      unfit_then_twice = refl;
    }
