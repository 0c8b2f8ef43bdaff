-- The supplied lists are accepted or refused as stated: by computation on the bytes.
use mathlib.Core.Path.{refl}
use Rattle.model.specs.Supplied.{Supplied}
use Rattle.model.proofs.Computes.{computes}

pub supplied : Supplied
unfolding computes
supplied =
    record {
      whole = refl;
      behind = refl;
      repeated = refl;
      reordered = refl;
      exchanged = refl;
      bytes = refl;
      read_back = refl;
      read_wide = refl;
      no_evidence = refl;
      nothing_listed = refl;
      unlisted_key = refl;
      backed_only = refl;
      unbacked_record = refl;
      key_of_root = refl;
      keys_cover = refl;
      no_keys = refl;
      byte_less = refl;
      byte_more = record { code = refl; alone = refl };
      unknown_table = record { code = refl; alone = refl };
      farther_table = record { code = refl; alone = refl };
      unknown_column = record { code = refl; alone = refl };
      inherited_right = record { code = refl; alone = refl };
      unknown_right = record { code = refl; alone = refl };
      first_beyond = record { code = refl; alone = refl };
      second_beyond = record { code = refl; alone = refl };
      last_rows = refl;
      last_rows_exchanged = refl;
      right_in_set = record { code = refl; alone = refl };
      not_agreed = record { code = refl; alone = refl };
      also_agreed = record { code = refl; alone = refl };
      one_row = record { code = refl; alone = refl };
      entry_table = record { code = refl; alone = refl };
      entry_column = record { code = refl; alone = refl };
      entry_right = record { code = refl; alone = refl };
      column_first = refl;
      entry_fails = record { code = refl; alone = refl };
      contains_another = record { code = refl; alone = refl };
      no_rows_entry = refl;
      unbacked_entry = record { code = refl; alone = refl };
      contains_key = record { code = refl; alone = refl };
      given_by_key = record { code = refl; alone = refl };
      given_by_last = record { code = refl; alone = refl };
      above_key = record { code = refl; alone = refl };
      entry_missing = record { code = refl; alone = refl };
      key_missing = record { code = refl; alone = refl };
      larger = record { code = refl; alone = refl };
      columns_for_key = record { code = refl; alone = refl };
      no_entry = record { code = refl; alone = refl };
      no_record = record { code = refl; alone = refl };
      record_missing = record { code = refl; alone = refl };
      other_right = record { code = refl; alone = refl };
      other_target = record { code = refl; alone = refl };
      smaller_set = record { code = refl; alone = refl };
      empty_uncovered = refl;
      key_of_root_alone = refl;
      backed_uncovered = refl;
      first1 = refl;
      first7 = refl;
      first14 = refl;
      first15 = refl;
      first17 = refl;
      first18 = refl;
      refused19 = refl;
    }
