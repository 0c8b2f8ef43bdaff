-- For proofs by computation on a file's bytes: `unfolding computes` opens every definition that such a proof computes
-- with.
use lib.Count.{ones, ones_in}
use Rattle.columns.specs.Test.{if_eq, if_lt, if_le}
use Rattle.columns.specs.Set.{without_of}
use Rattle.columns.specs.Order.{in_order, by_size_from, of_size, of_size_from}
use Rattle.model.specs.Bytes.{u16_at, u32_at, bytes2, bytes4}
use Rattle.model.specs.Refusal.{or_else, first_of}
use Rattle.model.specs.Reply.{reply_of, words_after}
use Rattle.model.specs.Catalogue.{tables, trailer, table_at, columns, parent, rows, row_at, parent_row, cell}
use Rattle.model.specs.Catalogue.{table_end, visible, visible_in, inherited, sets, sets_from}
use Rattle.model.specs.Check.{check_code, check_meaning, size_code, trailer_code, start_of, head_code, bound_code}
use Rattle.model.specs.Check.{parent_code, width_code, extent_code, row_code, table_code, left_code}
use Rattle.model.specs.View.{holds, breaks, minimal, backed, all_below, some_below, agree_on, present_on}
use Rattle.model.specs.First.{first_from}
use Rattle.model.specs.Pair.{first_row, second_row, first_pair}
use Rattle.model.specs.Target.{owner, owner_in, ancestor, ancestor_in, cells_agree, agree_at, present_at}
use Rattle.model.specs.Listing.{rights_of, cells, cells_from, cells_of, entries_of}
use Rattle.model.specs.Listed.{listed}
use Rattle.model.specs.Rights.{right_at, rights_from, rights_in}
use Rattle.model.specs.Encode.{head_of, codes_of, row_of, trailer_of}
use Rattle.model.specs.Encode.{rows_bytes, table_bytes, tables_bytes, starts_from, encode}
use Rattle.model.specs.Album.{album, no_rows, one_missing, both_missing, equal_rows, two_groups, key_below}
use Rattle.model.specs.Album.{parted, lost_above, two_keys, twins}
use Rattle.model.specs.Damaged.{grounds_from, not_zero, grounds, cut, no_table, children, offsets_from, many_tables}
use Rattle.model.specs.Damaged.{long_trailer, late_table, gap, short_head, short_row, left_byte, many_columns}
use Rattle.model.specs.Damaged.{rows_only}
use Rattle.model.specs.Damaged.{many_rows, rooted_root, own_parent, too_wide, rooted_row, unknown_parent_row, smallest}
use Rattle.model.specs.Damaged.{most_columns, most_rows, widest, late_and_large, large_and_rooted, own_parent_and_wide}
use Rattle.model.specs.Damaged.{wide_and_long, long_and_rooted, row_then_table, row_then_byte, row_then_gap}
use Rattle.model.specs.Line.{in_line, forked, below, offsets_by12, deepest}
use Rattle.columns.specs.Set.{member_of, within_of}
use Rattle.model.specs.Question.{target_code, left_side_code, right_side_code, sides_code, words_code, question_code}
use Rattle.model.specs.Question.{ask_meaning, pair_meaning}
use Rattle.model.specs.Calls.{passed, written, place_code, room_code, call_code, run_after, work_after}
use Rattle.model.specs.List.{first_code}
use Rattle.model.specs.Entry.{earlier}
use Rattle.model.specs.Entries.{bytes_of, entry_at, entries_bytes, entries_from, entries_code}
use Rattle.model.specs.Entries.{entry_code, later_code, rest_code}
use Rattle.model.specs.Packing.{packed, output_code, pack_code, pack_meaning, output_after}
use Rattle.model.specs.Reading.{count_in, distance_in, entries_held, front_of, tail_code, read_code, open_meaning}
use Rattle.model.specs.Reading.{entries_read, front_read, read_from, read_meaning, run_read, read_at}
use Rattle.model.specs.RefusedCalls.{empty_list, lost_entry}
use Rattle.model.specs.Evidence.{record_bytes, record_at, records_bytes, records_from, record_count, records_held}
use Rattle.model.specs.Evidence.{unbroken, is_true_record, all_in, some_in}
use Rattle.model.specs.Verify.{is_for, contains_listed, is_sound_entry, is_covered, are_true_records, are_sound_entries}
use Rattle.model.specs.Verify.{are_covered_sets, records_code, sound_code, cover_code, evidence_code, verify_code}
use Rattle.model.specs.Verify.{verify_meaning}
use Rattle.model.specs.Supplied.{album_list, album_records, album_evidence, key_evidence, both_evidence, lost_list}
use Rattle.model.specs.Supplied.{keys_evidence, twins_evidence}
use Rattle.model.specs.Text.{answer_text, listing_text, head_line, refused_line, lines_of, entry_line, entry_text}
use Rattle.model.specs.Text.{right_text, decimal, decimal_in}
use Rattle.model.specs.Forest.{value_or, codes_from, times, tables_in, rows_in, contents_in, contents_of}
use Rattle.model.specs.Form.{number_from, capped, quoted_in, cells_in, is_distinct, next, many_in, skip, digits_end}
use Rattle.model.specs.Form.{expect, word_at, numeral_at, quoted_at, attribute_at, is_attribute, tag_at, table_of}
use Rattle.model.specs.Form.{attributes_of, name_of, end_at, rest_at, is_open, content_by, element_at, document_at}
use Rattle.model.specs.Convert.{tags_in, count_of, rows_from, table_from, contents_from, converted, are_below, fits_tag}
use Rattle.model.specs.Convert.{taken, form_code, empty_code, fit_code, many_code, full_code, convert_code}
use Rattle.model.specs.Convert.{convert_meaning, converted_output}

unfoldable pub computes : Unit {0}
unfolding ones ones_in if_eq if_lt if_le without_of in_order by_size_from of_size of_size_from u16_at u32_at bytes2 bytes4 or_else
    first_of reply_of words_after tables trailer table_at columns parent rows row_at parent_row cell table_end visible
    visible_in inherited sets sets_from check_code check_meaning size_code trailer_code start_of head_code bound_code parent_code
    width_code extent_code row_code table_code left_code holds breaks minimal backed all_below some_below agree_on present_on
    first_from first_row second_row first_pair owner owner_in ancestor ancestor_in cells_agree agree_at present_at listed right_at
    rights_from rights_in rights_of cells cells_from cells_of entries_of head_of codes_of row_of trailer_of rows_bytes table_bytes
    tables_bytes starts_from encode album no_rows one_missing both_missing equal_rows two_groups key_below parted lost_above
    two_keys twins grounds_from not_zero grounds cut no_table children offsets_from many_tables long_trailer late_table gap
    short_head short_row left_byte many_columns rows_only many_rows rooted_root own_parent too_wide rooted_row unknown_parent_row
    smallest most_columns most_rows widest late_and_large large_and_rooted own_parent_and_wide wide_and_long long_and_rooted
    row_then_table row_then_byte row_then_gap in_line forked below offsets_by12 deepest member_of target_code left_side_code
    right_side_code sides_code words_code question_code ask_meaning pair_meaning passed written place_code room_code call_code
    run_after work_after first_code earlier tail_code bytes_of entry_at count_in distance_in entries_bytes packed entries_from
    entries_held front_of entry_code later_code rest_code entries_code output_code pack_code pack_meaning output_after read_code
    open_meaning entries_read front_read read_from read_meaning run_read read_at empty_list lost_entry record_bytes record_at
    records_bytes records_from record_count records_held unbroken is_true_record all_in some_in is_for contains_listed
    is_sound_entry is_covered are_true_records are_sound_entries are_covered_sets records_code sound_code cover_code evidence_code
    verify_code verify_meaning within_of album_list album_records album_evidence key_evidence both_evidence lost_list
    keys_evidence twins_evidence answer_text listing_text head_line refused_line lines_of entry_line entry_text right_text decimal
    decimal_in value_or codes_from times tables_in rows_in contents_in contents_of number_from capped quoted_in cells_in
    is_distinct next many_in skip digits_end expect word_at numeral_at quoted_at attribute_at is_attribute tag_at table_of
    attributes_of name_of end_at rest_at is_open content_by element_at document_at tags_in count_of rows_from table_from
    contents_from converted are_below fits_tag taken form_code empty_code fit_code many_code full_code convert_code
    convert_meaning converted_output
computes = tt
