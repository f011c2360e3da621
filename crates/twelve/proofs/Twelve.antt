-- Document 01's twelve cases, and its traps, computed: each table one theorem. Assumes nothing.
use mathlib.Core.Path.{refl}
use lib.Count.{count_trailing_zeros}
use lib.Ieee.{fits, is_nan, of_bits, of_fields, odd}
use Rattle.words.specs.Words.{words_after, size_of, fills, eqs}
use Rattle.words.specs.Table.{rows, entries, first_of, find_in, is_at}
use Rattle.words.specs.Made.{make}
use Rattle.words.specs.Columns.{every}
use Rattle.bitset.specs.Bitset.{nowhere, also}
use Rattle.wellformed.specs.Fresh.{fresh_words}
use Rattle.wellformed.specs.Entry.{most_of, names_in, types_in, all, deepest, float_ok, zero_filled, values_ok, ok_entry}
use Rattle.wellformed.specs.Form.{all_zero, heads_at, ok_rows, ok_entries, well_formed}
use Rattle.call.specs.Call.{call, ask, filled_output}
use Rattle.call.specs.Handles.{types_rows}
use Rattle.source.specs.Packed.{of_bytes, packed}
use Rattle.names.specs.Name.{name_entry}
use Rattle.makers.specs.Entries.{field_words}
use Rattle.makers.specs.Makers.{fresh_call, tuple_rows, fref_rows, struct_rows, part_rows}
use Rattle.type_float.specs.Single.{is_single}
use Rattle.float_meet.specs.FloatRule.{float_rule}
use Rattle.mask.specs.Mask.{agreed}
use Rattle.layout.specs.Layout.{bytes_where, offsets_from, offsets}
use Rattle.meet_rules.specs.Names.{same_words}
use Rattle.meet_rules.specs.Rules.{pair_rule, rule_for, named_rule, struct_rule}
use Rattle.meet.specs.Meet.{follow_struct, meet_struct, follow, meet_within}
use Rattle.structs.specs.Remade.{fields_with, remake}
use Rattle.walk_rules.specs.Tables.{form_for, finals_of, walk_fields}
use Rattle.walk.specs.Walk.{walk_each, follow_form, walk_within}
use Rattle.of_types.specs.OfTypes.{int_log_size, log_size, kind_rows}
use Rattle.of_structs.specs.OfStructs.{fields_rows}
use Rattle.every_call.specs.NonZero.{non_zero_of}
use Rattle.twelve.specs.Cases.{replies, leaves, calls, given, AllHold, twelve_cases, nested, fields_x, trap_cases}

pub twelve : AllHold twelve_cases
unfolding replies leaves calls given call ask filled_output well_formed ok_entries ok_rows ok_entry all_zero heads_at nowhere also most_of every names_in types_in all deepest float_ok zero_filled values_ok fills eqs rows entries size_of words_after fresh_words fresh_call make find_in first_of is_at types_rows struct_rows part_rows of_bytes packed name_entry field_words meet_within follow rule_for pair_rule walk_within follow_form walk_each form_for walk_fields finals_of remake fields_with float_rule is_single of_bits of_fields odd fits is_nan count_trailing_zeros agreed bytes_where offsets_from offsets int_log_size log_size kind_rows fields_rows non_zero_of
twelve = (refl, (refl, (refl, (refl, (refl, (refl, (refl, (refl, (refl, (refl, ((refl, refl), (refl, tt))))))))))))

pub traps : AllHold trap_cases
unfolding replies leaves calls given call ask filled_output well_formed ok_entries ok_rows ok_entry all_zero heads_at nowhere also most_of every names_in types_in all deepest float_ok zero_filled values_ok fills eqs rows entries size_of words_after fresh_words fresh_call make find_in first_of is_at types_rows fref_rows struct_rows part_rows of_bytes packed name_entry field_words meet_within follow follow_struct meet_struct rule_for pair_rule named_rule struct_rule same_words float_rule is_single of_bits of_fields odd fits is_nan count_trailing_zeros bytes_where offsets_from offsets int_log_size log_size kind_rows fields_rows tuple_rows nested fields_x
traps = (refl, (refl, (refl, (refl, (refl, (refl, (refl, (refl, (refl, ((refl, refl), tt))))))))))
