use Rattle.std.specs.Prelude.{refl, ℕ, List, length, ◌≡◌}
use Rattle.std.specs.Char.{encode_utf8}
use Rattle.conditions.specs.Conditions.{past as past_end}
use Rattle.refusal.specs.declared.Reason.TheVariants as reason
use Rattle.refusal.specs.Refusals.{refused, first_refused}
use Rattle.utc.specs.Utc.{utc_second}
use Rattle.rules.specs.Records.{no_source, no_segment, frame_total}
use Rattle.rules.specs.Rules.{bad_source, bad_segment, malformed, source_refusal, stamp_times, judged, segment_refusal, start, ends_of, ends}
use Rattle.rules.specs.Rules.{segments_from, front_refusal, refusal, check_of}
use Rattle.json_strings.specs.Texts.{utf8_of}
use Rattle.table_fields.specs.Typed.{three, words_by, stamps_by, segment_of, told_by, clock_of, rates_by, is_small, is_there, log_of}
use Rattle.table_text.specs.Tables.{known_of, all_sources, all_words, all_stamps}
use Rattle.json_tokens.specs.Text.{lead, past, end_of, and_then}
use Rattle.json_tokens.specs.Chars.{hex_of, unit_of, escape_of, pair_of, unit_by, escape_by, two_of, three_by, three_of, four_by, four_of, many_by, char_by}
use Rattle.json_tokens.specs.Strings.{cons, char_then, chars_from, chars_at, string_at}
use Rattle.json_tokens.specs.Numbers.{some, int_end, frac_end, signed, exp_end, decimal, number_at}
use Rattle.json_values.specs.Grammar.{values_of, members_of, opened_at, after_at, turned, items_from, rank, items, true_at, null_at, false_at}
use Rattle.json_values.specs.Grammar.{plain_by, colon_at, named_at, member_at, item_at, value_at, whole_of}
use Rattle.json_fields.specs.Whole.{fitting, whole_of as whole, u64_of, i64_of}
use Rattle.json_documents.specs.Names.{has, repeats}
use Rattle.table_text.specs.Read.{work_needed, is_one}
use Rattle.table_meaning.specs.Tree.{first_named, member_of, first_place, place_in, to_list, as_list, as_u64, as_i64, as_text, is_null, is_object}
use Rattle.table_meaning.specs.Tree.{two_numbers, passes}
use Rattle.table_meaning.specs.Parsed.{as_shift, as_modulus, as_clock, as_created, as_origin, as_log, each_as, parsed_of, limited, valued, parsing}
use Rattle.table_meaning.specs.Answer.{source_with, source_dated, sources_from, dates_of, written_by, checked}
use Rattle.table_text.specs.Tables.{span_of}
use Rattle.table_meaning.specs.Names.{name_words, roomy, names_left}
use Rattle.table_meaning.specs.Examples.{of}
use Rattle.table_meaning.proofs.worked_examples_hold.Goals as goal

pub returns-clause-worked : goal.returns-clause-worked
unfolding lead past end_of and_then hex_of unit_of escape_of pair_of unit_by escape_by two_of three_by three_of four_by four_of many_by char_by cons
    char_then chars_from chars_at string_at some int_end frac_end signed exp_end decimal number_at values_of members_of opened_at after_at turned
    items_from rank items true_at null_at false_at plain_by colon_at named_at member_at item_at value_at whole_of fitting whole u64_of i64_of has
    repeats work_needed is_one first_named member_of first_place place_in to_list as_list as_u64 as_i64 as_text is_null is_object two_numbers passes
    as_shift as_modulus as_clock as_created as_origin as_log each_as parsed_of limited valued parsing known_of source_with source_dated
    sources_from dates_of written_by checked past_end first_refused utc_second no_source no_segment frame_total bad_source bad_segment malformed
    source_refusal stamp_times judged segment_refusal start ends_of ends segments_from front_refusal refusal check_of utf8_of encode_utf8 three
    words_by stamps_by segment_of told_by clock_of rates_by is_small is_there log_of all_sources all_words all_stamps span_of name_words roomy names_left
returns-clause-worked c = (refl, refl)

too_long : (text : List ℕ) → length text ≡ 1048577 → of text ≡ refused reason.TextTooLong 0
unfolding parsing written_by
too_long text h = rw h refl

pub returns-clause-too_long : goal.returns-clause-too_long
returns-clause-too_long c = too_long
