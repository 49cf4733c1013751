-- RULES 15.6 AS CONDITIONS: the refusals of a table's text, 60 to 64, 2 and 32, in testing order, before those of
-- rules/specs/Grounds.antt. What `read_table` answers is proved right by them: the contract of
-- `refusals_of_texts_are_right`.
use Rattle.std.specs.Prelude.{ℕ, ◌*◌, ◌<◌, ◌≡◌, true, List, [], ◌∷◌, ◌⊎◌, length, codes, Option, Some, None, Result, Ok, Err}
use Rattle.refusal.specs.declared.Reason.TheVariants as reason
use Rattle.json_tokens.specs.Text.{most_text, Got}
use Rattle.json_values.specs.Grammar.{Json, document_of}
use Rattle.json_documents.specs.Names.{repeats}
use Rattle.rules.specs.Limits.{max_sources, max_segments}
use Rattle.rules.specs.Records.{frame_total}
use Rattle.rules.specs.Grounds.{Test, given, tests}
use Rattle.table.specs.Layout.{source_words, segment_words, segment_stamps}
use Rattle.refusal.specs.declared.Refusal.{Refusal}
use Rattle.table_text.specs.declared.reader.Read.{Read}
use Rattle.table_text.specs.declared.reader.Room.{Room}
use Rattle.table_text.specs.Read.{work_needed}
use Rattle.table_meaning.specs.Tree.{u64_in}
use Rattle.table_meaning.specs.Parsed.{Parsed, as_table}
use Rattle.table_meaning.specs.Answer.{table_from, dates_of}

-- 32, index 0: too little room for the sources, the segments' words, their stamps, or the creation times
abbrev pub Short : Parsed → Room → Type 0
Short parsed room =
    ((room.sources < source_words * length parsed.sources) ⊎ (room.words < segment_words * length parsed.segments))
    ⊎ ((room.stamps < segment_stamps * length parsed.segments) ⊎ (room.dates < length (dates_of parsed.sources)))

-- 2: over 256 sources or 512 segments
abbrev pub OverLimit : Parsed → Type 0
OverLimit parsed = (max_sources < length parsed.sources) ⊎ (max_segments < length parsed.segments)

-- 2; 32, index 0; and 1 to 17 of the table, of which 1 and 2 can't hold here
abbrev pub of_table : Room → Option Parsed → List Test
of_table room None = []
of_table room (Some parsed) =
    given (OverLimit parsed) reason.OverLimit 0
    ∷ given (Short parsed room) reason.NoRoom 0
    ∷ tests (table_from parsed)

-- 62: some object has a name twice; 63: `version` isn't the whole number 1; 64: a member is missing or has another type
abbrev pub of_value : Room → Got Json → List Test
of_value room None = []
of_value room (Some (value, end)) =
    given (repeats value ≡ true) reason.RepeatedName 0
    ∷ given (u64_in value (codes "version") ≡ Some 1 → ⊥) reason.OtherVersion 0
    ∷ given (as_table value ≡ None) reason.BadMember 0
    ∷ of_table room (as_table value)

-- all tests, in testing order; 60: the text is too long; 32, index 1: the working room is too short; 61: the text is no
-- document of RFC 8259
abbrev pub text_tests : List ℕ → Room → List Test
text_tests text room =
    given (most_text < length text) reason.TextTooLong 0
    ∷ given (room.work < work_needed (length text)) reason.NoRoom 1
    ∷ given (document_of text ≡ None) reason.NotJson 0
    ∷ of_value room (document_of text)

-- the frame total of the table that a text holds
abbrev pub parsed_total : Option Parsed → ℕ
parsed_total None = 0
parsed_total (Some parsed) = frame_total parsed.segments

abbrev pub value_total : Got Json → ℕ
value_total None = 0
value_total (Some (value, end)) = parsed_total (as_table value)

abbrev pub text_total : List ℕ → ℕ
text_total text = value_total (document_of text)

-- what is answered, as a check of the table would be
abbrev pub frames_read : Result Read Refusal → Result ℕ Refusal
frames_read (Ok read) = Ok read.frames
frames_read (Err refusal) = Err refusal
