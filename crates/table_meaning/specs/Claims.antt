-- What is claimed of a reading beside its definition.
use Rattle.std.specs.Prelude.{ℕ, ◌+◌, ◌*◌, List, [], ◌∷◌, length, Some, Ok, ◌≡◌}
use Rattle.std.specs.List.{AllByRecursion}
use Rattle.rules.specs.Records.{Table}
use Rattle.rules.specs.Rules.{check_of}
use Rattle.table.specs.Layout as words
use Rattle.table.specs.Layout.{source_words, segment_words, segment_stamps}
use Rattle.json_tokens.specs.Strings.{chars_at}
use Rattle.table_text.specs.declared.reader.Room.{Room}
use Rattle.table_text.specs.Tables.{span_at}
use Rattle.table_meaning.specs.Parsed.{ParsedSource, Parsed, parsing}
use Rattle.table_meaning.specs.Answer.{Written, table_from, reading}

-- what is written, lent as a table
abbrev pub lent_table : Written → Table
lent_table w = words.table_of w.sources w.words w.stamps w.read.log w.dates

-- it is the table that was judged, and a check of it accepts it with the frames that were answered
pub record Accepted (text : List ℕ) (room : Room) (w : Written) : Type 0 where
  pub table : Parsed
  pub parsed : parsing text room.work ≡ Ok table
  pub lent : lent_table w ≡ table_from table
  pub check : check_of (lent_table w) ≡ Ok w.read.frames
  -- so many words, stamps and bytes are written as the answer's numbers of sources, segments and bytes say
  pub sources : length w.sources ≡ source_words * w.read.sources
  pub words : length w.words ≡ segment_words * w.read.segments
  pub stamps : length w.stamps ≡ segment_stamps * w.read.segments
  pub dates : length w.dates ≡ w.read.dates

abbrev pub WrittenTablesAreAccepted : Type 0
WrittenTablesAreAccepted = (text : List ℕ) (room : Room) (w : Written) → reading text room ≡ Ok w → Accepted text room w

-- the two words of a source's name are where its characters stand: they are read from the first on, and a quotation mark
-- ends them after as many bytes as the second says
pub record NameStands (text : List ℕ) (o : ParsedSource) : Type 0 where
  pub from : ℕ
  pub size : ℕ
  pub words : span_at text o.name_at ≡ from ∷ size ∷ []
  pub characters : chars_at text from ≡ Some (o.name, from + size + 1)

abbrev pub NamesStandInTheirText : Type 0
NamesStandInTheirText = (text : List ℕ) (work : ℕ) (t : Parsed) → parsing text work ≡ Ok t → AllByRecursion (NameStands text) t.sources
