-- What a C caller is told of a table's text, and what lent slices hold afterwards.
use Rattle.std.specs.Prelude.{ℕ, List, ◌≡◌, ℤ, length, replicate}
use Rattle.table_meaning.specs.Answer.{reading, room_of, answer_of, left_of}
use Rattle.table_meaning.specs.Names.{naming, named_sources, names_left}
use Rattle.json_strings.specs.Reading.{string_within, length_of, bytes_left}
use Rattle.told.specs.declared.texts.TableRead.{TableRead}
use Rattle.told.specs.Told.{told, itself, read_words}

-- a table's text was read: number, sources, segments, stamps, creation times, working slice, what was read, index
pub record ReadTold (text sources words : List ℕ) (stamps : List ℤ) (dates work : List ℕ) (read : TableRead) (number : ℕ)
    (sources' words' : List ℕ) (stamps' : List ℤ) (dates' work' : List ℕ) (read' : TableRead) (index' : ℕ) : Type 0 where
  pub told : (number, read', index')
      ≡ told read_words (answer_of (reading text (room_of sources words stamps dates work))) read
  pub sources_left : sources' ≡ left_of (λ w. w.sources) (reading text (room_of sources words stamps dates work)) sources
  pub words_left : words' ≡ left_of (λ w. w.words) (reading text (room_of sources words stamps dates work)) words
  pub stamps_left : stamps' ≡ left_of (λ w. w.stamps) (reading text (room_of sources words stamps dates work)) stamps
  pub dates_left : dates' ≡ left_of (λ w. w.dates) (reading text (room_of sources words stamps dates work)) dates
  pub cleared : work' ≡ replicate (length work) 0

-- the places of its sources' names were asked for: number, places, working slice, how many, index
pub record NamesTold (text names work : List ℕ) (count number : ℕ) (names' work' : List ℕ) (count' index' : ℕ) : Type 0 where
  pub told : (number, count', index') ≡ told itself (named_sources (naming text (length names) (length work))) count
  pub laid_out : names' ≡ names_left text (naming text (length names) (length work)) names
  pub cleared : work' ≡ replicate (length work) 0

-- a string of a text was read: number, bytes, how many, index
pub record StringTold (text : List ℕ) (at : ℕ) (out : List ℕ) (bytes number : ℕ) (out' : List ℕ) (bytes' index' : ℕ)
    : Type 0 where
  pub told : (number, bytes', index') ≡ told itself (length_of (string_within text at (length out))) bytes
  pub laid_out : out' ≡ bytes_left (string_within text at (length out)) out
