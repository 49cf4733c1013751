-- What reading a table's text answers, and what it leaves in lent slices.
use Rattle.std.specs.Prelude.{ℕ, ◌+◌, ◌*◌, ◌/◌, Bool, false, not, ◌||◌, List, map, length, Option, Some, None, codes, Result, Ok, Err, ◌==◌, nat_lt, if◌then◌else◌, ℤ}
use Rattle.refusal.specs.declared.Reason.TheVariants as reason
use Rattle.refusal.specs.declared.Refusal.{Refusal}
use Rattle.refusal.specs.Refusals.{refused}
use Rattle.slices.specs.Slices.{laid}
use Rattle.rules.specs.Rules.{over_limit, check_of}
use Rattle.json_tokens.specs.Text.{most_text}
use Rattle.json_values.specs.Grammar.{document_of}
use Rattle.json_documents.specs.declared.seen.Document.{Document}
use Rattle.json_documents.specs.Seen.{seen_of}
use Rattle.table_fields.specs.Found.{u64_in}
use Rattle.table_text.specs.declared.lists.Lists.{Lists}
use Rattle.table_text.specs.declared.staging.Staged.{Staged}
use Rattle.table_text.specs.declared.reader.Read.{Read}
use Rattle.table_text.specs.declared.reader.Room.{Room}
use Rattle.table_text.specs.Lists.{root, in_table, places, lists_at, are_whole, segment_in}
use Rattle.table_text.specs.Tables.{dates_in, names_in, sources_in, table_in, all_sources, all_words, all_stamps}
use Rattle.table_text.specs.Layout.{least_work}

-- how many words of working room a text of so many bytes needs: one for four bytes
abbrev pub work_for : ℕ → ℕ
work_for bytes = (bytes + 3) / 4

unfoldable pub work_needed : ℕ → ℕ
work_needed bytes = if nat_lt (work_for bytes) least_work then least_work else work_for bytes

-- what is counted of a list, where each of its items is what it should be
abbrev pub counted_of : {A : Type 0} → Bool → A → Option A
counted_of good counted = if good then Some counted else None

-- 64 of what stands in the lists, and 2
unfoldable pub stage_lists : List ℕ → Lists → Result Staged Refusal
stage_lists text lists =
    if not (are_whole text lists) then refused reason.BadMember 0
    else if over_limit (length (places text lists.sources)) (length (places text lists.segments))
    then refused reason.OverLimit 0
    else Ok (record {
      lists = lists;
      sources = length (places text lists.sources);
      segments = length (places text lists.segments);
      dates = length (dates_in text (places text lists.sources));
    })

-- 64 of the members that hold the lists
unfoldable pub stage_by : List ℕ → Option Lists → Result Staged Refusal
stage_by text None = refused reason.BadMember 0
stage_by text (Some lists) = stage_lists text lists

-- the version is 1
unfoldable pub is_one : Option ℕ → Bool
is_one None = false
is_one (Some n) = n == 1

-- 61, 62, 63, and the rest
unfoldable pub stage_seen : List ℕ → Option Document → Result Staged Refusal
stage_seen text None = refused reason.NotJson 0
stage_seen text (Some document) =
    if document.repeats then refused reason.RepeatedName 0
    else if not (is_one (u64_in in_table text (root text) (codes "version"))) then refused reason.OtherVersion 0
    else stage_by text (lists_at text (root text))

-- 60, 32 of the working room, which has so many words, and the rest
unfoldable pub stage_of : List ℕ → ℕ → Result Staged Refusal
stage_of text work =
    if nat_lt most_text (length text) then refused reason.TextTooLong 0
    else if nat_lt work (work_needed (length text)) then refused reason.NoRoom 1
    else stage_seen text (seen_of (document_of text))

-- 32: too little room for the records, or for the creation times
abbrev pub short : Staged → Room → Bool
short staged room =
    (nat_lt room.sources (13 * staged.sources) || nat_lt room.words (5 * staged.segments))
    || (nat_lt room.stamps (7 * staged.segments) || nat_lt room.dates staged.dates)

-- 32, and then 3 to 17
unfoldable pub judged_of : List ℕ → Room → Staged → Result ℕ Refusal
judged_of text room staged = if short staged room then refused reason.NoRoom 0 else check_of (table_in text staged.lists)

-- what is to be read
pub record Planned : Type 0 where
  pub lists : Lists
  pub read : Read

unfoldable pub planned_by : Staged → Result ℕ Refusal → Result Planned Refusal
planned_by staged (Ok frames) = Ok (record {
  lists = staged.lists;
  read = record {
    frames = frames;
    sources = staged.sources;
    segments = staged.segments;
    dates = staged.dates;
    log = staged.lists.log;
  };
})
planned_by staged (Err refusal) = Err refusal

unfoldable pub plan_by : List ℕ → Room → Result Staged Refusal → Result Planned Refusal
plan_by text room (Ok staged) = planned_by staged (judged_of text room staged)
plan_by text room (Err refusal) = Err refusal

-- 60 to 64, 2, 32, 3 to 17
abbrev pub plan_of : List ℕ → Room → Result Planned Refusal
plan_of text room = plan_by text room (stage_of text room.work)

-- the answer
unfoldable pub read_of : Result Planned Refusal → Result Read Refusal
read_of (Ok plan) = Ok plan.read
read_of (Err refusal) = Err refusal

-- a lent slice after it: with what its lists give, or as it was
unfoldable pub left_by : {A : Type 0} → Result Planned Refusal → (Lists → List A) → List A → List A
left_by (Ok plan) written lent = laid (written plan.lists) lent
left_by (Err refusal) written lent = lent

abbrev pub source_words : List ℕ → Lists → List ℕ
source_words text lists = all_sources (sources_in text 0 (places text lists.sources))

abbrev pub segment_words : List ℕ → Lists → List ℕ
segment_words text lists = all_words (map (segment_in text) (places text lists.segments))

abbrev pub segment_stamps : List ℕ → Lists → List ℤ
segment_stamps text lists = all_stamps (map (segment_in text) (places text lists.segments))

abbrev pub date_bytes : List ℕ → Lists → List ℕ
date_bytes text lists = dates_in text (places text lists.sources)

-- of the sources' names, two words each: 32 after the others
unfoldable pub named_by : ℕ → Result Staged Refusal → Result Staged Refusal
named_by room (Ok staged) = if nat_lt room (2 * staged.sources) then refused reason.NoRoom 0 else Ok staged
named_by room (Err refusal) = Err refusal

abbrev pub names_of : List ℕ → ℕ → ℕ → Result Staged Refusal
names_of text room work = named_by room (stage_of text work)

-- the answer, and the lent slice after it
unfoldable pub names_read : Result Staged Refusal → Result ℕ Refusal
names_read (Ok staged) = Ok staged.sources
names_read (Err refusal) = Err refusal

unfoldable pub names_left : List ℕ → Result Staged Refusal → List ℕ → List ℕ
names_left text (Ok staged) lent = laid (names_in text (places text staged.lists.sources)) lent
names_left text (Err refusal) lent = lent
