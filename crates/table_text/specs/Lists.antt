-- A table's two lists, and what stands in them, by where they stand. The text's value may have 32 lists and objects one
-- in the other: it, its lists, and their objects leave 29.
use Rattle.std.specs.Prelude.{ℕ, ◌+◌, Bool, ◌&&◌, List, [], Option, Some, None, option_and_then, unwrap_or, is_some, ◌==◌, if◌then◌else◌}
use Rattle.std.specs.List.{list_all}
use Rattle.json_tokens.specs.Text.{byte_at, blanks, ◌>>=◌}
use Rattle.json_walks.specs.Walks.{items_in}
use Rattle.rules.specs.declared.Segment.{Segment}
use Rattle.rules.specs.Records.{no_segment}
use Rattle.table_fields.specs.declared.sources.Original.{Original}
use Rattle.table_fields.specs.declared.top.Top.{Top}
use Rattle.table_fields.specs.Typed.{no_clock}
use Rattle.table_fields.specs.Found.{segment_at, original_at, top_at}
use Rattle.json_strings.specs.Texts.{string_bytes}
use Rattle.table_text.specs.declared.lists.Lists.{Lists}

-- in a member of the table, in an item of its lists, and in a member of one
abbrev pub in_table : ℕ
in_table = 31

abbrev pub in_list : ℕ
in_list = 30

abbrev pub in_record : ℕ
in_record = 29

-- where the table stands
abbrev pub root : List ℕ → ℕ
root text = blanks text 0

-- where the [ of a list ends
unfoldable pub opened : List ℕ → ℕ → Option ℕ
opened text at = if byte_at text at == 0x5b then Some (at + 1) else None

abbrev pub list_by : List ℕ → Option ℕ → Option ℕ
list_by text place = option_and_then (opened text) place

-- the items of a list
abbrev pub places : List ℕ → ℕ → List ℕ
places text list = items_in in_list text list

-- each of them is a source; each is a segment
abbrev pub are_sources : List ℕ → List ℕ → Bool
are_sources text items = list_all (λ i. is_some (original_at in_record text i)) items

abbrev pub are_segments : List ℕ → List ℕ → Bool
are_segments text items = list_all (λ i. is_some (segment_at in_record text i)) items

-- the two lists of a table, and whether it names a log
unfoldable pub lists_of : Option ℕ → Option ℕ → Option Bool → Option Lists
lists_of sources segments log = do
  s ← sources
  e ← segments
  l ← log
  Some (record { sources = s; segments = e; log = l })

abbrev pub lists_by : List ℕ → Top → Option Lists
lists_by text top = lists_of (list_by text top.sources) (list_by text top.segments) top.log

abbrev pub lists_at : List ℕ → ℕ → Option Lists
lists_at text at = lists_by text (top_at in_table text at)

-- the same, where all that stands in them is of its type
abbrev pub are_whole : List ℕ → Lists → Bool
are_whole text lists = are_sources text (places text lists.sources) && are_segments text (places text lists.segments)

-- the source and the segment at an offset, and what stands for one where there is none
unfoldable pub no_original : Original
no_original = record {
  name = 0;
  file_size = 0;
  rates = record { frames = 0; numerator = 0; denominator = 0 };
  created = None;
  clock = no_clock;
  imu_origin = None;
}

abbrev pub original_in : List ℕ → ℕ → Original
original_in text at = unwrap_or (original_at in_record text at) no_original

abbrev pub segment_in : List ℕ → ℕ → Segment
segment_in text at = unwrap_or (segment_at in_record text at) no_segment

-- the bytes of a creation time
unfoldable pub created_bytes : List ℕ → Option ℕ → List ℕ
created_bytes text None = []
created_bytes text (Some at) = string_bytes text at

abbrev pub date_in : List ℕ → ℕ → List ℕ
date_in text at = created_bytes text (original_in text at).created
