-- A table's text as the Rust's parse makes a table of it, up to the check. None: a member that is missing, or of another
-- type. Members that aren't named here are ignored, whatever they hold.
use Rattle.std.specs.Prelude.{ℕ, Bool, true, false, ◌&&◌, List, [], ◌∷◌, length, codes, Option, Some, None, option_and_then, option_map, not, nat_lt}
use Rattle.std.specs.Prelude.{Result, Ok, if◌then◌else◌}
use Rattle.refusal.specs.declared.Reason.TheVariants as reason
use Rattle.refusal.specs.declared.Refusal.{Refusal}
use Rattle.refusal.specs.Refusals.{refused}
use Rattle.json_tokens.specs.Text.{◌>>=◌, most_text, Got}
use Rattle.json_values.specs.Grammar.{Json, document_of}
use Rattle.json_documents.specs.Names.{repeats}
use Rattle.json_strings.specs.Texts.{utf8_of}
use Rattle.rules.specs.declared.Segment.{Segment}
use Rattle.rules.specs.Rules.{over_limit}
use Rattle.table_fields.specs.declared.segments.Shift.{Shift}
use Rattle.table_fields.specs.declared.sources.Modulus.{Modulus}
use Rattle.table_fields.specs.declared.sources.Clock.{Clock}
use Rattle.table_fields.specs.declared.sources.Rates.{Rates}
use Rattle.table_fields.specs.Typed.{no_shift, segment_of, told_by, no_modulus, no_clock, clock_of, rates_of, log_of}
use Rattle.table_text.specs.Read.{work_needed, is_one}
use Rattle.table_meaning.specs.Tree.{member_of, place_in, as_u64, as_i64, as_text, is_null, is_object, u64_in, i64_in, characters_in, list_in, pair_in}
use Rattle.table_meaning.specs.Tree.{text_in, object_or_null_in, text_or_null_in}

-- a segment: its numbers, its shift, null or a number, and what says how it came to be, `requested`, `start`, `entry`
-- and `end`, of which only the types are looked at
unfoldable pub as_shift : Json → Option Shift
as_shift j = if is_null j then Some no_shift else option_and_then (λ z. Some (record { flag = 1; shift = z })) (as_i64 j)

abbrev pub as_segment : Json → Option Segment
as_segment j =
    segment_of (u64_in j) (i64_in j) (option_and_then as_shift (member_of j (codes "clock_shift")))
    (told_by (object_or_null_in j (codes "requested")) (text_in j))

-- a clock, null or an object: `name`, `rate` and `modulus`, null or a number
unfoldable pub as_modulus : Json → Option Modulus
as_modulus j =
    if is_null j then Some no_modulus else option_and_then (λ n. Some (record { kind = 2; modulus = n })) (as_u64 j)

unfoldable pub as_clock : Json → Option Clock
as_clock j =
    if is_null j then Some no_clock
    else clock_of (text_in j (codes "name")) (pair_in j (codes "rate"))
    (option_and_then as_modulus (member_of j (codes "modulus")))

-- a creation time, null or a string: its bytes
unfoldable pub as_created : Json → Option (Option (List ℕ))
as_created j = if is_null j then Some None else option_map (λ characters. Some (utf8_of characters)) (as_text j)

-- a source: where its name stands and the name's characters, the bytes of its file, its frames and frames a second, its
-- creation time, its clock, and its IMU's origin, which is absent where `zcam_imu_origin_us` is no whole number
pub record ParsedSource : Type 0 where
  pub name_at : ℕ
  pub name : List ℕ
  pub file_size : ℕ
  pub rates : Rates
  pub created : Option (List ℕ)
  pub clock : Clock
  pub imu_origin : Option ℕ

unfoldable pub as_origin : Json → Option ParsedSource
as_origin j = do
  name_at ← place_in j (codes "name")
  name ← characters_in j (codes "name")
  file_size ← u64_in j (codes "size")
  rates ← rates_of (u64_in j) (pair_in j (codes "fps"))
  created ← option_and_then as_created (member_of j (codes "creation_time"))
  clock ← option_and_then as_clock (member_of j (codes "clock"))
  Some (record {
    name_at = name_at;
    name = name;
    file_size = file_size;
    rates = rates;
    created = created;
    clock = clock;
    imu_origin = u64_in j (codes "zcam_imu_origin_us");
  })

-- whether the table names a telemetry log, the one member that may be missing; None where what it names is none
unfoldable pub as_log : Option Json → Option Bool
as_log None = Some false
as_log (Some j) =
    if is_object j && log_of (u64_in j) (text_or_null_in j (codes "name")) (text_in j) then Some true else None

-- what each value of a list is read as
unfoldable pub each_as : {A : Type 0} → (Json → Option A) → List Json → Option (List A)
each_as read [] = Some []
each_as read (j ∷ rest) = do
  first ← read j
  others ← each_as read rest
  Some (first ∷ others)

-- a table: its sources, its segments, and whether it names a log
pub record Parsed : Type 0 where
  pub sources : List ParsedSource
  pub segments : List Segment
  pub log : Bool

unfoldable pub parsed_of : Option (List ParsedSource) → Option (List Segment) → Option Bool → Option Parsed
parsed_of sources segments log = do
  s ← sources
  e ← segments
  l ← log
  Some (record { sources = s; segments = e; log = l })

abbrev pub as_table : Json → Option Parsed
as_table j =
    parsed_of (option_and_then (each_as as_origin) (list_in j (codes "sources")))
    (option_and_then (each_as as_segment) (list_in j (codes "segments"))) (as_log (member_of j (codes "telemetry_log")))

-- 64: it is no table; 2: one of too many sources or segments
unfoldable pub limited : Option Parsed → Result Parsed Refusal
limited None = refused reason.BadMember 0
limited (Some t) = if over_limit (length t.sources) (length t.segments) then refused reason.OverLimit 0 else Ok t

-- 61: it is no document; 62: an object of it repeats a name; 63: its version isn't 1
unfoldable pub valued : Got Json → Result Parsed Refusal
valued None = refused reason.NotJson 0
valued (Some (j, end)) =
    if repeats j then refused reason.RepeatedName 0
    else if not (is_one (u64_in j (codes "version"))) then refused reason.OtherVersion 0
    else limited (as_table j)

-- THE TABLE IN A TEXT. 60: the text is too long; 32, index 1: too little working room for so long a text
unfoldable pub parsing : List ℕ → ℕ → Result Parsed Refusal
parsing text work =
    if nat_lt most_text (length text) then refused reason.TextTooLong 0
    else if nat_lt work (work_needed (length text)) then refused reason.NoRoom 1
    else valued (document_of text)
