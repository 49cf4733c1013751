-- The members of a table's objects by where they stand. In the values of an object's members `left` lists and objects
-- may stand one in the other.
use Rattle.std.specs.Prelude.{ℕ, ◌-◌, Bool, true, false, ◌&&◌, ◌||◌, List, ℤ, codes, Option, Some, None, option_and_then, option_map, ◌==◌, if◌then◌else◌}
use Rattle.json_tokens.specs.Text.{byte_at, end_of, ◌>>=◌}
use Rattle.json_tokens.specs.Strings.{string_at}
use Rattle.json_fields.specs.Whole.{u64_at, i64_at}
use Rattle.json_fields.specs.Fields.{member_at, pair_at}
use Rattle.rules.specs.declared.Segment.{Segment}
use Rattle.table_fields.specs.declared.segments.Places.{Places}
use Rattle.table_fields.specs.declared.segments.Shift.{Shift}
use Rattle.table_fields.specs.declared.sources.Modulus.{Modulus}
use Rattle.table_fields.specs.declared.sources.Clock.{Clock}
use Rattle.table_fields.specs.declared.sources.Rates.{Rates}
use Rattle.table_fields.specs.declared.sources.Original.{Original}
use Rattle.table_fields.specs.declared.top.Top.{Top}
use Rattle.table_fields.specs.Typed.{no_shift, segment_of, told_by, no_modulus, no_clock, clock_of, rates_of, log_of}

-- the value at an offset is null, a text, an object, null or an object, null or a text: by its first byte
abbrev pub is_null : List ℕ → ℕ → Bool
is_null text at = byte_at text at == 0x6e

abbrev pub is_text : List ℕ → ℕ → Bool
is_text text at = byte_at text at == 0x22

abbrev pub is_object : List ℕ → ℕ → Bool
is_object text at = byte_at text at == 0x7b

-- a member that is there passes a test
unfoldable pub passes : (ℕ → Bool) → Option ℕ → Bool
passes test None = false
passes test (Some at) = test at

-- of a member, by its place if it is there
abbrev pub u64_by : List ℕ → Option ℕ → Option ℕ
u64_by text place = option_and_then (u64_at text) place

abbrev pub i64_by : List ℕ → Option ℕ → Option ℤ
i64_by text place = option_and_then (i64_at text) place

abbrev pub text_by : List ℕ → Option ℕ → Bool
text_by text place = passes (is_text text) place

abbrev pub object_or_null_by : List ℕ → Option ℕ → Bool
object_or_null_by text place = passes (λ q. is_null text q || is_object text q) place

abbrev pub text_or_null_by : List ℕ → Option ℕ → Bool
text_or_null_by text place = passes (λ q. is_null text q || is_text text q) place

abbrev pub pair_by : ℕ → List ℕ → Option ℕ → Option (ℕ × ℕ)
pair_by left text place = option_and_then (pair_at left text) place

-- of the object at an offset, by its name
abbrev pub u64_in : ℕ → List ℕ → ℕ → List ℕ → Option ℕ
u64_in left text at key = u64_by text (member_at left text at key)

abbrev pub i64_in : ℕ → List ℕ → ℕ → List ℕ → Option ℤ
i64_in left text at key = i64_by text (member_at left text at key)

abbrev pub text_in : ℕ → List ℕ → ℕ → List ℕ → Bool
text_in left text at key = text_by text (member_at left text at key)

abbrev pub object_or_null_in : ℕ → List ℕ → ℕ → List ℕ → Bool
object_or_null_in left text at key = object_or_null_by text (member_at left text at key)

abbrev pub text_or_null_in : ℕ → List ℕ → ℕ → List ℕ → Bool
text_or_null_in left text at key = text_or_null_by text (member_at left text at key)

abbrev pub pair_in : ℕ → List ℕ → ℕ → List ℕ → Option (ℕ × ℕ)
pair_in left text at key = pair_by (left - 1) text (member_at left text at key)

-- where the members of a segment stand
abbrev pub places_at : ℕ → List ℕ → ℕ → Places
places_at left text at = record {
  source = member_at left text at (codes "source");
  first = member_at left text at (codes "src_first_frame");
  count = member_at left text at (codes "frame_count");
  out = member_at left text at (codes "out_first_frame");
  source_start = member_at left text at (codes "src_start_us");
  out_start = member_at left text at (codes "out_start_us");
  duration = member_at left text at (codes "duration_us");
  source_capture_start = member_at left text at (codes "src_capture_start_us");
  out_capture_start = member_at left text at (codes "out_capture_start_us");
  capture_duration = member_at left text at (codes "capture_duration_us");
  requested = member_at left text at (codes "requested");
  start = member_at left text at (codes "start");
  entry = member_at left text at (codes "entry");
  end = member_at left text at (codes "end");
  clock_shift = member_at left text at (codes "clock_shift");
}

-- a shift
unfoldable pub shift_at : List ℕ → ℕ → Option Shift
shift_at text at =
    if is_null text at then Some no_shift
    else option_and_then (λ z. Some (record { flag = 1; shift = z })) (i64_at text at)

abbrev pub shift_by : List ℕ → Option ℕ → Option Shift
shift_by text place = option_and_then (shift_at text) place

abbrev pub shift_in : ℕ → List ℕ → ℕ → Option Shift
shift_in left text at = shift_by text (member_at left text at (codes "clock_shift"))

abbrev pub told_at : ℕ → List ℕ → ℕ → Bool
told_at left text at = told_by (object_or_null_in left text at (codes "requested")) (text_in left text at)

-- the segment at an offset
abbrev pub segment_at : ℕ → List ℕ → ℕ → Option Segment
segment_at left text at =
    segment_of (u64_in left text at) (i64_in left text at) (shift_in left text at) (told_at left text at)

-- a modulus
unfoldable pub modulus_at : List ℕ → ℕ → Option Modulus
modulus_at text at =
    if is_null text at then Some no_modulus
    else option_and_then (λ n. Some (record { kind = 2; modulus = n })) (u64_at text at)

abbrev pub modulus_by : List ℕ → Option ℕ → Option Modulus
modulus_by text place = option_and_then (modulus_at text) place

abbrev pub modulus_in : ℕ → List ℕ → ℕ → Option Modulus
modulus_in left text at = modulus_by text (member_at left text at (codes "modulus"))

-- a clock
unfoldable pub clock_at : ℕ → List ℕ → ℕ → Option Clock
clock_at left text at =
    if is_null text at then Some no_clock
    else clock_of (text_in left text at (codes "name")) (pair_in left text at (codes "rate")) (modulus_in left text at)

abbrev pub clock_by : ℕ → List ℕ → Option ℕ → Option Clock
clock_by left text place = option_and_then (clock_at left text) place

abbrev pub clock_in : ℕ → List ℕ → ℕ → Option Clock
clock_in left text at = clock_by (left - 1) text (member_at left text at (codes "clock"))

-- a creation time: where it stands
unfoldable pub created_at : List ℕ → ℕ → Option (Option ℕ)
created_at text at = if is_null text at then Some None else option_map (λ e. Some at) (end_of (string_at text at))

abbrev pub created_by : List ℕ → Option ℕ → Option (Option ℕ)
created_by text place = option_and_then (created_at text) place

abbrev pub created_in : ℕ → List ℕ → ℕ → Option (Option ℕ)
created_in left text at = created_by text (member_at left text at (codes "creation_time"))

abbrev pub rates_at : ℕ → List ℕ → ℕ → Option Rates
rates_at left text at = rates_of (u64_in left text at) (pair_in left text at (codes "fps"))

-- a source's name: where its text stands
unfoldable pub name_at : List ℕ → ℕ → Option ℕ
name_at text at = if is_text text at then Some at else None

abbrev pub name_by : List ℕ → Option ℕ → Option ℕ
name_by text place = option_and_then (name_at text) place

abbrev pub name_in : ℕ → List ℕ → ℕ → Option ℕ
name_in left text at = name_by text (member_at left text at (codes "name"))

-- the source at an offset; an IMU's origin that isn't there, or no whole number, is none
unfoldable pub original_at : ℕ → List ℕ → ℕ → Option Original
original_at left text at = do
  name ← name_in left text at
  file_size ← u64_in left text at (codes "size")
  rates ← rates_at left text at
  created ← created_in left text at
  clock ← clock_in left text at
  Some (record {
    name = name;
    file_size = file_size;
    rates = rates;
    created = created;
    clock = clock;
    imu_origin = u64_in left text at (codes "zcam_imu_origin_us");
  })

-- the table names a telemetry log
abbrev pub log_at : ℕ → List ℕ → ℕ → Bool
log_at left text at =
    is_object text at && log_of (u64_in left text at) (text_or_null_in left text at (codes "name")) (text_in left text at)

unfoldable pub logged_by : (ℕ → Bool) → Option ℕ → Option Bool
logged_by is_log None = Some false
logged_by is_log (Some at) = if is_log at then Some true else None

abbrev pub log_in : ℕ → List ℕ → ℕ → Option Bool
log_in left text at = logged_by (log_at (left - 1) text) (member_at left text at (codes "telemetry_log"))

-- the table at an offset
abbrev pub top_at : ℕ → List ℕ → ℕ → Top
top_at left text at = record {
  version = u64_in left text at (codes "version");
  sources = member_at left text at (codes "sources");
  segments = member_at left text at (codes "segments");
  log = log_in left text at;
}
