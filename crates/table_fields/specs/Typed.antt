-- What a table's members are read as, by what its objects' members are read as: `u`, `i`, `is_text` and the like are
-- asked by a member's name. None: a member that is missing, or of another type.
use Rattle.std.specs.Prelude.{ℕ, Bool, true, false, ◌&&◌, List, ℤ, pos, codes, Option, Some, None, nat_le, if◌then◌else◌}
use Rattle.json_tokens.specs.Text.{◌>>=◌}
use Rattle.rules.specs.declared.Words.{Words}
use Rattle.rules.specs.declared.Stamps.{Stamps}
use Rattle.rules.specs.declared.Segment.{Segment}
use Rattle.table_fields.specs.declared.segments.Shift.{Shift}
use Rattle.table_fields.specs.declared.sources.Modulus.{Modulus}
use Rattle.table_fields.specs.declared.sources.Clock.{Clock}
use Rattle.table_fields.specs.declared.sources.Rates.{Rates}

-- a segment's unsigned words, of which its shift gives the flag
unfoldable pub words_by : (source first count out : Option ℕ) → ℕ → Option Words
words_by source first count out flag = do
  s ← source
  f ← first
  c ← count
  o ← out
  Some (record { source = s; first = f; count = c; out = o; flag = flag })

abbrev pub words_of : (List ℕ → Option ℕ) → ℕ → Option Words
words_of u flag =
    words_by (u (codes "source")) (u (codes "src_first_frame")) (u (codes "frame_count")) (u (codes "out_first_frame")) flag

-- its signed words
unfoldable pub three : {A : Type 0} → Option A → Option A → Option A → Option (A × A × A)
three a b c = do
  x ← a
  y ← b
  z ← c
  Some (x, y, z)

abbrev pub stamps_from : ℤ × ℤ × ℤ → ℤ × ℤ × ℤ → ℤ → Stamps
stamps_from times captures shift = record {
  source_start = times.0;
  out_start = times.1;
  duration = times.2;
  source_capture_start = captures.0;
  out_capture_start = captures.1;
  capture_duration = captures.2;
  shift = shift;
}

unfoldable pub stamps_by : (times captures : Option (ℤ × ℤ × ℤ)) → ℤ → Option Stamps
stamps_by times captures shift = do
  t ← times
  c ← captures
  Some (stamps_from t c shift)

abbrev pub stamps_of : (List ℕ → Option ℤ) → ℤ → Option Stamps
stamps_of i shift =
    stamps_by
    (three (i (codes "src_start_us")) (i (codes "out_start_us")) (i (codes "duration_us")))
    (three (i (codes "src_capture_start_us")) (i (codes "out_capture_start_us")) (i (codes "capture_duration_us")))
    shift

-- its shift; an absent one is 0
abbrev pub no_shift : Shift
no_shift = record { flag = 0; shift = pos 0 }

-- a segment, by its shift, and by whether the members that say how it came to be are there
unfoldable pub segment_of : (List ℕ → Option ℕ) → (List ℕ → Option ℤ) → Option Shift → Bool → Option Segment
segment_of u i shift told = if told then (do
  s ← shift
  w ← words_of u s.flag
  t ← stamps_of i s.shift
  Some (record { words = w; stamps = t })) else None

-- they are: how the range was asked for, null or an object, and three texts
unfoldable pub told_by : Bool → (List ℕ → Bool) → Bool
told_by requested is_text =
    requested && (is_text (codes "start") && (is_text (codes "entry") && is_text (codes "end")))

-- no modulus
abbrev pub no_modulus : Modulus
no_modulus = record { kind = 1; modulus = 0 }

-- no clock
abbrev pub no_clock : Clock
no_clock = record { kind = 0; ticks = 0; per = 0; modulus = 0 }

-- a clock, by whether it has a name, its rate and its modulus
unfoldable pub clock_of : Bool → Option (ℕ × ℕ) → Option Modulus → Option Clock
clock_of named rate modulus = if named then (do
  r ← rate
  m ← modulus
  Some (record { kind = m.kind; ticks = r.0; per = r.1; modulus = m.modulus })) else None

-- a source's frames and frames a second, by its fps
unfoldable pub rates_by : Option ℕ → Option (ℕ × ℕ) → Option Rates
rates_by frames fps = do
  n ← frames
  f ← fps
  Some (record { frames = n; numerator = f.0; denominator = f.1 })

abbrev pub rates_of : (List ℕ → Option ℕ) → Option (ℕ × ℕ) → Option Rates
rates_of u fps = rates_by (u (codes "frames")) fps

-- what is named as a telemetry log is one: its name, null or a text, its kind, its size, and 32 bits
unfoldable pub is_small : Option ℕ → Bool
is_small None = false
is_small (Some n) = nat_le n 0xffff_ffff

unfoldable pub is_there : {A : Type 0} → Option A → Bool
is_there None = false
is_there (Some a) = true

unfoldable pub log_of : (List ℕ → Option ℕ) → Bool → (List ℕ → Bool) → Bool
log_of u named is_text =
    named && (is_text (codes "kind") && (is_there (u (codes "size")) && is_small (u (codes "crc32"))))
