-- WHAT A C CALLER IS TOLD OF ANY ANSWER (RULES 2.6): the number (a refusal's, or 0), what the words that are lent for
-- its value hold afterwards, and the refusal's index, or 0.
use Rattle.std.specs.Prelude.{ℕ, Bool, if◌then◌else◌, ℤ, Result, Ok, Err}
use Rattle.refusal.specs.declared.Refusal.{Refusal}
use Rattle.refusal.specs.Reasons.{number}
use Rattle.ticks.specs.declared.FrameTimes.{FrameTimes}
use Rattle.boxes.specs.declared.BoxSize.{BoxSize}
use Rattle.boxes.specs.declared.BoxAt.{BoxAt}
use Rattle.boxes.specs.declared.Place.{Place}
use Rattle.rows.specs.declared.Origin.{Origin}
use Rattle.table_text.specs.declared.reader.Read.{Read}
use Rattle.told.specs.declared.texts.TableRead.{TableRead}

-- of a value of any type, told as words of any type; on a refusal these hold what they held
abbrev pub told : {T W : Type 0} → (T → W) → Result T Refusal → W → ℕ × W × ℕ
told words (Ok value) old = (0, words value, 0)
told words (Err refusal) old = (number refusal.reason, old, refusal.index)

-- ---- the words of each value
-- a number is itself: a frame total, a segment, how many rows or indices, a time
abbrev pub itself : {A : Type 0} → A → A
itself value = value

-- 1 for yes, 0 for no
abbrev pub yes_or_no : Bool → ℕ
yes_or_no answer = if answer then 1 else 0

-- nothing of it is told
abbrev pub unsaid : {A : Type 0} → A → Unit {0}
unsaid value = tt

-- a box's size, its header's
abbrev pub size_words : BoxSize → ℕ × ℕ
size_words box = (box.size, box.header)

-- a box's type, its payload's start and length, the next box
abbrev pub box_words : BoxAt → ℕ × ℕ × ℕ × ℕ
box_words box = (box.kind, box.start, box.len, box.next)

-- start and length of a part of the caller's bytes
abbrev pub place_words : Place → ℕ × ℕ
place_words part = (part.start, part.len)

-- source, source frame, shift flag, shift
abbrev pub origin_words : Origin → ℕ × ℕ × ℕ × ℤ
origin_words from = (from.source, from.frame, from.flag, from.shift)

-- frame count, scale, nominal, end
abbrev pub times_words : FrameTimes → ℕ × ℕ × ℤ × ℤ
times_words times = (times.frames, times.scale, times.nominal, times.end)

-- what was read of a table's text
abbrev pub read_words : Read → TableRead
read_words read = record {
  frames = read.frames;
  sources = read.sources;
  segments = read.segments;
  dates = read.dates;
  log = yes_or_no read.log;
}
