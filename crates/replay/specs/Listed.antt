-- Which words a record is made of.
use Rattle.std.specs.Prelude.{◌≡◌, ◌==◌}
use Rattle.rules.specs.declared.Words.{Words}
use Rattle.records.specs.declared.TrimSegment.{TrimSegment}

-- a record has a segment's unsigned words, and a shift where its flag is 1
abbrev pub HasWords : TrimSegment → Words → Type 0
HasWords segment words =
    (segment.source ≡ words.source) × (segment.src_first_frame ≡ words.first) × (segment.frame_count ≡ words.count)
    × (segment.out_first_frame ≡ words.out) × (segment.shift_present ≡ (words.flag == 1))
