-- RULES 1.6: segment records, the words of a lent table that say the same, and the lookup over them.
use Rattle.std.specs.Prelude.{ℕ, Bool, if◌then◌else◌, List, [], ◌∷◌, ℤ, Result}
use Rattle.std.specs.List.{flat_map}
use Rattle.refusal.specs.declared.Refusal.{Refusal}
use Rattle.rules.specs.Lookups.{segment_of_frame}
use Rattle.table.specs.Layout.{table_of}
use Rattle.records.specs.declared.TrimSegment.{TrimSegment}

-- its five unsigned and seven signed words, as a table is lent
abbrev pub unsigned : TrimSegment → List ℕ
unsigned trim =
    trim.source ∷ trim.src_first_frame ∷ trim.frame_count ∷ trim.out_first_frame
    ∷ (if trim.shift_present then 1 else 0) ∷ []

abbrev pub signed : TrimSegment → List ℤ
signed trim =
    trim.src_start_us ∷ trim.out_start_us ∷ trim.duration_us
    ∷ trim.src_capture_start_us ∷ trim.out_capture_start_us ∷ trim.capture_duration_us
    ∷ trim.clock_shift ∷ []

-- the words of a list of records
abbrev pub all_unsigned : List TrimSegment → List ℕ
all_unsigned records = flat_map unsigned records

abbrev pub all_signed : List TrimSegment → List ℤ
all_signed records = flat_map signed records

-- the lookup over words, of the words of the records
unfoldable pub locate : List ℕ → List ℕ → List TrimSegment → Bool → ℕ → Result ℕ Refusal
locate sources text records log frame =
    segment_of_frame (table_of sources (all_unsigned records) (all_signed records) log text) frame
