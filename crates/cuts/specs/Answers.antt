-- Many cuts of one map (RULES 10.6): the ranges as they are lent, the rows of their cuts, and what `cuts` answers and
-- leaves in the lent room. A map is lent as its words and shifts. For the answer out_words, out_shifts and counts are
-- lent, word_room, shift_room and count_room long; with a prime they are what is there afterwards.
use Rattle.std.specs.Prelude.{ℕ, ◌+◌, ◌*◌, ◌/◌, ◌%◌, ◌≤◌, ◌<◌, min, Bool, not, ◌&&◌, List, map, ◌≡◌, ℤ, length, get_or, Result, Ok, Err, ◌==◌, nat_lt, nat_le, if◌then◌else◌}
use Rattle.std.specs.List.{range_with_len, flat_map}
use Rattle.std.specs.Result.{result_and}
use Rattle.refusal.specs.declared.Reason.{Reason}
use Rattle.refusal.specs.declared.Reason.TheVariants as reason
use Rattle.refusal.specs.declared.Refusal.{Refusal}
use Rattle.refusal.specs.Refusals.{refused, first_refused}
use Rattle.slices.specs.Slices.{after}
use Rattle.rows.specs.declared.Row.{Row}
use Rattle.rows.specs.Rows.{total, cut}
use Rattle.rows.specs.Lent.{rows}
use Rattle.maps.specs.Answers.{most_rows, map_refusal, Placed}
use Rattle.maps.specs.declared.Range.{Range}

-- a range that has frames, all of them in a map of so many frames
pub record Inside (frames : ℕ) (range : Range) : Type 0 where
  pub some : range.from < range.to
  pub within : range.to ≤ frames

-- range k of the lent words, two a range, and all of them
abbrev pub range_at : List ℕ → ℕ → Range
range_at ranges k = record { from = get_or ranges (2 * k) 0; to = get_or ranges (2 * k + 1) 0 }

abbrev pub ranges_of : List ℕ → List Range
ranges_of ranges = map (range_at ranges) (range_with_len 0 (length ranges / 2))

-- of a map's rows, the cut of each range
unfoldable pub cuts_of : List Row → List Range → List (List Row)
cuts_of whole ranges = map (λ range. cut range.from range.to whole) ranges

-- one list after the other
unfoldable pub concat : {A : Type 0} → List (List A) → List A
concat lists = flat_map (λ xs. xs) lists

-- BadRange (50), of a range of a map of so many frames, by the tests of `cut`
abbrev pub range_refusal : ℕ → Range → Result (Unit {0}) Reason
range_refusal frames range =
    if nat_le range.to range.from then Err reason.BadRange
    else if nat_lt frames range.to then Err reason.BadRange
    else Ok tt

-- BadRange, of the lent words: the last range has no end, or the first range that is refused
abbrev pub ranges_refusal : ℕ → List ℕ → Result (Unit {0}) Refusal
ranges_refusal frames ranges =
    if length ranges % 2 == 1 then refused reason.BadRange (length ranges / 2)
    else first_refused (range_refusal frames) 0 (ranges_of ranges)

-- the rows of cuts, which may be over 1,024 in all, and their counts go into the room
abbrev pub cuts_fit : List (List Row) → ℕ → ℕ → ℕ → Bool
cuts_fit asked word_room shift_room count_room =
    nat_le (5 * length (concat asked)) word_room
    && nat_le (length (concat asked)) shift_room
    && nat_le (length asked) count_room

-- the rows for which there is room
abbrev pub room_of : ℕ → ℕ → ℕ
room_of word_room shift_room = min (word_room / 5) shift_room

-- the refusals
abbrev pub cuts_refusal : List ℕ → List ℤ → List ℕ → ℕ → ℕ → ℕ → Result (Unit {0}) Refusal
cuts_refusal words shifts ranges word_room shift_room count_room =
    result_and (map_refusal words shifts)
    (if nat_lt most_rows (length shifts) then refused reason.RowsDontFit 0
    else result_and (ranges_refusal (total (rows words shifts)) ranges)
    (if not (cuts_fit (cuts_of (rows words shifts) (ranges_of ranges)) word_room shift_room count_room)
    then refused reason.RowsDontFit 0
    else Ok tt))

-- cuts were asked for, or refused: their rows in order and, of each, how many
pub record Placing
    (refusal : Result (Unit {0}) Refusal) (asked : List (List Row))
    (out_words : List ℕ) (out_shifts : List ℤ) (counts : List ℕ)
    (result : Result ℕ Refusal)
    (out_words' : List ℕ) (out_shifts' : List ℤ) (counts' : List ℕ)
    : Type 0 where
  pub placed : Placed refusal (concat asked) out_words out_shifts result out_words' out_shifts'
  pub counted : counts' ≡ after refusal (map length asked) counts

-- cuts(words, shifts, ranges, out_words, out_shifts, counts) answers a result and leaves out_words', out_shifts',
-- counts'
abbrev pub Cuts :
    List ℕ → List ℤ → List ℕ → List ℕ → List ℤ → List ℕ
    → Result ℕ Refusal → List ℕ → List ℤ → List ℕ → Type 0
Cuts words shifts ranges out_words out_shifts counts =
    Placing
    (cuts_refusal words shifts ranges (length out_words) (length out_shifts) (length counts))
    (cuts_of (rows words shifts) (ranges_of ranges))
    out_words out_shifts counts
