-- What the calls answer: each refusal is a chain of tests in the order of RULES 10.7, and a call accepts where none of
-- them refuses. A map is lent as its words and shifts, a second one as second_words and second_shifts. For the rows of
-- the answer out_words and out_shifts are lent, word_room and shift_room long; with a prime they are what is there
-- afterwards.
use Rattle.std.specs.Prelude.{◌≡◌, ℕ, suc, ◌+◌, ◌*◌, Bool, not, ◌&&◌, List, [], ◌∷◌, length, ℤ, ◌==◌, nat_le, nat_lt, Result, Ok, Option, if◌then◌else◌}
use Rattle.std.specs.Result.{result_and}
use Rattle.std.specs.Option.{ok_or}
use Rattle.conditions.specs.Conditions.{past, max_u64}
use Rattle.refusal.specs.declared.Refusal.{Refusal}
use Rattle.refusal.specs.declared.Reason.TheVariants as reason
use Rattle.refusal.specs.Refusals.{refusal_at, refused}
use Rattle.slices.specs.Slices.{after}
use Rattle.rows.specs.declared.Row.{Row}
use Rattle.rows.specs.declared.Origin.{Origin}
use Rattle.rows.specs.Rows.{total, ok_row, origin, cut, join, merge}
use Rattle.rows.specs.Lent.{rows, words_of, shifts_of}

-- ---- the limit
-- the rows that a map may have, in or out
abbrev pub most_rows : ℕ
most_rows = 1024

-- ---- the tests
-- the lengths of a map of some rows
abbrev pub sized : ℕ → ℕ → Bool
sized word_count shift_count = nat_lt 0 shift_count && word_count == 5 * shift_count

-- BadRows (51), at the first row that isn't well formed, from row i on, where frame `next` is next
unfoldable pub first_bad : ℕ → ℕ → List Row → Result (Unit {0}) Refusal
first_bad next i [] = Ok tt
first_bad next i (row ∷ rest) =
    if not (ok_row next row) then refused reason.BadRows i
    else first_bad (next + row.count) (suc i) rest

-- BadRows, of a lent map
abbrev pub map_refusal : List ℕ → List ℤ → Result (Unit {0}) Refusal
map_refusal words shifts =
    if not (sized (length words) (length shifts)) then refused reason.BadRows 0
    else first_bad 0 0 (rows words shifts)

-- so many rows are no more than a map may have, and go into the room
abbrev pub fits : ℕ → ℕ → ℕ → Bool
fits count word_room shift_room =
    nat_le count most_rows && nat_le (5 * count) word_room && nat_le count shift_room

-- RowsDontFit (52), of so many rows out
abbrev pub room_refusal : ℕ → ℕ → ℕ → Result (Unit {0}) Refusal
room_refusal count word_room shift_room =
    if not (fits count word_room shift_room) then refused reason.RowsDontFit 0 else Ok tt

-- ---- the refusals of each call
abbrev pub cut_refusal : List ℕ → List ℤ → ℕ → ℕ → ℕ → ℕ → Result (Unit {0}) Refusal
cut_refusal words shifts start end word_room shift_room =
    result_and (map_refusal words shifts)
    (if nat_lt most_rows (length shifts) then refused reason.RowsDontFit 0
    else if nat_le end start then refused reason.BadRange 0
    else if nat_lt (total (rows words shifts)) end then refused reason.BadRange 0
    else room_refusal (length (cut start end (rows words shifts))) word_room shift_room)

abbrev pub join_refusal : List ℕ → List ℤ → List ℕ → List ℤ → ℕ → ℕ → Result (Unit {0}) Refusal
join_refusal words shifts second_words second_shifts word_room shift_room =
    result_and (map_refusal words shifts)
    (result_and (map_refusal second_words second_shifts)
    (if nat_lt most_rows (length shifts) then refused reason.RowsDontFit 0
    else if nat_lt most_rows (length second_shifts) then refused reason.RowsDontFit 0
    else if past (total (rows words shifts)) (total (rows second_words second_shifts)) max_u64
    then refused reason.JoinWraps 0
    else room_refusal
    (length (join (rows words shifts) (rows second_words second_shifts))) word_room shift_room))

abbrev pub merge_refusal : List ℕ → List ℤ → ℕ → ℕ → Result (Unit {0}) Refusal
merge_refusal words shifts word_room shift_room =
    result_and (map_refusal words shifts)
    (if nat_lt most_rows (length shifts) then refused reason.RowsDontFit 0
    else room_refusal (length (merge (rows words shifts))) word_room shift_room)

abbrev pub origin_refusal : List ℕ → List ℤ → ℕ → Result (Unit {0}) Refusal
origin_refusal words shifts frame =
    result_and (map_refusal words shifts)
    (if nat_lt most_rows (length shifts) then refused reason.RowsDontFit 0
    else if nat_le (total (rows words shifts)) frame then refused reason.PastMap 0
    else Ok tt)

-- ---- answers
-- rows were asked for, or refused: the answer, which is how many there are, and what
-- the room lent for them holds afterwards
pub record Placed
    (refusal : Result (Unit {0}) Refusal) (asked : List Row)
    (out_words : List ℕ) (out_shifts : List ℤ)
    (result : Result ℕ Refusal)
    (out_words' : List ℕ) (out_shifts' : List ℤ)
    : Type 0 where
  pub answer : result ≡ result_and refusal (Ok (length asked))
  pub words : out_words' ≡ after refusal (words_of asked) out_words
  pub shifts : out_shifts' ≡ after refusal (shifts_of asked) out_shifts

-- an origin as it is answered; a frame that has none lies past the map
abbrev pub traced_as : Option Origin → Result Origin Refusal
traced_as found = ok_or found (refusal_at reason.PastMap 0)

-- ---- the promises, in plain lists
-- cut(words, shifts, start, end, out_words, out_shifts) answers a result and leaves out_words' and out_shifts'
abbrev pub Cut : List ℕ → List ℤ → ℕ → ℕ → List ℕ → List ℤ → Result ℕ Refusal → List ℕ → List ℤ → Type 0
Cut words shifts start end out_words out_shifts =
    Placed (cut_refusal words shifts start end (length out_words) (length out_shifts))
    (cut start end (rows words shifts))
    out_words out_shifts

-- join(words, shifts, second_words, second_shifts, out_words, out_shifts) does
abbrev pub Join :
    List ℕ → List ℤ → List ℕ → List ℤ → List ℕ → List ℤ → Result ℕ Refusal → List ℕ → List ℤ → Type 0
Join words shifts second_words second_shifts out_words out_shifts =
    Placed (join_refusal words shifts second_words second_shifts (length out_words) (length out_shifts))
    (join (rows words shifts) (rows second_words second_shifts))
    out_words out_shifts

-- merge(words, shifts, out_words, out_shifts) does
abbrev pub Merge : List ℕ → List ℤ → List ℕ → List ℤ → Result ℕ Refusal → List ℕ → List ℤ → Type 0
Merge words shifts out_words out_shifts =
    Placed (merge_refusal words shifts (length out_words) (length out_shifts)) (merge (rows words shifts))
    out_words out_shifts

-- origin(words, shifts, frame) answers a result
abbrev pub Trace : List ℕ → List ℤ → ℕ → Result Origin Refusal → Type 0
Trace words shifts frame result =
    result ≡ result_and (origin_refusal words shifts frame) (traced_as (origin (rows words shifts) frame))
