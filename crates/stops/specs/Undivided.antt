-- The undivided answers, in which 31 stands for both 31 and 36 (RULES 7.6): however a walk ends without a box that has
-- to be there. And 36 taken back to 31. Frame times have `standard` as in frame_times/specs/Times.antt.
use Rattle.std.specs.Prelude.{ℕ, ◌-◌, Bool, List, length, if◌then◌else◌, Result, Ok, Err, nat_lt}
use Rattle.std.specs.Option.{ok_or}
use Rattle.conditions.specs.Results.{◌>>=◌}
use Rattle.refusal.specs.declared.Reason.{Reason}
use Rattle.refusal.specs.declared.Reason.TheVariants as reason
use Rattle.refusal.specs.declared.Refusal.{Refusal}
use Rattle.refusal.specs.Refusals.{refusal_at, refused}
use Rattle.boxes.specs.Boxes.{most_bytes, header_at, boxes_of, searched, place, first_of}
use Rattle.boxes.specs.Places.{found_place, in_part}
use Rattle.boxes.specs.declared.Header.{Header}
use Rattle.boxes.specs.declared.Header.TheVariants.{Whole, Short, Bad}
use Rattle.boxes.specs.declared.Place.{Place}
use Rattle.boxes.specs.declared.BoxAt.{BoxAt}
use Rattle.boxes.specs.declared.Walk.{Walk}
use Rattle.boxes.specs.declared.Walk.TheVariants.{Found, End, Bad as BadAt}
use Rattle.frame_times.specs.Times.{Outcome, Part, inner_part, track_by, times_in, outcome_of}

-- a refusal with 36 taken back to 31, whose index is 0
abbrev pub undivided : Reason → ℕ → Refusal
undivided reason.Broken index = refusal_at reason.Missing 0
undivided why index = refusal_at why index

-- the same of an answer
abbrev pub taken_back : {A : Type 0} → Result A Refusal → Result A Refusal
taken_back (Ok answer) = Ok answer
taken_back (Err refusal) = Err (undivided refusal.reason refusal.index)

-- the place of what a walk found; missing, however it ends without it
abbrev pub place_undivided : Walk → Result Place Refusal
place_undivided walk = ok_or (found_place walk) (refusal_at reason.Missing 0)

-- `child`, `find_box` and `children`
unfoldable pub child_undivided : List ℕ → ℕ → Result Place Refusal
child_undivided payload kind =
    if nat_lt most_bytes (length payload) then refused reason.TooLong 0
    else place_undivided (first_of kind (boxes_of payload))

unfoldable pub find_box_undivided : List ℕ → ℕ → ℕ → ℕ → Bool → Result Place Refusal
find_box_undivided bytes start end kind text =
    if nat_lt most_bytes (length bytes) then refused reason.TooLong 0
    else if nat_lt (length bytes) end then refused reason.BadSearch 0
    else if nat_lt end start then refused reason.BadSearch 0
    else in_part bytes (Ok (place start (end - start)))
    (λ part. place_undivided (first_of kind (searched text (boxes_of part))))

abbrev pub reached_undivided : Header → Result BoxAt Refusal
reached_undivided Short = refused reason.Missing 0
reached_undivided Bad = refused reason.Missing 0
reached_undivided (Whole found) = Ok found

unfoldable pub children_undivided : List ℕ → ℕ → Result BoxAt Refusal
children_undivided payload at =
    if nat_lt most_bytes (length payload) then refused reason.TooLong 0
    else if nat_lt (length payload) at then refused reason.BadSearch 0
    else reached_undivided (header_at payload at)

-- frame times: the payload of a box that has to be there; missing, however the walk for it ends
abbrev pub found_undivided : Part → Walk → Result Part Refusal
found_undivided part (Found place) = Ok (inner_part part place)
found_undivided part End = refused reason.Missing 0
found_undivided part (BadAt at) = refused reason.Missing 0

unfoldable pub times_undivided : Bool → List ℕ → ℕ → Outcome
times_undivided standard moov room = outcome_of (track_by found_undivided moov >>= times_in standard room)
