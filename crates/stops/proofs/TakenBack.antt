-- Frame times with 36 taken back to 31 are the undivided ones, down from the moov. Assumes nothing.
use Rattle.std.specs.Prelude.{Option, None, Some, Result, Ok, Err}
use mathlib.Core.Path.{◌≡◌, refl, ap, subst}
use mathlib.Core.Bool.{Bool, true, false, ◌||◌}
use mathlib.Core.List.{List}
use Prim.Native.Nat.{ℕ}
use lib.ListN.{length}
use lib.Dec.{ltb, eqb}
use Rattle.boxes.specs.Bytes.{mdia}
use Rattle.boxes.specs.Boxes.{most_bytes, boxes_of, first_of}
use Rattle.boxes.specs.Tracks.{video_track}
use Rattle.boxes.specs.declared.Walk.{Walk}
use Rattle.boxes.specs.declared.Walk.TheVariants.{Found, End, Bad as BadAt}
use Rattle.tracks.specs.Tables.{timescale}
use Rattle.conditions.specs.Results.{◌>>=◌, ◌>>◌}
use Rattle.refusal.specs.declared.Reason.{Reason}
use Rattle.refusal.specs.declared.Reason.TheVariants as reason
use Rattle.refusal.specs.declared.Refusal.{Refusal}
use Rattle.refusal.specs.Refusals.{refusal_at}
use Rattle.frame_times.specs.Times.{Outcome, mvhd, mdhd, minf, stbl, stts, refuse_if, needed, Part, whole_part, inner_part, found, Track, track_by, times_in, outcome_of, times_of_moov}
use Rattle.stops.specs.Undivided.{undivided, taken_back, found_undivided, times_undivided}
use Rattle.stops.proofs.Answers.{Told}
use Rattle.stops.proofs.Plain.{Plain, plain-times}

-- what is undivided where there is an outcome: its answer with 36 taken back, and its starts
pub record Back (o o' : Outcome) : Type 0 where
  pub answer : taken_back o.answer ≡ o'.answer
  pub starts : o.starts ≡ o'.starts

-- an outcome that isn't 36 stays
stays : (why : Reason) (i : ℕ) → (why ≡ reason.Broken → ⊥) → undivided why i ≡ refusal_at why i
stays reason.Broken i h = absurd (h refl)
stays why i h = refl

other-stays : {A : Type 0} (r : Result A Refusal) → Told reason.Broken (λ i. ⊥) r → taken_back r ≡ r
other-stays (Ok a) h = refl
other-stays (Err refusal) h = ap Err (stays refusal.reason refusal.index h)

plain-stays : (o : Outcome) → Plain o → Back o o
plain-stays o h = record { answer = other-stays o.answer h; starts = refl }

-- through what has to be there, a test, and a box that has to be there
module _ {A : Type 0} where
  needed-back : {B : Type 0} (o : Option B) (next next' : B → Result A Refusal)
      → ((b : B) → taken_back (next b) ≡ next' b) → taken_back (needed o >>= next) ≡ (needed o >>= next')
  needed-back None next next' f = refl
  needed-back (Some b) next next' f = f b

  test-back : (b : Bool) (why : Reason) (r r' : Result A Refusal) → undivided why 0 ≡ refusal_at why 0
      → taken_back r ≡ r' → taken_back (refuse_if b why >> r) ≡ (refuse_if b why >> r')
  test-back true why r r' e f = ap Err e
  test-back false why r r' e f = f

  found-back : (p : Part) (w : Walk) (next next' : Part → Result A Refusal)
      → ((q : Part) → taken_back (next q) ≡ next' q) → taken_back (found p w >>= next) ≡ (found_undivided p w >>= next')
  found-back p (Found place) next next' f = f (inner_part p place)
  found-back p End next next' f = refl
  found-back p (BadAt at) next next' f = refl

track-back : (moov : List ℕ) → taken_back (track_by found moov) ≡ track_by found_undivided moov
track-back moov =
    let whole = whole_part moov in
    test-back (ltb most_bytes (length moov)) reason.TooLong _ _ refl
    (found-back whole (first_of mvhd (boxes_of moov)) _ _
    (λ header. needed-back (timescale header.bytes) _ _
    (λ movie. found-back whole (video_track moov) _ _
    (λ track. found-back track (first_of mdia (boxes_of track.bytes)) _ _
    (λ media. found-back media (first_of mdhd (boxes_of media.bytes)) _ _
    (λ header. needed-back (timescale header.bytes) _ _
    (λ scale. test-back (eqb scale 0 || eqb movie 0) reason.Missing _ _ refl
    (found-back media (first_of minf (boxes_of media.bytes)) _ _
    (λ info. found-back info (first_of stbl (boxes_of info.bytes)) _ _
    (λ tables. found-back tables (first_of stts (boxes_of tables.bytes)) _ _ (λ times. refl)))))))))))

outcome-back : (r : Result Track Refusal) (next : Track → Result Outcome Refusal)
    → ((t : Track) → Plain (outcome_of (next t))) → Back (outcome_of (r >>= next)) (outcome_of (taken_back r >>= next))
outcome-back (Ok t) next f = plain-stays (outcome_of (next t)) (f t)
outcome-back (Err refusal) next f = record { answer = refl; starts = refl }

pub moov-back : (standard : Bool) (moov : List ℕ) (room : ℕ)
    → Back (times_of_moov standard moov room) (times_undivided standard moov room)
unfolding times_of_moov times_undivided
moov-back standard moov room =
    subst (λ r. Back (outcome_of (track_by found moov >>= times_in standard room)) (outcome_of (r >>= times_in standard room))) (track-back moov)
    (outcome-back (track_by found moov) (times_in standard room) (plain-times standard room))
