-- The origins of a list of frames (RULES 10.9), of a map that is tested once: what `origins` answers and leaves in the
-- lent room, and that each is what `origin` answers. out is lent for the origins, room long; with a prime it is what is
-- there afterwards.
use Rattle.std.specs.Prelude.{◌≡◌, ℕ, ◌<◌, ◌≤◌, List, map, length, get_or, drop, ℤ, pos, nat_le, nat_lt, Result, Ok, Err, if◌then◌else◌}
use Rattle.std.specs.Option.{unwrap_or}
use Rattle.std.specs.Result.{result_and}
use Rattle.refusal.specs.declared.Reason.{Reason}
use Rattle.refusal.specs.declared.Reason.TheVariants as reason
use Rattle.refusal.specs.declared.Refusal.{Refusal}
use Rattle.refusal.specs.Refusals.{refused, first_refused}
use Rattle.slices.specs.Slices.{after}
use Rattle.rows.specs.declared.Row.{Row}
use Rattle.rows.specs.declared.Origin.{Origin}
use Rattle.rows.specs.Rows.{total, origin}
use Rattle.rows.specs.Lent.{rows}
use Rattle.maps.specs.Answers.{most_rows, map_refusal}
use Rattle.maps.specs.Laws.{LentMap}

-- what stands for the origin of a frame that has none; a list with such a frame is refused
abbrev pub no_origin : Origin
no_origin = record { source = 0; frame = 0; flag = 0; shift = pos 0 }

-- the origin of a frame that a map has
abbrev pub origin_at : List Row → ℕ → Origin
origin_at map frame = unwrap_or (origin map frame) no_origin

-- PastMap (54), of a frame of a map of so many frames
abbrev pub frame_refusal : ℕ → ℕ → Result (Unit {0}) Reason
frame_refusal frames frame = if nat_le frames frame then Err reason.PastMap else Ok tt

-- what `origin` refuses the map for (51 and 52), then PastMap of the first frame past the map, then NoRoom (32) where
-- there is no room
abbrev pub origins_refusal : List ℕ → List ℤ → List ℕ → ℕ → Result (Unit {0}) Refusal
origins_refusal words shifts frames room =
    result_and (map_refusal words shifts)
    (if nat_lt most_rows (length shifts) then refused reason.RowsDontFit 0
    else result_and (first_refused (frame_refusal (total (rows words shifts))) 0 frames)
    (if nat_lt room (length frames) then refused reason.NoRoom 0 else Ok tt))

-- origins(words, shifts, frames, out) answers a result and leaves out'
pub record Traces
    (words : List ℕ) (shifts : List ℤ) (frames : List ℕ) (out : List Origin)
    (result : Result ℕ Refusal) (out' : List Origin)
    : Type 0 where
  pub answer : result ≡ result_and (origins_refusal words shifts frames (length out)) (Ok (length frames))
  pub origins : out'
      ≡ after (origins_refusal words shifts frames (length out)) (map (origin_at (rows words shifts)) frames) out

-- each frame of a list lies in a map of so many frames
abbrev pub AllInside : ℕ → List ℕ → Type 0
AllInside frames list = (k : ℕ) → k < length list → get_or list k 0 < frames

-- what was left of the room: all on a refusal, else what lies past the n origins that were answered
abbrev pub RoomAsLent : Result ℕ Refusal → List Origin → List Origin → Type 0
RoomAsLent (Ok n) out out' = drop n out' ≡ drop n out
RoomAsLent (Err refusal) out out' = out' ≡ out

-- WHAT THE ORIGINS OF A LIST GIVE, beside `origin` of each frame alone. `Traces` and `Trace` say which answers the
-- calls allow. The letters: u, s are the map's words and shifts, fs the frames, out is lent for the origins and out' is
-- what is there afterwards; r is what `origins` answers, q what `origin` does; j, k are frames by their numbers in the
-- list, f is a frame, n how many.
pub record OriginsLaws
    (Traces : List ℕ → List ℤ → List ℕ → List Origin → Result ℕ Refusal → List Origin → Type 0)
    (Trace : List ℕ → List ℤ → ℕ → Result Origin Refusal → Type 0)
    : Type 0 where
  -- 1. The k-th origin that is answered is what `origin` answers of the k-th frame; they are as many as the frames.
  pub each : (u : List ℕ) (s : List ℤ) (fs : List ℕ) (out out' : List Origin) (n k : ℕ) (q : Result Origin Refusal)
      → Traces u s fs out (Ok n) out' → k < length fs → Trace u s (get_or fs k 0) q → q ≡ Ok (get_or out' k no_origin)
  pub many : (u : List ℕ) (s : List ℤ) (fs : List ℕ) (out out' : List Origin) (n : ℕ)
      → Traces u s fs out (Ok n) out' → n ≡ length fs
  -- 2. What isn't answered stays as it was lent, and the room as long as it was.
  pub leaves : (u : List ℕ) (s : List ℤ) (fs : List ℕ) (out out' : List Origin) (r : Result ℕ Refusal)
      → Traces u s fs out r out' → RoomAsLent r out out' × (length out' ≡ length out)
  -- 3. Accepted exactly where the map is one that no call refuses, each frame lies in it, and there is room for all.
  pub accepted : (u : List ℕ) (s : List ℤ) (fs : List ℕ) (out out' : List Origin) (n : ℕ)
      → Traces u s fs out (Ok n) out' → LentMap u s × AllInside (total (rows u s)) fs × (length fs ≤ length out)
  pub accepts : (u : List ℕ) (s : List ℤ) (fs : List ℕ) (out out' : List Origin) (r : Result ℕ Refusal)
      → LentMap u s → AllInside (total (rows u s)) fs → length fs ≤ length out
      → Traces u s fs out r out' → r ≡ Ok (length fs)
  -- 4. Which refusal it is. A map that no call takes is refused as `origin` refuses it, whatever the frame. Else 54 at
  -- the first frame past the map, and then 32, where there is no room.
  pub map_refused : (u : List ℕ) (s : List ℤ) (fs : List ℕ) (out out' : List Origin) (f i : ℕ) (why : Reason)
      (r : Result ℕ Refusal)
      → (LentMap u s → ⊥) → Trace u s f (refused why i) → Traces u s fs out r out' → r ≡ refused why i
  pub frame_refused : (u : List ℕ) (s : List ℤ) (fs : List ℕ) (out out' : List Origin) (k : ℕ) (r : Result ℕ Refusal)
      → LentMap u s → k < length fs → ((j : ℕ) → j < k → get_or fs j 0 < total (rows u s))
      → total (rows u s) ≤ get_or fs k 0
      → Traces u s fs out r out' → r ≡ refused reason.PastMap k
  pub room_refused : (u : List ℕ) (s : List ℤ) (fs : List ℕ) (out out' : List Origin) (r : Result ℕ Refusal)
      → LentMap u s → AllInside (total (rows u s)) fs → length out < length fs
      → Traces u s fs out r out' → r ≡ refused reason.NoRoom 0
