-- Frame times: where the answer is 36, the walk for a box that has to be there stopped at a broken header there.
-- Assumes nothing.
use mathlib.Core.Path.{◌≡◌, refl, sym, ap, ◌∙◌, subst}
use mathlib.Core.Bool.{Bool, false, ◌||◌}
use mathlib.Core.Logic.{inl, inr}
use mathlib.Core.List.{List, [], ◌∷◌}
use Prim.Native.Nat.{ℕ, zero, suc, ◌+◌, ◌≤◌}
use native.Mathlib.Nat.{add-sub_cancel_left}
use native.Mathlib.Omega.{arith}
use lib.ListN.{length, take, drop}
use lib.Seq.{take-take, take-length, drop-drop}
use lib.Dec.{ltb, eqb}
use Rattle.std.specs.Prelude.{Result, Ok, Err}
use Rattle.conditions.specs.Results.{◌>>=◌}
use Rattle.refusal.specs.declared.Reason.TheVariants as reason
use Rattle.refusal.specs.declared.Refusal.{Refusal}
use Rattle.boxes.specs.Bytes.{mdia}
use Rattle.boxes.specs.Boxes.{most_bytes, boxes_of, first_such}
use Rattle.boxes.specs.Places.{bytes_at}
use Rattle.boxes.specs.declared.Place.{Place}
use Rattle.boxes.specs.Tracks.{is_video_track}
use Rattle.boxes.specs.declared.Walk.{Walk}
use Rattle.boxes.specs.declared.Walk.TheVariants.{Found, End, Bad as BadAt}
use Rattle.boxes.proofs.Parts.{length_part}
use Rattle.boxes.proofs.Within.{walk-stays}
use Rattle.tracks.specs.Tables.{timescale}
use Rattle.frame_times.specs.Times.{Outcome, Part, whole_part, inner_part, mvhd, mdhd, minf, stbl, stts, found, Track, track_by, times_in, outcome_of, times_of_moov}
use Rattle.frame_times.proofs.Steps.{by-needed, by-test}
use Rattle.stops.specs.Stops.{StopsAt, Search, search_for, search_for_video, and_in, in_tables, in_info, in_media, in_track, searches, StopsIn, OfOne}
use Rattle.stops.proofs.Ends.{stopped-at-bad}
use Rattle.stops.proofs.Answers.{Told, told-weaker}
use Rattle.stops.proofs.Plain.{Plain, plain-times}

-- a part of a part is a part of the whole
part-of-part : (a m n : ℕ) (l : List ℕ) → a + m ≤ n → take m (drop a (take n l)) ≡ take m (drop a l)
part-of-part zero m n l h = take-take m n l (omega arith)
part-of-part (suc a) m zero l h = absurd (omega arith)
part-of-part (suc a) m (suc n) [] h = refl
part-of-part (suc a) m (suc n) (x ∷ l) h = part-of-part a m n l (omega arith)

module _ (moov : List ℕ) where
  -- a part lies in the moov, and so does one that a walk found in it
  record Lying (p : Part) : Type 0 where
    bytes : p.bytes ≡ take (length p.bytes) (drop p.base moov)
    within : p.base + length p.bytes ≤ length moov

  whole-lies : Lying (whole_part moov)
  whole-lies = record { bytes = sym (take-length moov); within = omega arith }

  inner-lies : (p : Part) (q : Place) → Lying p → q.start + q.len ≤ length p.bytes → Lying (inner_part p q)
  inner-lies p q l h =
      let n = length p.bytes in
      let m : length (bytes_at p.bytes q) ≡ q.len = length_part p.bytes q.start q.len h in
      record {
        bytes = ap (λ (s : List ℕ). bytes_at s q) l.bytes
            ∙ part-of-part q.start q.len n (drop p.base moov) h
            ∙ ap (take q.len) (drop-drop q.start p.base moov)
            ∙ ap (λ (k : ℕ). take k (drop (p.base + q.start) moov)) (sym m);
        within = omega (arith, m, l.within);
      }

  -- where an answer is 36, the walk of one of these searches stopped there
  abbrev Stopped : List Search → Result Track Refusal → Type 0
  Stopped l r = Told reason.Broken (λ i. OfOne (StopsIn moov i) l) r

  stops-in : (p : Part) (test : ℕ → ℕ → ℕ → Bool) (at : ℕ) → Lying p → first_such test (boxes_of p.bytes) ≡ BadAt at
      → StopsIn moov (p.base + at) (record { part = p; walk = BadAt at })
  stops-in p test at l e =
      let h : at + 8 ≤ length p.bytes = walk-stays test p.bytes (sym e) in
      record {
        lies = l.bytes;
        from = omega arith;
        there = omega (arith, l.within);
        walked = ap BadAt (sym (add-sub_cancel_left p.base at));
        stops = subst (StopsAt false p.bytes) (sym (add-sub_cancel_left p.base at)) (stopped-at-bad false test p.bytes e);
      }

  module _ (p : Part) (test : ℕ → ℕ → ℕ → Bool) (next : Part → Result Track Refusal) (l : Lying p) where
    -- a box that has to be there is looked for in a part, and what is next doesn't go on in what was found
    beside : (others : List Search) (w : Walk) → first_such test (boxes_of p.bytes) ≡ w
        → ((q : Part) → Stopped others (next q)) → Stopped (record { part = p; walk = w } ∷ others) (found p w >>= next)
    beside others (Found q) e f = told-weaker reason.Broken (next (inner_part p q)) (λ i. inr) (f (inner_part p q))
    beside others End e f = λ n. absurd (grind arith)
    beside others (BadAt at) e f = λ n. inl (stops-in p test at l e)

    -- the same, and what is next goes on in the part that was found
    inward : (inner : Part → List Search) (w : Walk) → first_such test (boxes_of p.bytes) ≡ w
        → ((q : Part) → Lying q → Stopped (inner q) (next q))
        → Stopped (and_in (record { part = p; walk = w }) inner) (found p w >>= next)
    inward inner (Found q) e f =
        told-weaker reason.Broken (next (inner_part p q)) (λ i. inr)
        (f (inner_part p q) (inner-lies p q l (walk-stays test p.bytes (sym e))))
    inward inner End e f = λ n. absurd (grind arith)
    inward inner (BadAt at) e f = λ n. inl (stops-in p test at l e)

  abbrev of : ℕ → ℕ → ℕ → ℕ → Bool
  of kind = λ k start len. eqb k kind

  track-told : Stopped (searches moov) (track_by found moov)
  track-told =
      let whole = whole_part moov in
      let past = and_in (search_for_video moov) in_track in
      by-test (Stopped (searches moov)) (ltb most_bytes (length moov)) reason.TooLong (λ e. absurd (grind arith))
      (beside whole (of mvhd) _ whole-lies past _ refl
      (λ header. by-needed (Stopped past) (timescale header.bytes) (λ e. absurd (grind arith))
      (λ movie. inward whole (is_video_track moov) _ whole-lies in_track _ refl
      (λ track t. inward track (of mdia) _ t in_media _ refl
      (λ media m. let past = and_in (search_for minf media) in_info in
      beside media (of mdhd) _ m past _ refl
      (λ header. by-needed (Stopped past) (timescale header.bytes) (λ e. absurd (grind arith))
      (λ scale. by-test (Stopped past) (eqb scale 0 || eqb movie 0) reason.Missing (λ e. absurd (grind arith))
      (inward media (of minf) _ m in_info _ refl
      (λ info i. inward info (of stbl) _ i in_tables _ refl
      (λ tables s. beside tables (of stts) _ s [] _ refl (λ times. tt)))))))))))

  answer-told : (r : Result Track Refusal) (next : Track → Result Outcome Refusal) → Stopped (searches moov) r
      → ((t : Track) → Plain (outcome_of (next t)))
      → Told reason.Broken (λ i. OfOne (StopsIn moov i) (searches moov)) (outcome_of (r >>= next)).answer
  answer-told (Ok t) next h f = told-weaker reason.Broken (outcome_of (next t)).answer (λ i. absurd) (f t)
  answer-told (Err refusal) next h f = h

  pub moov-told : (standard : Bool) (room : ℕ)
      → Told reason.Broken (λ i. OfOne (StopsIn moov i) (searches moov)) (times_of_moov standard moov room).answer
  unfolding times_of_moov
  moov-told standard room = answer-told (track_by found moov) (times_in standard room) track-told (plain-times standard room)
