-- Both readings of a moov are the same where no offset of version 0 has its top bit set. Assumes nothing.
use Rattle.std.specs.Prelude.{Option, None, Some, Result, Ok, Err, IfOk}
use Rattle.std.specs.List.{AllByRecursion}
use mathlib.Core.Path.{◌≡◌, refl, sym, ap, ◌∙◌, subst}
use mathlib.Core.Bool.{Bool, true, false, ◌||◌}
use mathlib.Core.List.{List, [], ◌∷◌, map, map-append}
use Prim.Native.Nat.{ℕ}
use lib.ListN.{length, get_or}
use lib.IntN.{ℤ, pos}
use mir.Syntax.{w32}
use mir.Facts.{to_z_pos}
use lib.Dec.{ltb, eqb}
use borrow.Author.Tests.{eqb-true}
use Rattle.conditions.proofs.Tests.{decide}
use Rattle.conditions.specs.Results.{◌>>=◌, ◌>>◌}
use Rattle.refusal.specs.declared.Reason.TheVariants as reason
use Rattle.refusal.specs.declared.Refusal.{Refusal}
use Rattle.boxes.specs.Bytes.{mdia}
use Rattle.boxes.specs.Boxes.{most_bytes, boxes_of, first_of}
use Rattle.boxes.specs.Places.{found_place, part_of, child_of}
use Rattle.boxes.specs.Tracks.{video_track}
use Rattle.boxes.specs.declared.Walk.{Walk}
use Rattle.boxes.specs.declared.Walk.TheVariants.{Found, End, Bad as BadAt}
use Rattle.tracks.specs.Tables.{timescale, table_entries, optional_entries, entries_of, entry_total, per_frame, durations, offset_of, offsets}
use Rattle.tracks.specs.Edits.{edit_of}
use Rattle.tracks.specs.declared.entries.Run.{Run}
use Rattle.tracks.proofs.EntryLaws.{map-replicate}
use Rattle.frame_times.specs.Times.{Outcome, of_frames, refuse_if, needed, Part, whole_part, inner_part, found, Track, track_by, times_in, outcome_of, times_of_moov, mvhd, mdhd, minf, stbl, stts, ctts}
use Rattle.frame_times.proofs.Steps.{by-needed, by-test}
use Rattle.modes.specs.Modes.{ctts_of, TopClear, NoTopBit}

same-offsets : (es : List Run) → AllByRecursion (λ (e : Run). TopClear e.value) es
    → map (offset_of true) (per_frame es) ≡ map (offset_of false) (per_frame es)
same-offsets [] h = refl
same-offsets (e ∷ es) h =
    let o : offset_of false e.value ≡ pos e.value = to_z_pos w32 {n = e.value} h.0 in
    simp (map-append, map-replicate, o, same-offsets es h.1)

-- what has to be the same: the offsets of a ctts that is whole
abbrev Same : List ℕ → Type 0
Same c = (n : ℕ) → optional_entries c ≡ Some n → offsets true n c ≡ offsets false n c

same_of : (c : List ℕ) → NoTopBit c → Same c
same_of c h n e =
    let by : Bool → List ℤ = λ (b : Bool). map (offset_of b) (per_frame (entries_of n c)) in
    decide (eqb (get_or c 0 0) 0)
    (λ t. ap by t ∙ same-offsets (entries_of n c) (h n e (eqb-true _ _ t)))
    (λ t. ap by t)

-- so are a track's times
needed-same : {A B : Type 0} (o : Option A) (f g : A → Result B Refusal) → ((a : A) → o ≡ Some a → f a ≡ g a)
    → (needed o >>= f) ≡ (needed o >>= g)
needed-same None f g h = refl
needed-same (Some a) f g h = h a refl

same-times : (room : ℕ) (t : Track) → Same t.ctts → times_in true room t ≡ times_in false room t
same-times room t h =
    needed-same (table_entries t.stts) _ _
    (λ n _. ap (λ (r : Result Outcome Refusal). refuse_if (ltb t.most_frames (entry_total (entries_of n t.stts))) reason.Missing >> (refuse_if (ltb room (entry_total (entries_of n t.stts))) reason.NoRoom >> r))
    (needed-same (optional_entries t.ctts) _ _
    (λ m e. ap (λ (os : List ℤ). needed (edit_of t.edts t.scale t.movie) >>= (λ edit. Ok (of_frames t.scale edit (durations n t.stts) os))) (h m e))))

-- the ctts of a track that is found
module _ (P : Track → Type 0) (next : Part → Result Track Refusal) where
  through : (p : Part) (w : Walk) → ((q : Part) → q.bytes ≡ part_of p.bytes (found_place w) → IfOk (next q) P)
      → IfOk (found p w >>= next) P
  through p (Found place) f = f (inner_part p place) refl
  through p End f = tt
  through p (BadAt at) f = tt

ctts-is : (moov : List ℕ) → IfOk (track_by found moov) (λ t. t.ctts ≡ ctts_of moov)
ctts-is moov =
    let C : Track → Type 0 = λ t. t.ctts ≡ ctts_of moov in
    let P : Result Track Refusal → Type 0 = λ r. IfOk r C in
    let whole = whole_part moov in
    by-test P (ltb most_bytes (length moov)) reason.TooLong tt
    (through C _ whole (first_of mvhd (boxes_of moov))
    (λ header _. by-needed P (timescale header.bytes) tt
    (λ movie. through C _ whole (video_track moov)
    (λ track t. through C _ track (first_of mdia (boxes_of track.bytes))
    (λ media m. through C _ media (first_of mdhd (boxes_of media.bytes))
    (λ header _. by-needed P (timescale header.bytes) tt
    (λ scale. by-test P (eqb scale 0 || eqb movie 0) reason.Missing tt
    (through C _ media (first_of minf (boxes_of media.bytes))
    (λ info i. through C _ info (first_of stbl (boxes_of info.bytes))
    (λ tables s. through C _ tables (first_of stts (boxes_of tables.bytes))
    (λ times _. ap (child_of ctts) (s ∙ ap (child_of stbl) (i ∙ ap (child_of minf) (m ∙ ap (child_of mdia) t))))))))))))))

same-after : (r : Result Track Refusal) (f g : Track → Result Outcome Refusal) {c : List ℕ} → IfOk r (λ t. t.ctts ≡ c)
    → ((t : Track) → t.ctts ≡ c → f t ≡ g t) → (r >>= f) ≡ (r >>= g)
same-after (Ok t) f g h e = e t h
same-after (Err refusal) f g h e = refl

-- both readings of a moov are the same where no offset of version 0 has its top bit set
pub modes_agree : (moov : List ℕ) (room : ℕ) → NoTopBit (ctts_of moov)
    → times_of_moov true moov room ≡ times_of_moov false moov room
unfolding times_of_moov
modes_agree moov room h =
    ap outcome_of
    (same-after (track_by found moov) _ _ (ctts-is moov)
    (λ t e. same-times room t (subst Same (sym e) (same_of _ h))))
