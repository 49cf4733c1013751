-- The pass over the frames, turn by turn. Assumes nothing.
use Rattle.std.specs.Prelude.{if◌then◌else◌, Option, Some, None, MatchOption, unwrap_or}
use Rattle.std.specs.List.{AllByRecursion}
use Rattle.std.proofs.lemmas.Int.{ints}
use Rattle.std.proofs.lemmas.Bool.Decides.{nat_tests}
use mathlib.Core.Path.{◌≡◌, refl, sym, ap, ◌∙◌}
use mathlib.Core.Bool.{Bool, true, false}
use mathlib.Core.List.{List, [], ◌∷◌, ◌++◌, append_assoc, append-nil, map}
use Prim.Native.Nat.{ℕ, suc, ◌+◌, ◌*◌, ◌≤◌, ◌<◌, ◌^◌}
use native.Mathlib.Omega.{arith}
use native.Mathlib.Numerals.{add-one}
use lib.ListN.{length-map, length-take, length, take, drop, get_or, set, length-set}
use lib.Seq.{take-suc-set, take_at}
use lib.IntN.{ℤ, pos, nat_abs, ◌+ℤ◌}
use mir.Syntax.{w64}
use mir.Val.{to_z}
use Rattle.signed.proofs.Bits.{read}
use lib.Signed.{le_z}
use borrow.Author.Tests.{ne_eqb}
use Rattle.tracks.specs.declared.Edit.{Edit}
use Rattle.tracks.specs.Tables.{offset_of, entries_of, entry_total, durations}
use Rattle.tracks.specs.Opening.{offset_wrap, wrapped}
use Rattle.tracks.proofs.OffsetLaws.{offset_wrapped}
use Rattle.tracks.proofs.EntryLaws.{length-per-frame}
use Rattle.frame_times.specs.declared.Kept.{Kept}
use Rattle.frame_times.specs.Frames.{Frame, frames_from, in_edit, kept, cts_of, last_of}
use Rattle.frame_times.specs.KeptFrames.{Near, Good, kept_with, Ends, Tallied}
use Rattle.frame_times.proofs.FrameLaws.{last-is, first_decode, last_end}

-- ---- what is told of kept frames, one after the other
unfoldable pub tally : Kept → List Frame → Kept
tally k [] = k
tally k (f ∷ fs) = tally (kept_with k f.decode f.cts f.duration) fs

abbrev pub no_frame : Kept
no_frame = record { count = 0; first = 0; last = pos 0; last_duration = 0 }

abbrev told_of : ℕ → ℕ → Frame → Kept
told_of n d g = record { count = n; first = d; last = g.cts; last_duration = g.duration }

tally-more : (n d : ℕ) (g : Frame) (fs : List Frame) → 0 < n
    → tally (told_of n d g) fs ≡ told_of (n + length fs) d (last_of g fs)
unfolding tally last_of
tally-more n d g [] p = let e : n ≡ n + 0 = omega arith in ap (λ m. told_of m d g) e
tally-more n d g (f ∷ fs) p =
    let m : (n + 1) + length fs ≡ n + suc (length fs) = omega arith in
    (λ i. tally (if ne_eqb n 0 (omega arith) i then told_of 1 f.decode f else if le_z g.cts f.cts then told_of (n + 1) d f else told_of (n + 1) d g) fs)
    ∙ by (le_z g.cts f.cts) (λ h. tally-more (n + 1) d h fs (omega arith))
    ∙ ap (λ c. told_of c d (last_of g (f ∷ fs))) m
  where
    by : (b : Bool) → ((h : Frame) → tally (told_of (n + 1) d h) fs ≡ told_of ((n + 1) + length fs) d (last_of h fs))
        → tally (if b then told_of (n + 1) d f else told_of (n + 1) d g) fs ≡ told_of ((n + 1) + length fs) d (last_of (if b then f else g) fs)
    by true r = r f
    by false r = r g

tally_ends : (fs : List Frame) {k : Kept} → k ≡ tally no_frame fs → (k.count ≡ length fs) × Ends fs k
unfolding tally
tally_ends [] e = (ap (λ k. k.count) e, tt)
tally_ends (f ∷ fs) e =
    let t = e ∙ tally-more 1 f.decode f fs (omega arith) in
    (ap (λ k. k.count) t ∙ omega arith, (ap (λ k. k.first) t, ap (λ k. k.last) t, ap (λ k. k.last_duration) t))

count-with : (k : Kept) (t : ℕ) (c : ℤ) (d : ℕ) → (kept_with k t c d).count ≡ k.count + 1
count-with k t c d = grind (arith, nat_tests)

-- ---- the loop: what is done, and the frames that are left, of durations and offsets
pub record Keeping (e : Edit) (whole : List Frame) (times : List ℤ) (ds : List ℕ) (os : List ℤ) (k : Kept) (t : ℕ) : Type 0 where
  pub small : t + length ds * 4294967296 ≤ length times * 4294967296
  pub few : k.count + length ds ≤ length times
  pub told : tally k (kept e (frames_from t ds os)) ≡ tally no_frame whole
  pub front : take k.count times ++ cts_of (kept e (frames_from t ds os)) ≡ cts_of whole
  pub good : AllByRecursion (Good e) (kept e (frames_from t ds os)) → AllByRecursion (Good e) whole

pub keep-start : {e : Edit} (n : ℕ) (stts : List ℕ) {os : List ℤ} {times : List ℤ}
    → length times ≡ entry_total (entries_of n stts)
    → Keeping e (kept e (frames_from 0 (durations n stts) os)) times (durations n stts) os no_frame 0
keep-start n stts l = let d = length-per-frame (entries_of n stts) in record { small = omega (arith, l, d); few = omega (arith, l, d); told = refl; front = refl; good = λ a. a }

-- the next offset is taken, 0 where there is none
pub record Taken (os os' : List ℤ) (o : ℤ) : Type 0 where
  pub first : get_or os 0 (pos 0) ≡ o
  pub rest : drop 1 os ≡ os'
  pub small : nat_abs o ≤ 2 ^ 32

next-is : (u : Bool) (xs xs' : List ℕ) (r : Option ℕ) → MatchOption r ((xs ≡ []) × (xs' ≡ [])) (λ x. xs ≡ x ∷ xs')
    → unwrap_or r 0 < 2 ^ 32
    → Taken (map (offset_of u) xs) (map (offset_of u) xs') (offset_of u (unwrap_or r 0))
next-is true xs xs' None h l = rw (h.0, h.1) record { first = refl; rest = refl; small = omega (arith, ints) }
next-is false xs xs' None h l = rw (h.0, h.1) record { first = refl; rest = refl; small = omega (arith, ints) }
next-is true xs xs' (Some x) h l = rw h record { first = refl; rest = refl; small = omega (arith, ints) }
next-is false xs xs' (Some x) h l = rw h record { first = refl; rest = refl; small = omega (arith, ints) }

pub taken : (u : Bool) (xs xs' : List ℕ) (r : Option ℕ) {x wrap : ℕ} {o : ℤ}
    → MatchOption r ((xs ≡ []) × (xs' ≡ [])) (λ x. xs ≡ x ∷ xs') → x ≡ unwrap_or r 0 → x < 2 ^ 32
    → wrap ≡ offset_wrap u → o ≡ wrapped wrap x → Taken (map (offset_of u) xs) (map (offset_of u) xs') o
taken u xs xs' r h e l w q = rw (q, w, offset_wrapped u _ l, e) (next-is u xs xs' r h (rw e at l))

frame-more : (e : Edit) (t : ℕ) {d : ℕ} {ds ds' : List ℕ} {os os' : List ℤ} {o c : ℤ} → ds ≡ d ∷ ds' → Taken os os' o
    → pos t +ℤ o ≡ c
    → kept e (frames_from t ds os) ≡ (if in_edit e c then record { decode = t; cts = c; duration = d } ∷ kept e (frames_from (t + d) ds' os') else kept e (frames_from (t + d) ds' os'))
unfolding frames_from kept
frame-more e t nd x c = rw (nd, x.first, x.rest, c) refl

-- a turn: a duration and an offset are taken, and the composition time is added up
module _ {e : Edit} {whole : List Frame} {times : List ℤ} {ds : List ℕ} {os : List ℤ} {k : Kept} {t : ℕ} (h : Keeping e whole times ds os k t) (most : length times ≤ 16777216)
    {d : ℕ} {ds' : List ℕ} (nd : ds ≡ d ∷ ds') (fd : d < 2 ^ 32) {o : ℤ} {os' : List ℤ} (no : Taken os os' o) where
  abbrev cts : ℤ
  cts = read (to_z w64 t +ℤ read o)

  early : t ≤ 2 ^ 56
  early = omega (arith, h.small, ap length nd)

  here : kept e (frames_from t ds os) ≡ (if in_edit e cts then record { decode = t; cts = cts; duration = d } ∷ kept e (frames_from (t + d) ds' os') else kept e (frames_from (t + d) ds' os'))
  here = frame-more e t nd no (omega (arith, ints, early, no.small))

  pub kept-turn : in_edit e cts ≡ true → Keeping e whole (set times k.count cts) ds' os' (kept_with k t cts d) (t + d)
  unfolding tally
  kept-turn p =
      let is : kept e (frames_from t ds os) ≡ record { decode = t; cts = cts; duration = d } ∷ kept e (frames_from (t + d) ds' os') = rw p at here in
      let room : k.count < length times = omega (arith, h.few, ap length nd) in
      record {
        small = omega (arith, h.small, ap length nd, length-set times k.count cts);
        few = omega (arith, h.few, ap length nd, length-set times k.count cts, count-with k t cts d);
        told = rw is at h.told;
        front = rw (count-with k t cts d, add-one, take-suc-set times k.count cts room) (append_assoc (take k.count times) (cts ∷ []) _ ∙ rw is at h.front);
        good = λ a. (rw is at h.good) (record { decode_near = early; cts_near = omega (arith, ints, early, no.small); short = fd; kept = p }, a);
      }

  pub left-turn : in_edit e cts ≡ false → Keeping e whole times ds' os' k (t + d)
  left-turn p =
      let is : kept e (frames_from t ds os) ≡ kept e (frames_from (t + d) ds' os') = rw p at here in
      record { small = omega (arith, h.small, ap length nd); few = omega (arith, h.few, ap length nd); told = rw is at h.told; front = rw is at h.front; good = rw is at h.good }

pub keep-end : {e : Edit} {whole : List Frame} {times : List ℤ} {ds : List ℕ} {os : List ℤ} {k : Kept} {t : ℕ}
    → Keeping e whole times ds os k t → ds ≡ [] → Tallied e whole k times
unfolding kept frames_from tally
keep-end {e} {whole} {times} {ds} {os} {k} {t} h n =
    let is : kept e (frames_from t ds os) ≡ [] = ap (λ l. kept e (frames_from t l os)) n in
    let ends = tally_ends whole (rw is at h.told) in
    record { count = ends.0; front = sym (append-nil (take k.count times)) ∙ rw is at h.front; ends = ends.1; good = (rw is at h.good) tt }

-- ---- some kept frames, of what is told of them, as the code reads it
pub record Known (fs : List Frame) (k : Kept) : Type 0 where
  pub some : 0 < length fs
  pub near : Near k.last
  pub short : k.last_duration < 2 ^ 32
  pub first : to_z w64 k.first ≡ first_decode fs
  pub last : read (read k.last +ℤ to_z w64 k.last_duration) ≡ last_end fs

pub known : {e : Edit} (fs : List Frame) {k : Kept} {times : List ℤ} → Tallied e fs k times → (k.count ≡ 0 → ⊥)
    → Known fs k
known [] h n = absurd (n h.count)
known {e} (f ∷ fs) {k} h n =
    let g = (last-is e f fs h.good).0 in
    record {
      some = omega arith;
      near = rw h.ends.1 g.cts_near;
      short = omega (arith, h.ends.2, g.short);
      first = omega (arith, ints, h.ends.0, h.good.0.decode_near);
      last = omega (arith, ints, h.ends.1, h.ends.2, g.cts_near, g.short);
    }

-- for the lengths of what is laid and kept
pub ruleset lengths = (length-map, length-take, length-per-frame, take_at)
