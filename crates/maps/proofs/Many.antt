-- The origins of a list of frames: the loops, and what they give beside `origin`. Assumes nothing.
use Rattle.std.proofs.Common.{◌≡◌, ℕ, ◌+◌, ◌-◌, ◌<◌, ◌≤◌, true, List, ◌++◌, map, length, get_or, take, drop, set, ℤ, sym, refl, ap, ◌∙◌, arith, ltb, ltb-false, leb-false, le-leb, le-ltb, lt-ltb}
use Rattle.std.proofs.lemmas.List.{length-map, get_or-map}
use Rattle.std.proofs.lemmas.Simd.{pick_l_whole}
use lib.ListN.{get_or-append}
use lib.Seq.{drop_at}
use borrow.Author.Tests.{lt-leb}
use Rattle.slices.proofs.Ranges.{run}
use Rattle.slices.proofs.Lists.{copy_more, copy-all}
use Rattle.slices.proofs.Laid.{length-laid}
use Rattle.slices.specs.Slices.{laid, after}
use Rattle.std.specs.Prelude.{Option, Result, Ok, Err, Some}
use Rattle.std.specs.Option.{unwrap_or}
use Rattle.std.specs.Result.{result_and}
use Rattle.conditions.specs.Conditions.{max_u64}
use Rattle.conditions.proofs.Tests.{tests, decide}
use Rattle.refusal.specs.declared.Reason.{Reason}
use Rattle.refusal.specs.declared.Reason.TheVariants as reason
use Rattle.refusal.specs.declared.Refusal.{Refusal}
use Rattle.refusal.specs.Refusals.{refused, first_refused}
use Rattle.refusal.proofs.Chains.{if-ok, and-ok, ok-of, err-of}
use Rattle.refusal.proofs.First.{none-refused, refuses-none, first-refused, first-turn, first-hit, first-end}
use Rattle.rows.specs.declared.Row.{Row}
use Rattle.rows.specs.declared.Origin.{Origin}
use Rattle.rows.specs.Rows.{row_end, total, holds, origin}
use Rattle.rows.specs.Lent.{row_at, rows}
use Rattle.rows.proofs.Origins.{holds-lo, holds-hi}
use Rattle.maps.specs.Answers.{most_rows, map_refusal, origin_refusal, traced_as, Trace}
use Rattle.maps.specs.Origins.{no_origin, origin_at, frame_refusal, origins_refusal, Traces, AllInside, RoomAsLent, OriginsLaws}
use Rattle.maps.specs.Laws.{LentMap}
use Rattle.maps.specs.Spans.{Sound, Holder}
use Rattle.maps.proofs.Chains.{sound, sound-map, lent, is-sound, some-rows, origin-accepted}
use Rattle.maps.proofs.Spans.{row-end, row-holder, origin-held}

-- frames as a loop reads them
abbrev pub nth : List ℕ → ℕ → ℕ
nth l k = get_or l k 0

pub whole : (rule : ℕ → Result (Unit {0}) Reason) (l : List ℕ)
    → first_refused rule 0 (run (nth l) 0 (length l - 0)) ≡ first_refused rule 0 l
whole rule l = let e : length l - 0 ≡ length l = omega arith in rw e (ap (first_refused rule 0) (pick_l_whole 0 l (length l) refl))

-- a frame past the map, and one of it
pub past-refused : (t f : ℕ) → t ≤ f → frame_refusal t f ≡ Err reason.PastMap
past-refused t f h = rw (le-leb t f h)

pub frame-kept : (t f : ℕ) → f < t → frame_refusal t f ≡ Ok tt
frame-kept t f h = rw (lt-leb t f h)

pub ruleset refusing = (whole, past-refused, frame-kept, first-turn, first-hit, first-end, tests)

-- one more origin
pub origin-more : (m : List Row) (l : List ℕ) (o out : List Origin) (k : ℕ) (it : Origin)
    → k < length l → length l ≤ length o → out ≡ take k (map (origin_at m) l) ++ drop k o
    → origin m (nth l k) ≡ Some it
    → set out k it ≡ take (k + 1) (map (origin_at m) l) ++ drop (k + 1) o
origin-more m l o out k it h room e f =
    let n = length-map l (origin_at m) in
    let is : it ≡ get_or (map (origin_at m) l) k no_origin =
    sym (get_or-map (origin_at m) l k 0 no_origin h ∙ ap (λ (x : Option Origin). unwrap_or x no_origin) f) in
    (λ i. set (e i) k (is i)) ∙ copy_more (map (origin_at m) l) o k no_origin (omega (arith, n)) (omega (arith, room))

pub origins-all : (m : List Row) (l : List ℕ) (o out : List Origin) (k : ℕ) → k ≤ length l → length l ≤ k
    → out ≡ take k (map (origin_at m) l) ++ drop k o → out ≡ laid (map (origin_at m) l) o
origins-all m l o out k h g e = e ∙ copy-all (map (origin_at m) l) o k (omega (arith, length-map l (origin_at m)))

-- the row of the frame before
module _ (u : List ℕ) (s : List ℤ) where
  pub end-fits : map_refusal u s ≡ Ok tt → (i : ℕ) (r : Row) → r ≡ row_at u s i → i < length s → row_end r ≤ max_u64
  end-fits e i r q h = row-end (sound u s e) i r q h

  pub holder : (k i : ℕ) → i < length s → holds (row_at u s i) k ≡ true → Holder u s k i
  holder k i h e = record { within = h; low = holds-lo (row_at u s i) k e; high = holds-hi (row_at u s i) k e }

  pub holder-inside : (k i : ℕ) → Holder u s k i → i < length s
  holder-inside k i x = x.within

pub ruleset near = (end-fits, holder, tests)

pub ruleset writing = (origin-more, origins-all, some-rows, holder-inside)

-- frames that aren't refused
inside : (t f : ℕ) → frame_refusal t f ≡ Ok tt → f < t
inside t f e = leb-false t f (if-ok _ _ _ tt e).0

pub all-inside : (t : ℕ) (l : List ℕ) → first_refused (frame_refusal t) 0 l ≡ Ok tt
    → (k : ℕ) → k < length l → get_or l k 0 < t
all-inside t l e k h = inside t (get_or l k 0) (none-refused (frame_refusal t) 0 l 0 e k h)

pub ruleset answering = (all-inside, tests)

-- ---- what the calls give together
-- each frame of a map isn't refused
kept-all : (t : ℕ) (l : List ℕ) → AllInside t l → first_refused (frame_refusal t) 0 l ≡ Ok tt
kept-all t l h = refuses-none (frame_refusal t) 0 l 0 (λ k b. frame-kept t (get_or l k 0) (h k b))

-- a list that isn't refused
record Traced (u : List ℕ) (s : List ℤ) (l : List ℕ) (room : ℕ) : Type 0 where
  sound : Sound u s
  few : length s ≤ most_rows
  inside : AllInside (total (rows u s)) l
  fits : length l ≤ room

traced : (u : List ℕ) (s : List ℤ) (l : List ℕ) (room : ℕ) → origins_refusal u s l room ≡ Ok tt → Traced u s l room
traced u s l room e =
    let a = and-ok _ _ tt e in
    let b = if-ok _ _ _ tt a.1 in
    let c = and-ok _ _ tt b.1 in
    let d = if-ok _ _ _ tt c.1 in
    record {
      sound = sound u s a.0;
      few = ltb-false most_rows (length s) b.0;
      inside = all-inside (total (rows u s)) l c.0;
      fits = ltb-false room (length l) d.0;
    }

-- the same refusal, of an answer of another type
again : {w x : Refusal} → ◌≡◌ {A = Result Origin Refusal} (Err w) (Err x) → ◌≡◌ {A = Result ℕ Refusal} (Err w) (Err x)
again e = grind arith

module _ (u : List ℕ) (s : List ℤ) (l : List ℕ) (o : List Origin) where
  abbrev origins-of : List Origin
  origins-of = map (origin_at (rows u s)) l

  abbrev refusal : Result (Unit {0}) Refusal
  refusal = origins_refusal u s l (length o)

  as-many : length origins-of ≡ length l
  as-many = length-map l (origin_at (rows u s))

  -- what an answer wrote
  module _ {n : ℕ} {o' : List Origin} (p : Traces u s l o (Ok n) o') where
    none : refusal ≡ Ok tt
    none = (ok-of _ _ _ (sym p.answer)).0

    many : n ≡ length l
    many = sym (ok-of _ _ _ (sym p.answer)).1

    over : o' ≡ laid origins-of o
    over = p.origins ∙ ap (λ (x : Result (Unit {0}) Refusal). after x origins-of o) none

    can : Traced u s l (length o)
    can = traced u s l (length o) none

    each : (k : ℕ) (q : Result Origin Refusal) → k < length l → Trace u s (nth l k) q → q ≡ Ok (get_or o' k no_origin)
    each k q h t =
        let m = rows u s in
        let f = nth l k in
        let w = row-holder can.sound f (can.inside k h) in
        let g = origin-held can.sound f w.index w.holder in
        let got : get_or o' k no_origin ≡ origin_at m f =
        ap (λ (x : List Origin). get_or x k no_origin) over ∙ get_or-append origins-of (drop (length origins-of) o) no_origin k (omega (arith, as-many))
        ∙ get_or-map (origin_at m) l k 0 no_origin h in
        t ∙ ap (λ (x : Result (Unit {0}) Refusal). result_and x (traced_as (origin m f))) (origin-accepted u s f (sound-map u s can.sound) can.few (can.inside k h))
        ∙ ap traced_as g ∙ ap Ok (sym (got ∙ ap (λ (x : Option Origin). unwrap_or x no_origin) g))

    past : drop n o' ≡ drop n o
    past =
        let e : length origins-of ≡ n = as-many ∙ sym many in
        ap (drop n) over ∙ drop_at origins-of (drop (length origins-of) o) n e ∙ ap (λ (k : ℕ). drop k o) e

    long : length o' ≡ length o
    long = ap length over ∙ length-laid origins-of o (omega (arith, as-many, can.fits))

  kept : {why : Refusal} {o' : List Origin} → Traces u s l o (Err why) o' → o' ≡ o
  kept p = p.origins ∙ ap (λ (x : Result (Unit {0}) Refusal). after x origins-of o) (err-of _ _ _ (sym p.answer))

  leaves : (r : Result ℕ Refusal) (o' : List Origin) → Traces u s l o r o' → RoomAsLent r o o' × (length o' ≡ length o)
  leaves (Ok n) o' p = (past p, long p)
  leaves (Err why) o' p = (kept p, ap length (kept p))

  -- which answer it is
  module _ {r : Result ℕ Refusal} {o' : List Origin} (p : Traces u s l o r o') where
    map-refused : (f i : ℕ) (why : Reason) → (LentMap u s → ⊥) → Trace u s f (refused why i) → r ≡ refused why i
    map-refused f i why h t = by (map_refusal u s) refl
      where
        by : (x : Result (Unit {0}) Refusal) → map_refusal u s ≡ x → r ≡ refused why i
        by (Err x) e = (rw e at p.answer) ∙ sym (again (rw e at t))
        by (Ok x) e =
            decide (ltb most_rows (length s)) (λ g. (rw (e, g) at p.answer) ∙ sym (again (rw (e, g) at t)))
            (λ g. absurd (h (lent (sound u s e) (ltb-false most_rows (length s) g))))

    module _ (m : LentMap u s) where
      frame-refused : (k : ℕ) → k < length l → ((j : ℕ) → j < k → nth l j < total (rows u s)) → total (rows u s) ≤ nth l k
          → r ≡ refused reason.PastMap k
      frame-refused k h b g =
          let t = total (rows u s) in
          let e = first-refused (frame_refusal t) 0 l 0 k reason.PastMap h (λ j c. frame-kept t (nth l j) (b j c)) (past-refused t (nth l k) g) in
          let z : 0 + k ≡ k = omega arith in
          (rw (is-sound m, le-ltb most_rows (length s) m.few, e) at p.answer) ∙ ap (refused reason.PastMap) z

      module _ (b : AllInside (total (rows u s)) l) where
        room-refused : length o < length l → r ≡ refused reason.NoRoom 0
        room-refused h = rw (is-sound m, le-ltb most_rows (length s) m.few, kept-all (total (rows u s)) l b, lt-ltb (length o) (length l) h) at p.answer

        accepts : length l ≤ length o → r ≡ Ok (length l)
        accepts h = rw (is-sound m, le-ltb most_rows (length s) m.few, kept-all (total (rows u s)) l b, le-ltb (length o) (length l) h) at p.answer

pub lawful : OriginsLaws Traces Trace
lawful = record {
  each = λ u s fs out out' n k q p h t. each u s fs out p k q h t;
  many = λ u s fs out out' n p. many u s fs out p;
  leaves = λ u s fs out out' r p. leaves u s fs out r out' p;
  accepted = λ u s fs out out' n p. let c = can u s fs out p in (lent c.sound c.few, c.inside, c.fits);
  accepts = λ u s fs out out' r m b h p. accepts u s fs out p m b h;
  map_refused = λ u s fs out out' f i why r h t p. map-refused u s fs out p f i why h t;
  frame_refused = λ u s fs out out' k r m h b g p. frame-refused u s fs out p m k h b g;
  room_refused = λ u s fs out out' r m b h p. room-refused u s fs out p m b h;
}
