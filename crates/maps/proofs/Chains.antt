-- Chains of refusals: what it says that none of them refused, and what each call's chain gives. Assumes nothing.
use Rattle.std.proofs.Common.{◌≡◌, ℕ, suc, ◌+◌, ◌*◌, ◌<◌, ◌≤◌, true, false, ◌&&◌, eqb, ltb, leb, List, [], ◌∷◌, length, ℤ, refl, sym, ◌∙◌, arith, ltb-false, ltb-true, le-ltb, lt-ltb, eq-eqb, eqb-true, le-leb, leb-false, leb-true}
use Rattle.std.proofs.lemmas.Bool.{and_parts}
use Rattle.std.proofs.lemmas.List.FromFn.{length-map-range_with_len}
use borrow.Author.Tests.{lt-leb, not-false}
use Rattle.std.specs.Prelude.{Ok}
use Rattle.std.specs.Result.{result_and}
use Rattle.conditions.specs.Conditions.{past, max_u64}
use Rattle.conditions.proofs.Sums.{past-not, not-past}
use Rattle.refusal.specs.declared.Reason.TheVariants as reason
use Rattle.refusal.specs.Refusals.{refused}
use Rattle.refusal.proofs.Chains.{if-ok, and-ok, ok-of}
use Rattle.rows.specs.declared.Row.{Row}
use Rattle.rows.specs.Rows.{total, ok_row, WellFrom, cut, join, merge}
use Rattle.rows.proofs.Demanded.{demanded}
use Rattle.rows.specs.Lent.{row_at, rows}
use Rattle.maps.specs.declared.FrameMap.{FrameMap}
use Rattle.maps.specs.Answers.{most_rows, sized, first_bad, map_refusal, fits, room_refusal, cut_refusal, join_refusal, merge_refusal, origin_refusal}
use Rattle.maps.specs.Spans.{Sound}
use Rattle.maps.specs.Laws.{LentMap}

-- 51
first-well : (m : List Row) (p i : ℕ) → first_bad p i m ≡ Ok tt → WellFrom p m
unfolding first_bad
first-well [] p i e = tt
first-well (r ∷ m) p i e = let o = if-ok _ _ _ tt e in (not-false (ok_row p r) o.0, first-well m (p + r.count) (suc i) o.1)

well-first : (m : List Row) (p i : ℕ) → WellFrom p m → first_bad p i m ≡ Ok tt
unfolding first_bad
well-first [] p i w = refl
well-first (r ∷ m) p i w = rw w.0 (well-first m (p + r.count) (suc i) w.1)

pub sound : (u : List ℕ) (s : List ℤ) → map_refusal u s ≡ Ok tt → Sound u s
sound u s e =
    let o = if-ok _ _ _ tt e in
    let z = not-false (sized (length u) (length s)) o.0 in
    record {
      some = ltb-true 0 (length s) (and_parts (ltb 0 (length s)) (eqb (length u) (5 * length s)) z).0;
      sizes = eqb-true (length u) (5 * length s) (and_parts (ltb 0 (length s)) (eqb (length u) (5 * length s)) z).1;
      well = first-well (rows u s) 0 0 o.1;
    }

pub lengths : (u : List ℕ) (s : List ℤ) → map_refusal u s ≡ Ok tt → length u ≡ 5 * length s
lengths u s e = (sound u s e).sizes

pub some-rows : (u : List ℕ) (s : List ℤ) → map_refusal u s ≡ Ok tt → 0 < length s
some-rows u s e = (sound u s e).some

-- a map that was tested
pub kept : (map : FrameMap) → Sound map.words.now map.shifts.now
kept map = sound _ _ map.tested

-- what an accepted map's frames say
pub accepted-frames : (u : List ℕ) (s : List ℤ) {d : ℕ} → Ok d ≡ result_and (map_refusal u s) (Ok (total (rows u s)))
    → Sound u s × (map_refusal u s ≡ Ok tt) × (total (rows u s) ≡ d)
accepted-frames u s {d} e = let o = ok-of (map_refusal u s) (total (rows u s)) d (sym e) in (sound u s o.0, o.0, o.1)

pub sound-map : (u : List ℕ) (s : List ℤ) → Sound u s → map_refusal u s ≡ Ok tt
sound-map u s o =
    let z : sized (length u) (length s) ≡ true = rw (lt-ltb 0 (length s) o.some) (eq-eqb (length u) (5 * length s) o.sizes) in
    rw z (well-first (rows u s) 0 0 o.well)

-- a lent map that no call refuses for itself
pub lent : {u : List ℕ} {s : List ℤ} → Sound u s → length s ≤ most_rows → LentMap u s
lent m few = record { some = m.some; sizes = m.sizes; well = m.well; few = few }

pub sound-lent : {u : List ℕ} {s : List ℤ} → LentMap u s → Sound u s
sound-lent l = record { some = l.some; sizes = l.sizes; well = l.well }

pub is-sound : {u : List ℕ} {s : List ℤ} → LentMap u s → map_refusal u s ≡ Ok tt
is-sound l = sound-map _ _ (sound-lent l)

-- what is lent has room
pub record Fits (k nu ns : ℕ) : Type 0 where
  pub few : k ≤ most_rows
  pub words : 5 * k ≤ nu
  pub shifts : k ≤ ns

pub fits-facts : (k nu ns : ℕ) → fits k nu ns ≡ true → Fits k nu ns
fits-facts k nu ns e =
    let a = leb k most_rows in
    let b = leb (5 * k) nu in
    let c = leb k ns in
    let e₁ = (and_parts (a && b) c e).0 in
    record {
      few = leb-true k most_rows (and_parts a b e₁).0;
      words = leb-true (5 * k) nu (and_parts a b e₁).1;
      shifts = leb-true k ns (and_parts (a && b) c e).1;
    }

pub facts-fit : (k nu ns : ℕ) → Fits k nu ns → fits k nu ns ≡ true
facts-fit k nu ns f = simp (le-leb k most_rows f.few, le-leb (5 * k) nu f.words, le-leb k ns f.shifts)

pub too_many : (k nu ns : ℕ) → most_rows < k → fits k nu ns ≡ false
too_many k nu ns h = rw (lt-leb k most_rows h)

pub room-unrefused : (k nu ns : ℕ) → room_refusal k nu ns ≡ Ok tt → Fits k nu ns
room-unrefused k nu ns e = fits-facts k nu ns (not-false (fits k nu ns) (if-ok _ _ _ tt e).0)

pub room-on : (k nu ns : ℕ) → fits k nu ns ≡ false → room_refusal k nu ns ≡ refused reason.RowsDontFit 0
room-on k nu ns e = rw e

pub room-off : (k nu ns : ℕ) → fits k nu ns ≡ true → room_refusal k nu ns ≡ Ok tt
room-off k nu ns e = rw e

-- the chain of a cut
module _ (u : List ℕ) (s : List ℤ) (a b nu ns : ℕ) (e : map_refusal u s ≡ Ok tt) (few : length s ≤ most_rows) where
  pub cut-empty : b ≤ a → cut_refusal u s a b nu ns ≡ refused reason.BadRange 0
  cut-empty h = rw (e, le-ltb most_rows (length s) few, le-leb b a h)

  pub cut-room : a < b → b ≤ total (rows u s)
      → cut_refusal u s a b nu ns ≡ room_refusal (length (cut a b (rows u s))) nu ns
  cut-room h l = rw (e, le-ltb most_rows (length s) few, lt-leb b a h, le-ltb (total (rows u s)) b l)

-- a cut that isn't refused
pub record Cuttable (u : List ℕ) (s : List ℤ) (a b nu ns : ℕ) : Type 0 where
  pub sound : Sound u s
  pub few : length s ≤ most_rows
  pub some : a < b
  pub inside : b ≤ total (rows u s)
  pub room : Fits (length (cut a b (rows u s))) nu ns

pub cut-unrefused : (u : List ℕ) (s : List ℤ) (a b nu ns : ℕ) → cut_refusal u s a b nu ns ≡ Ok tt
    → Cuttable u s a b nu ns
cut-unrefused u s a b nu ns e =
    let e₀ = and-ok _ _ tt e in
    let e₁ = if-ok _ _ _ tt e₀.1 in
    let e₂ = if-ok _ _ _ tt e₁.1 in
    let e₃ = if-ok _ _ _ tt e₂.1 in
    record {
      sound = sound u s e₀.0;
      few = ltb-false most_rows (length s) e₁.0;
      some = leb-false b a e₂.0;
      inside = ltb-false (total (rows u s)) b e₃.0;
      room = room-unrefused (length (cut a b (rows u s))) nu ns e₃.1;
    }

pub cut-accepted : (u : List ℕ) (s : List ℤ) (a b nu ns : ℕ) → Cuttable u s a b nu ns
    → cut_refusal u s a b nu ns ≡ Ok tt
cut-accepted u s a b nu ns o =
    cut-room u s a b nu ns (sound-map u s o.sound) o.few o.some o.inside
    ∙ room-off (length (cut a b (rows u s))) nu ns (facts-fit (length (cut a b (rows u s))) nu ns o.room)

-- the chain of a merge
module _ (u : List ℕ) (s : List ℤ) (nu ns : ℕ) (e : map_refusal u s ≡ Ok tt) (few : length s ≤ most_rows) where
  pub merge-room : merge_refusal u s nu ns ≡ room_refusal (length (merge (rows u s))) nu ns
  merge-room = rw (e, le-ltb most_rows (length s) few)

  -- room for all of the map's rows is room for the merged ones
  pub merge-roomy : fits (length s) nu ns ≡ true → merge_refusal u s nu ns ≡ Ok tt
  merge-roomy h =
      let f = fits-facts (length s) nu ns h in
      let l = demanded.merge_rows (rows u s) in
      let n = length-map-range_with_len (row_at u s) 0 (length s) in
      let k = length (merge (rows u s)) in
      merge-room ∙ room-off k nu ns (facts-fit k nu ns (record { few = omega (arith, f.few); words = omega (arith, f.words); shifts = omega (arith, f.shifts) }))

pub record Mergeable (u : List ℕ) (s : List ℤ) (nu ns : ℕ) : Type 0 where
  pub sound : Sound u s
  pub few : length s ≤ most_rows
  pub room : Fits (length (merge (rows u s))) nu ns

pub merge-unrefused : (u : List ℕ) (s : List ℤ) (nu ns : ℕ) → merge_refusal u s nu ns ≡ Ok tt → Mergeable u s nu ns
merge-unrefused u s nu ns e =
    let e₀ = and-ok _ _ tt e in
    let e₁ = if-ok _ _ _ tt e₀.1 in
    record { sound = sound u s e₀.0; few = ltb-false most_rows (length s) e₁.0; room = room-unrefused (length (merge (rows u s))) nu ns e₁.1 }

pub merge-accepted : (u : List ℕ) (s : List ℤ) (nu ns : ℕ) → Mergeable u s nu ns → merge_refusal u s nu ns ≡ Ok tt
merge-accepted u s nu ns o =
    merge-room u s nu ns (sound-map u s o.sound) o.few ∙ room-off (length (merge (rows u s))) nu ns (facts-fit (length (merge (rows u s))) nu ns o.room)

-- the chain of a join
module _ (u : List ℕ) (s : List ℤ) (v : List ℕ) (t : List ℤ) (nu ns : ℕ) where
  pub join-room : map_refusal u s ≡ Ok tt → map_refusal v t ≡ Ok tt → length s ≤ most_rows → length t ≤ most_rows
      → past (total (rows u s)) (total (rows v t)) max_u64 ≡ false
      → join_refusal u s v t nu ns ≡ room_refusal (length (join (rows u s) (rows v t))) nu ns
  join-room e f few few-second h = rw (e, f, le-ltb most_rows (length s) few, le-ltb most_rows (length t) few-second, h)

pub record Joinable (u : List ℕ) (s : List ℤ) (v : List ℕ) (t : List ℤ) (nu ns : ℕ) : Type 0 where
  pub first : Sound u s
  pub second : Sound v t
  pub few : length s ≤ most_rows
  pub few-second : length t ≤ most_rows
  pub short : total (rows u s) + total (rows v t) ≤ max_u64
  pub room : Fits (length (join (rows u s) (rows v t))) nu ns

pub join-unrefused : (u : List ℕ) (s : List ℤ) (v : List ℕ) (t : List ℤ) (nu ns : ℕ)
    → join_refusal u s v t nu ns ≡ Ok tt → Joinable u s v t nu ns
join-unrefused u s v t nu ns e =
    let e₀ = and-ok _ _ tt e in
    let e₁ = and-ok _ _ tt e₀.1 in
    let e₂ = if-ok _ _ _ tt e₁.1 in
    let e₃ = if-ok _ _ _ tt e₂.1 in
    let e₄ = if-ok _ _ _ tt e₃.1 in
    record {
      first = sound u s e₀.0;
      second = sound v t e₁.0;
      few = ltb-false most_rows (length s) e₂.0;
      few-second = ltb-false most_rows (length t) e₃.0;
      short = past-not (total (rows u s)) (total (rows v t)) max_u64 e₄.0;
      room = room-unrefused (length (join (rows u s) (rows v t))) nu ns e₄.1;
    }

pub join-accepted : (u : List ℕ) (s : List ℤ) (v : List ℕ) (t : List ℤ) (nu ns : ℕ) → Joinable u s v t nu ns
    → join_refusal u s v t nu ns ≡ Ok tt
join-accepted u s v t nu ns o =
    join-room u s v t nu ns (sound-map u s o.first) (sound-map v t o.second) o.few o.few-second (not-past (total (rows u s)) (total (rows v t)) max_u64 o.short)
    ∙ room-off (length (join (rows u s) (rows v t))) nu ns (facts-fit (length (join (rows u s) (rows v t))) nu ns o.room)

-- the chain of an origin
module _ (u : List ℕ) (s : List ℤ) (k : ℕ) (e : map_refusal u s ≡ Ok tt) (few : length s ≤ most_rows) where
  pub origin-beyond : total (rows u s) ≤ k → origin_refusal u s k ≡ refused reason.PastMap 0
  origin-beyond h = rw (e, le-ltb most_rows (length s) few, le-leb (total (rows u s)) k h)

  pub origin-accepted : k < total (rows u s) → origin_refusal u s k ≡ Ok tt
  origin-accepted h = rw (e, le-ltb most_rows (length s) few, lt-leb (total (rows u s)) k h)
