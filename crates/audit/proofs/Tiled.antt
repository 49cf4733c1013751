-- An accepted table's rows tile its frames, and each frame has one origin: by the theorems of table_rows, rows and
-- maps. Assumes nothing.
use Prim.Native.Nat.{ℕ, ◌+◌, ◌-◌, ◌*◌, ◌≤◌, ◌<◌}
use Rattle.std.proofs.lemmas.List.FromFn.{get_or-map-range_with_len}
use native.Mathlib.Nat.{zero-add}
use native.Mathlib.Omega.{arith}
use mathlib.Core.List.{List}
use mathlib.Core.Path.{◌≡◌, refl, sym, ◌∙◌, ap, ap₂, subst}
use mathlib.Core.Bool.{false}
use lib.IntN.{ℤ}
use lib.ListN.{length, take, drop, get_or, get_or-map}
use lib.Seq.{take_at}
use lib.Dec.{ltb}
use borrow.Author.Tests.{le-ltb}
use Rattle.std.specs.Prelude.{Result, Ok}
use Rattle.std.specs.Result.{result_and}
use Rattle.refusal.specs.declared.Refusal.{Refusal}
use Rattle.refusal.proofs.Chains.{ok-of}
use Rattle.slices.specs.Slices.{after}
use Rattle.rows.specs.declared.Row.{Row}
use Rattle.rows.specs.declared.Origin.{Origin}
use Rattle.rows.specs.Rows.{row_end, total, origin, origin_in, WellFormed}
use Rattle.rows.specs.Lent.{row_at, rows, words_of, shifts_of}
use Rattle.rows.proofs.Flat.{length-words, length-shifts, rows-flat}
use Rattle.rules.specs.Records.{Table, no_segment, segment}
use Rattle.rules.specs.Lookups.{ended, over_by, segment_of_frame}
use Rattle.rules.specs.Rules.{check_of}
use Rattle.rules.proofs.Answers.{then-rest}
use Rattle.rules.proofs.Accepted.{accepted}
use Rattle.rules.proofs.Holder.{Holds, holder}
use Rattle.table_rows.specs.Rows.{row_of, rows_of, rows_refusal, Rowed}
use Rattle.maps.specs.Answers.{traced_as, origin_refusal, Cut, Trace}
use Rattle.maps.specs.Laws.{LentMap}
use Rattle.audit.specs.Words.{table, map_written}
use Rattle.audit.specs.Claims.{Origins}
use Rattle.audit.proofs.Theorems.{Theorems}

-- the rows of a table of N frames, with room for them
room : (t : Table) (N : ℕ) (nu ns : ℕ) → Ok N ≡ check_of t → 5 * length t.segments ≤ nu → length t.segments ≤ ns
    → rows_refusal t nu ns ≡ Ok tt
unfolding rows_refusal
room t N nu ns e g h =
    let a : ltb nu (5 * length t.segments) ≡ false = le-ltb _ _ g in
    let b : ltb ns (length t.segments) ≡ false = le-ltb _ _ h in
    then-rest t _ (sym e) ∙ rw (a, b)

-- so many rows are answered
rows-of : (t : Table) (N : ℕ) (ou ou' : List ℕ) (os os' : List ℤ) (r : Result ℕ Refusal) → Ok N ≡ check_of t
    → 5 * length t.segments ≤ length ou → length t.segments ≤ length os
    → Rowed t ou os r ou' os' → r ≡ Ok (length t.segments)
rows-of t N ou ou' os os' r c g h p = p.answer ∙ ap (λ (x : Result (Unit {0}) Refusal). result_and x (Ok (length t.segments))) (room t N (length ou) (length os) c g h)

-- what was written is the rows of the table
module _ (by : Theorems) (t : Table) (N k : ℕ) (ou ou' : List ℕ) (os os' : List ℤ) (c : Ok N ≡ check_of t) (p : Rowed t ou os (Ok k) ou' os') where
  none : rows_refusal t (length ou) (length os) ≡ Ok tt
  none = (ok-of _ (length t.segments) k (sym p.answer)).0

  rows-count : k ≡ length (rows_of t)
  rows-count = sym (ok-of _ (length t.segments) k (sym p.answer)).1 ∙ sym (by.mapped t).each

  words_are : take (5 * k) ou' ≡ words_of (rows_of t)
  words_are =
      ap (take (5 * k)) (p.words ∙ ap (λ (y : Result (Unit {0}) Refusal). after y (words_of (rows_of t)) ou) none)
      ∙ take_at (words_of (rows_of t)) (drop (length (words_of (rows_of t))) ou) (5 * k) (length-words (rows_of t) ∙ ap (λ (n : ℕ). 5 * n) (sym rows-count))

  shifts-are : take k os' ≡ shifts_of (rows_of t)
  shifts-are =
      ap (take k) (p.shifts ∙ ap (λ (y : Result (Unit {0}) Refusal). after y (shifts_of (rows_of t)) os) none)
      ∙ take_at (shifts_of (rows_of t)) (drop (length (shifts_of (rows_of t))) os) k (length-shifts (rows_of t) ∙ sym rows-count)

  is : map_written k ou' os' ≡ rows_of t
  is = ap₂ rows words_are shifts-are ∙ rows-flat (rows_of t)

  well : WellFormed (map_written k ou' os')
  well = rw is ((by.mapped t).well N (sym c))

  frames : total (map_written k ou' os') ≡ N
  frames = ap total is ∙ (by.mapped t).frames N (sym c)

  lent : LentMap (take (5 * k) ou') (take k os')
  lent =
      let a = accepted t N (sym c) in
      let e = (by.mapped t).each in
      let nu = ap length words_are ∙ length-words (rows_of t) in
      let ns = ap length shifts-are ∙ length-shifts (rows_of t) in
      record { some = omega (arith, a.some-segments); sizes = omega arith; well = well; few = omega (arith, a.few-segments) }

-- the segment that a lookup of an accepted table answers
index_is : (t : Table) (N f i : ℕ) → Ok N ≡ check_of t → Ok i ≡ segment_of_frame t f → i ≡ ended (over_by f) t.segments
unfolding segment_of_frame
index_is t N f i c e = let q : ◌≡◌ {A = Result ℕ Refusal} (Ok i) (Ok (ended (over_by f) t.segments)) = e ∙ ap (λ (x : Result ℕ Refusal). result_and x (Ok (ended (over_by f) t.segments))) (sym c) in grind arith

-- an answer made of row j, where that is row i, and row i is x
made : (u : List ℕ) (s : List ℤ) (f i j : ℕ) (r : Result Origin Refusal) (x : Row) → i ≡ j → row_at u s i ≡ x
    → r ≡ Ok (origin_in (row_at u s j) f) → r ≡ Ok (origin_in x f)
made u s f i j r x e q g = g ∙ ap (λ (n : ℕ). Ok (origin_in (row_at u s n) f)) (sym e) ∙ ap (λ (y : Row). Ok (origin_in y f)) q

module _ (by : Theorems) (t : Table) (N k f i : ℕ) (ou ou' : List ℕ) (os os' : List ℤ) (r : Result Origin Refusal) (c : Ok N ≡ check_of t) (p : Rowed t ou os (Ok k) ou' os') (h : f < N)
    (e : Ok i ≡ segment_of_frame t f) (o : Trace (take (5 * k) ou') (take k os') f r) where
  here : Holds t f i
  here = subst (Holds t f) (sym (index_is t N f i c e)) (holder (accepted t N (sym c)) f h)

  inside : i < length (take k os')
  inside = omega (arith, here.exists, ap length (shifts-are by t N k ou ou' os os' c p) ∙ length-shifts (rows_of t) ∙ (by.mapped t).each)

  row_is : row_at (take (5 * k) ou') (take k os') i ≡ row_of (segment t i)
  unfolding rows_of
  row_is =
      sym (get_or-map-range_with_len (row_at (take (5 * k) ou') (take k os')) 0 (length (take k os')) i _ (row_of no_segment) inside refl ∙ ap (row_at (take (5 * k) ou') (take k os')) (zero-add i))
      ∙ ap (λ (x : List Row). get_or x i (row_of no_segment)) (is by t N k ou ou' os os' c p)
      ∙ get_or-map row_of t.segments i no_segment

  agreed : (i < length t.segments) × (r ≡ Ok (origin_in (row_of (segment t i)) f))
  unfolding row_of
  agreed =
      let m = lent by t N k ou ou' os os' c p in
      let w = by.laws.origin_found _ _ f r m (omega (arith, frames by t N k ou ou' os os' c p)) o in
      let j = w.only i inside (subst (λ (x : Row). x.out ≤ f) (sym row_is) here.from) (subst (λ (x : Row). f < row_end x) (sym row_is) here.to) in
      (here.exists, made (take (5 * k) ou') (take k os') f i w.index r (row_of (segment t i)) j row_is w.gives)

-- the same of a clip that was cut twice
module _ (by : Theorems) (t : Table) (N k m n a b c d f i : ℕ) (ou ou' pu pu' qu qu' : List ℕ) (os os' ps ps' qs qs' : List ℤ) (r : Result Origin Refusal) (ch : Ok N ≡ check_of t)
    (p : Rowed t ou os (Ok k) ou' os') (x : Cut (take (5 * k) ou') (take k os') a b pu ps (Ok m) pu' ps')
    (y : Cut (take (5 * m) pu') (take m ps') c d qu qs (Ok n) qu' qs') (h : f < d - c) (e : Ok i ≡ segment_of_frame t (a + (c + f)))
    (o : Trace (take (5 * n) qu') (take n qs') f r) where
  pub agreed-twice : (i < length t.segments) × (r ≡ Ok (origin_in (row_of (segment t i)) (a + (c + f))))
  agreed-twice =
      let gx = by.laws.cut_gives (take (5 * k) ou') (take k os') a b m pu pu' ps ps' x in
      let gy = by.laws.cut_gives (take (5 * m) pu') (take m ps') c d n qu qu' qs qs' y in
      let between : total (rows (take (5 * m) pu') (take m ps')) ≡ b - a = ap total gx.3.is ∙ gx.4 in
      let z = result_and (origin_refusal (take (5 * m) pu') (take m ps') (c + f)) (traced_as (origin (rows (take (5 * m) pu') (take m ps')) (c + f))) in
      let w = result_and (origin_refusal (take (5 * k) ou') (take k os') (a + (c + f))) (traced_as (origin (rows (take (5 * k) ou') (take k os')) (a + (c + f)))) in
      let in-first : c + f < b - a = omega (arith, gy.2) in
      let in_table : a + (c + f) < N = omega (arith, gx.2, frames by t N k ou ou' os os' ch p) in
      let first : r ≡ z = by.laws.cut_origins (take (5 * m) pu') (take m ps') c d n f qu qu' qs qs' r z y h o refl in
      let second : z ≡ w = by.laws.cut_origins (take (5 * k) ou') (take k os') a b m (c + f) pu pu' ps ps' z w x in-first refl refl in
      agreed by t N k (a + (c + f)) i ou ou' os os' r ch p in_table e (first ∙ second)

pub tiled : Theorems → Origins
tiled by = record {
  written_out = λ l N ou ou' os os' r c g h p. rows-of (table l) N ou ou' os os' r c g h p;
  tiles = λ l N k ou ou' os os' c p.
      let t = table l in
      (record { lent = lent by t N k ou ou' os os' c p; is = is by t N k ou ou' os os' c p }, (by.demands.tiles (map_written k ou' os') (well by t N k ou ou' os os' c p)).0, frames by t N k ou ou' os os' c p);
  one = λ l N k f ou ou' os os' r c p o.
      let t = frames by (table l) N k ou ou' os os' c p in
      let m = lent by (table l) N k ou ou' os os' c p in
      (λ h. by.laws.origin_found _ _ f r m (omega arith) o, λ h. by.laws.origin_past _ _ f r m (omega arith) o);
  twice = λ l N k m n a b c d f i ou ou' pu pu' qu qu' os os' ps ps' qs qs' r ch p x y h e o.
      agreed-twice by (table l) N k m n a b c d f i ou ou' pu pu' qu qu' os os' ps ps' qs qs' r ch p x y h e o;
  agree = λ l N k f i ou ou' os os' r c p h e o. agreed by (table l) N k f i ou ou' os os' r c p h e o;
}
