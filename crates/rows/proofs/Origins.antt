-- Where a frame lies, and the one row that holds it. Assumes nothing.
use Prim.Native.Nat.{ℕ, zero, suc, ◌+◌, ◌≤◌, ◌<◌}
use Rattle.std.proofs.lemmas.Bool.{and_parts}
use native.Mathlib.Omega.{arith}
use mathlib.Core.Bool.{true, false}
use mathlib.Core.List.{List, [], ◌∷◌}
use mathlib.Core.Logic.{◌⊎◌, inl, inr, ⊎_elim}
use mathlib.Core.Path.{◌≡◌, refl, ap}
use lib.Dec.{leb, ltb}
use lib.ListN.{length, get_or}
use borrow.Author.Tests.{lt-ltb, le-ltb, le-leb, lt-leb, ltb-true, leb-true}
use Rattle.std.specs.Prelude.{None, Some}
use Rattle.conditions.proofs.Tests.{le-or-lt, and-false}
use Rattle.rows.specs.declared.Row.{Row}
use Rattle.rows.specs.Rows.{row_end, holds, origin_in, origin, total}
use Rattle.rows.specs.Demands.{no_row, Tiles, OneRow}

-- rows are equal where their fields are
pub row-eq : (r s : Row) → r.source ≡ s.source → r.first ≡ s.first → r.count ≡ s.count → r.out ≡ s.out → r.flag ≡ s.flag
    → r.shift ≡ s.shift → r ≡ s
row-eq r s p q u v w z = λ i. record { source = p i; first = q i; count = u i; out = v i; flag = w i; shift = z i }

-- a frame is inside a row, before it or after it
pub holds-in : (r : Row) (k : ℕ) → r.out ≤ k → k < row_end r → holds r k ≡ true
holds-in r k h l = simp (le-leb r.out k h, lt-ltb k (row_end r) l)

pub holds-before : (r : Row) (k : ℕ) → k < r.out → holds r k ≡ false
holds-before r k h = simp (lt-leb r.out k h)

pub holds_after : (r : Row) (k : ℕ) → row_end r ≤ k → holds r k ≡ false
holds_after r k h = simp (le-ltb k (row_end r) h, and-false)

-- what a test of a row tells
pub holds-lo : (r : Row) (k : ℕ) → holds r k ≡ true → r.out ≤ k
holds-lo r k e = leb-true r.out k (and_parts (leb r.out k) (ltb k (row_end r)) e).0

pub holds-hi : (r : Row) (k : ℕ) → holds r k ≡ true → k < row_end r
holds-hi r k e = ltb-true k (row_end r) (and_parts (leb r.out k) (ltb k (row_end r)) e).1

pub data Place (r : Row) (k : ℕ) : Type 0 where
  inside : r.out ≤ k → k < row_end r → Place r k
  before : k < r.out → Place r k
  after : row_end r ≤ k → Place r k

pub place : (r : Row) (k : ℕ) → Place r k
place r k =
    ⊎_elim (λ (h : r.out ≤ k). ⊎_elim (λ (l : row_end r ≤ k). after l) (λ (l : k < row_end r). inside h l) (le-or-lt (row_end r) k))
    (λ (h : k < r.out). before h)
    (le-or-lt r.out k)

-- the origin by where the frame lies
pub origin-first : (r : Row) (m : List Row) (p k : ℕ) → Tiles p (r ∷ m) → p ≤ k → k < p + r.count
    → origin (r ∷ m) k ≡ Some (origin_in r k)
origin-first r m p k t l u = rw (holds-in r k (omega (arith, t.0)) (omega (arith, t.0)))

pub origin-rest : (r : Row) (m : List Row) (k : ℕ) → row_end r ≤ k → origin (r ∷ m) k ≡ origin m k
origin-rest r m k l = rw (holds_after r k l)

pub origin_past : (m : List Row) (p k : ℕ) → Tiles p m → p + total m ≤ k → origin m k ≡ None
origin_past [] p k t h = refl
origin_past (r ∷ m) p k t h = rw (holds_after r k (omega (arith, t.0))) (origin_past m (p + r.count) k t.2 (omega arith))

-- no row from p on holds an earlier frame
tiles-after : (m : List Row) (p k j : ℕ) → Tiles p m → k < p → j < length m → holds (get_or m j no_row) k ≡ true → ⊥
tiles-after [] p k j t h l e = absurd (omega arith)
tiles-after (r ∷ m) p k zero t h l e = let z = holds-lo r k e in omega (arith, t.0)
tiles-after (r ∷ m) p k (suc j) t h l e = tiles-after m (p + r.count) k j t.2 (omega arith) (omega arith) e

pub one-row-from : (m : List Row) (p k : ℕ) → Tiles p m → p ≤ k → k < p + total m → OneRow m k
one-row-from [] p k t l h = absurd (omega arith)
one-row-from (r ∷ m) p k t l h = go (le-or-lt (row_end r) k) (λ q. one-row-from m (p + r.count) k t.2 q (omega arith))
  where
    first : k < row_end r → holds r k ≡ true
    first u = holds-in r k (omega (arith, t.0)) u

    only-first : k < row_end r → (j : ℕ) → j < length (r ∷ m) → holds (get_or (r ∷ m) j no_row) k ≡ true → j ≡ 0
    only-first u zero b e = refl
    only-first u (suc j) b e = absurd (tiles-after m (p + r.count) k j t.2 (omega (arith, t.0)) (omega arith) e)

    later : row_end r ≤ k → (i : ℕ) → ((j : ℕ) → j < length m → holds (get_or m j no_row) k ≡ true → j ≡ i)
        → (j : ℕ) → j < length (r ∷ m) → holds (get_or (r ∷ m) j no_row) k ≡ true → j ≡ suc i
    later u i f zero b e = let z = holds-hi r k e in absurd (omega arith)
    later u i f (suc j) b e = ap suc (f j (omega arith) e)

    go : (row_end r ≤ k) ⊎ (k < row_end r) → (p + r.count ≤ k → OneRow m k) → OneRow (r ∷ m) k
    go (inl u) ih =
        let i = ih (omega (arith, t.0)) in
        record {
          index = suc i.index;
          within = omega (arith, i.within);
          here = i.here;
          only = later u i.index i.only;
          gives = rw (holds_after r k u) i.gives;
        }
    go (inr u) ih = record { index = 0; within = omega arith; here = first u; only = only-first u; gives = rw (first u) }
