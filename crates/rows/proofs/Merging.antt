-- Merging: origins, tiling, frames and rows; two maps merge to the same rows exactly when their origins agree. Assumes
-- nothing.
use Prim.Native.Nat.{ℕ, suc, ◌+◌, ◌-◌, ◌≤◌, ◌<◌}
use Rattle.std.proofs.lemmas.Bool.{and_parts}
use Rattle.std.proofs.lemmas.Bool.Decides.{Decides-int_eq}
use Rattle.std.specs.Ordering.{int_eq}
use native.Mathlib.Omega.{arith}
use native.Mathlib.Nat.{add_assoc}
use mathlib.Core.Bool.{true, false, ◌&&◌}
use mathlib.Core.List.{List, [], ◌∷◌}
use mathlib.Core.Logic.{◌⊎◌, inl, inr, ◌↔◌}
use mathlib.Core.Path.{◌≡◌, refl, sym, ◌∙◌, ap}
use lib.Dec.{eqb}
use lib.ListN.{length}
use borrow.Author.Tests.{eq-eqb, eqb-true}
use Rattle.std.specs.Prelude.{Some}
use Rattle.conditions.proofs.Tests.{Test, was, wasnt, test, le-or-lt}
use Rattle.rows.specs.declared.Row.{Row}
use Rattle.rows.specs.declared.Origin.{Origin}
use Rattle.rows.specs.Rows.{origin_in, origin, total, runs_on, glue, merge_into, merge}
use Rattle.rows.specs.Demands.{Tiles}
use Rattle.rows.proofs.Origins.{row-eq, holds-in, holds-before, holds_after, Place, inside, before, after, place, origin-first, origin-rest}

-- row s goes on where row r ends, as equations
pub record RunsOn (r s : Row) : Type 0 where
  pub source : r.source ≡ s.source
  pub first : r.first + r.count ≡ s.first
  pub flag : r.flag ≡ s.flag
  pub shift : r.shift ≡ s.shift

pub runs_on-true : (r s : Row) → runs_on r s ≡ true → RunsOn r s
runs_on-true r s e =
    let p = eqb r.source s.source in
    let q = eqb (r.first + r.count) s.first in
    let u = eqb r.flag s.flag in
    let v = int_eq r.shift s.shift in
    let e₁ = (and_parts (p && q && u) v e).0 in
    let e₂ = (and_parts (p && q) u e₁).0 in
    record {
      source = eqb-true r.source s.source (and_parts p q e₂).0;
      first = eqb-true (r.first + r.count) s.first (and_parts p q e₂).1;
      flag = eqb-true r.flag s.flag (and_parts (p && q) u e₁).1;
      shift = (Decides-int_eq r.shift s.shift).0 (and_parts (p && q && u) v e).1;
    }

runs-on-yes : (r s : Row) → RunsOn r s → runs_on r s ≡ true
runs-on-yes r s o = simp (eq-eqb r.source s.source o.source, eq-eqb (r.first + r.count) s.first o.first, eq-eqb r.flag s.flag o.flag, o.shift, (Decides-int_eq s.shift s.shift).1 refl)

glue-origin : (c r : Row) (m : List Row) (p k : ℕ) → Tiles p (c ∷ r ∷ m) → RunsOn c r
    → origin (glue c r ∷ m) k ≡ origin (c ∷ r ∷ m) k
glue-origin c r m p k t o = go (place c k) (place r k)
  where
    same : c.out ≤ k → c.out + c.count ≤ k → origin_in (glue c r) k ≡ origin_in r k
    same l u =
        let e : c.first + (k - c.out) ≡ r.first + (k - r.out) = omega (arith, t.0, t.2.0, o.first) in
        cc (o.source, o.flag, o.shift)

    go : Place c k → Place r k → origin (glue c r ∷ m) k ≡ origin (c ∷ r ∷ m) k
    go (inside l u) w = rw (holds-in (glue c r) k l (omega arith), holds-in c k l u)
    go (before u) (inside a b) = absurd (omega (arith, t.0, t.2.0))
    go (before u) (before v) = rw (holds-before (glue c r) k u, holds-before c k u, holds-before r k v)
    go (before u) (after v) = absurd (omega (arith, t.0, t.2.0))
    go (after u) (inside a b) = rw (holds-in (glue c r) k (omega arith) (omega (arith, t.0, t.2.0)), holds_after c k u, holds-in r k a b, same (omega arith) u)
    go (after u) (before v) = absurd (omega (arith, t.0, t.2.0))
    go (after u) (after v) = rw (holds_after (glue c r) k (omega (arith, t.0, t.2.0)), holds_after c k u, holds_after r k v)

glue-tiles : (c r : Row) (m : List Row) (p : ℕ) → Tiles p (c ∷ r ∷ m) → Tiles p (glue c r ∷ m)
glue-tiles c r m p t = (t.0, omega (arith, t.1), rw (sym (add_assoc p c.count r.count)) t.2.2)

pub merge_into-origin : (m : List Row) (c : Row) (p k : ℕ) → Tiles p (c ∷ m)
    → origin (merge_into c m) k ≡ origin (c ∷ m) k
merge_into-origin [] c p k t = refl
merge_into-origin (r ∷ m) c p k t = go (test (runs_on c r)) (merge_into-origin m (glue c r) p k) (merge_into-origin m r (p + c.count) k)
  where
    go : Test (runs_on c r) → (Tiles p (glue c r ∷ m) → origin (merge_into (glue c r) m) k ≡ origin (glue c r ∷ m) k)
        → (Tiles (p + c.count) (r ∷ m) → origin (merge_into r m) k ≡ origin (r ∷ m) k)
        → origin (merge_into c (r ∷ m)) k ≡ origin (c ∷ r ∷ m) k
    go (was e) f g = rw e (f (glue-tiles c r m p t) ∙ glue-origin c r m p k t (runs_on-true c r e))
    go (wasnt e) f g = rw (e, g t.2)

pub merge_into-tiles : (m : List Row) (c : Row) (p : ℕ) → Tiles p (c ∷ m) → Tiles p (merge_into c m)
merge_into-tiles [] c p t = t
merge_into-tiles (r ∷ m) c p t = go (test (runs_on c r)) (merge_into-tiles m (glue c r) p) (merge_into-tiles m r (p + c.count))
  where
    go : Test (runs_on c r) → (Tiles p (glue c r ∷ m) → Tiles p (merge_into (glue c r) m))
        → (Tiles (p + c.count) (r ∷ m) → Tiles (p + c.count) (merge_into r m))
        → Tiles p (merge_into c (r ∷ m))
    go (was e) f g = rw e (f (glue-tiles c r m p t))
    go (wasnt e) f g = rw e (t.0, t.1, g t.2)

pub merge_into-total : (m : List Row) (c : Row) → total (merge_into c m) ≡ c.count + total m
merge_into-total [] c = refl
merge_into-total (r ∷ m) c = go (test (runs_on c r)) (merge_into-total m (glue c r)) (merge_into-total m r)
  where
    go : Test (runs_on c r) → total (merge_into (glue c r) m) ≡ c.count + r.count + total m
        → total (merge_into r m) ≡ r.count + total m
        → total (merge_into c (r ∷ m)) ≡ c.count + total (r ∷ m)
    go (was e) f g = rw e (omega arith)
    go (wasnt e) f g = rw (e, g)

-- no row of m continues the one before it, row c before the first
abbrev Apart : Row → List Row → Type 0
Apart c [] = Unit
Apart c (r ∷ m) = (runs_on c r ≡ false) × Apart r m

-- a merged list begins with the row that it grew from, and its rows are apart
record Grown (c : Row) (l : List Row) : Type 0 where
  head : Row
  tail : List Row
  is : l ≡ head ∷ tail
  source : head.source ≡ c.source
  first : head.first ≡ c.first
  flag : head.flag ≡ c.flag
  shift : head.shift ≡ c.shift
  apart : Apart head tail

grown : (m : List Row) (c : Row) → Grown c (merge_into c m)
grown [] c = record { head = c; tail = []; is = refl; source = refl; first = refl; flag = refl; shift = refl; apart = tt }
grown (r ∷ m) c = go (test (runs_on c r)) (grown m (glue c r)) (grown m r)
  where
    go : Test (runs_on c r) → Grown (glue c r) (merge_into (glue c r) m) → Grown r (merge_into r m)
        → Grown c (merge_into c (r ∷ m))
    go (was e) f g = record { head = f.head; tail = f.tail; is = rw e f.is; source = f.source; first = f.first; flag = f.flag; shift = f.shift; apart = f.apart }
    go (wasnt e) f g =
        record {
          head = c;
          tail = merge_into r m;
          is = rw e;
          source = refl;
          first = refl;
          flag = refl;
          shift = refl;
          apart = rw g.is (rw (g.source, g.first, g.flag, g.shift) e, g.apart);
        }

-- two rows that give frame k the same origin
record Alike (c d : Row) (k : ℕ) : Type 0 where
  source : c.source ≡ d.source
  first : c.first + (k - c.out) ≡ d.first + (k - d.out)
  flag : c.flag ≡ d.flag
  shift : c.shift ≡ d.shift

alike : (c d : Row) (k : ℕ) → Some (origin_in c k) ≡ Some (origin_in d k) → Alike c d k
alike c d k e = record { source = grind arith; first = grind arith; flag = grind arith; shift = grind arith }

SameFrom : ℕ → List Row → List Row → Type 0
SameFrom p m l = (k : ℕ) → p ≤ k → k < p + total m → origin m k ≡ origin l k

-- a merged map whose first row is shorter gives another origin to the frame after that row
shorter : (m l : List Row) (c d : Row) (p : ℕ) → Tiles p (c ∷ m) → Tiles p (d ∷ l) → Apart c m
    → total (c ∷ m) ≡ total (d ∷ l) → SameFrom p (c ∷ m) (d ∷ l) → Alike c d p → c.count < d.count → ⊥
unfolding SameFrom
shorter [] l c d p t v a e f s h = omega arith
shorter (r ∷ m) l c d p t v a e f s h =
    let k = p + c.count in
    let o : Some (origin_in r k) ≡ Some (origin_in d k) =
    sym (origin-first r m k k t.2 (omega arith) (omega (arith, t.2.1)))
    ∙ sym (origin-rest c (r ∷ m) k (omega (arith, t.0)))
    ∙ f k (omega arith) (omega (arith, t.2.1))
    ∙ origin-first d l p k v (omega arith) (omega arith) in
    let w = alike r d k o in
    let y : RunsOn c r = record { source = cc (s.source, w.source); first = omega (arith, s.first, w.first, t.0, t.2.0, v.0); flag = cc (s.flag, w.flag); shift = cc (s.shift, w.shift) } in
    let z : ◌≡◌ {A = ℕ} 0 1 = cc (runs-on-yes c r y, a.0) in
    omega arith

same_first : (m l : List Row) (c d : Row) (p : ℕ) → Tiles p (c ∷ m) → Tiles p (d ∷ l) → SameFrom p (c ∷ m) (d ∷ l)
    → Alike c d p
unfolding SameFrom
same_first m l c d p t v f =
    alike c d p (sym (origin-first c m p p t (omega arith) (omega (arith, t.1))) ∙ f p (omega arith) (omega (arith, t.1)) ∙ origin-first d l p p v (omega arith) (omega (arith, v.1)))

same_rest : (m l : List Row) (c d : Row) (p : ℕ) → Tiles p (c ∷ m) → Tiles p (d ∷ l) → c.count ≡ d.count
    → SameFrom p (c ∷ m) (d ∷ l) → SameFrom (p + c.count) m l
unfolding SameFrom
same_rest m l c d p t v e f k lo hi =
    sym (origin-rest c m k (omega (arith, t.0))) ∙ f k (omega arith) (omega arith) ∙ origin-rest d l k (omega (arith, v.0))

same-sym : (m l : List Row) (p : ℕ) → total m ≡ total l → SameFrom p m l → SameFrom p l m
unfolding SameFrom
same-sym m l p e f k lo hi = sym (f k lo (omega arith))

module _ (m l : List Row) (c d : Row) (p : ℕ) (t : Tiles p (c ∷ m)) (v : Tiles p (d ∷ l)) (a : Apart c m) (b : Apart d l) (e : total (c ∷ m) ≡ total (d ∷ l)) (f : SameFrom p (c ∷ m) (d ∷ l)) where
  same_count : c.count ≡ d.count
  same_count = go (le-or-lt c.count d.count) (le-or-lt d.count c.count)
    where
      go : (c.count ≤ d.count) ⊎ (d.count < c.count) → (d.count ≤ c.count) ⊎ (c.count < d.count) → c.count ≡ d.count
      go (inl x) (inl y) = omega arith
      go (inl x) (inr y) = absurd (shorter m l c d p t v a e f (same_first m l c d p t v f) y)
      go (inr x) y = let g = same-sym (c ∷ m) (d ∷ l) p e f in absurd (shorter l m d c p v t b (sym e) g (same_first l m d c p v t g) x)

  same_row : c ≡ d
  same_row =
      let s = same_first m l c d p t v f in
      row-eq c d s.source (omega (arith, s.first, t.0, v.0)) same_count (omega (arith, t.0, v.0)) s.flag s.shift

merged-unique : (m l : List Row) (c d : Row) (p : ℕ) → Tiles p (c ∷ m) → Tiles p (d ∷ l) → Apart c m → Apart d l
    → total (c ∷ m) ≡ total (d ∷ l) → SameFrom p (c ∷ m) (d ∷ l) → c ∷ m ≡ d ∷ l
merged-unique [] [] c d p t v a b e f = cc (same_row [] [] c d p t v a b e f)
merged-unique [] (s ∷ l) c d p t v a b e f = absurd (omega (arith, same_count [] (s ∷ l) c d p t v a b e f, v.2.1))
merged-unique (r ∷ m) [] c d p t v a b e f = absurd (omega (arith, same_count (r ∷ m) [] c d p t v a b e f, t.2.1))
merged-unique (r ∷ m) (s ∷ l) c d p t v a b e f =
    let n = same_count (r ∷ m) (s ∷ l) c d p t v a b e f in
    cc (
      same_row (r ∷ m) (s ∷ l) c d p t v a b e f,
      merged-unique m l r s (p + c.count) t.2 (rw n v.2) a.1 b.1 (omega arith) (same_rest (r ∷ m) (s ∷ l) c d p t v n f),
    )

pub same-origins : (m l : List Row) → Tiles 0 m → Tiles 0 l → total m ≡ total l
    → ((k : ℕ) → k < total m → origin m k ≡ origin l k) → merge m ≡ merge l
unfolding SameFrom
same-origins [] [] t v e f = refl
same-origins [] (d ∷ l) t v e f = absurd (omega (arith, v.1))
same-origins (c ∷ m) [] t v e f = absurd (omega (arith, t.1))
same-origins (c ∷ m) (d ∷ l) t v e f =
    let g = grown m c in
    let h = grown l d in
    let o : SameFrom 0 (g.head ∷ g.tail) (h.head ∷ h.tail) = λ k lo hi.
    ap (λ (x : List Row). origin x k) (sym g.is)
    ∙ merge_into-origin m c 0 k t
    ∙ f k (omega (arith, ap total g.is, merge_into-total m c))
    ∙ sym (merge_into-origin l d 0 k v)
    ∙ ap (λ (x : List Row). origin x k) h.is in
    g.is
    ∙ merged-unique g.tail h.tail g.head h.head 0 (rw g.is at (merge_into-tiles m c 0 t)) (rw h.is at (merge_into-tiles l d 0 v)) g.apart h.apart
    (omega (arith, ap total g.is, ap total h.is, merge_into-total m c, merge_into-total l d)) o
    ∙ sym h.is

pub merge_origin : (m : List Row) (k : ℕ) → Tiles 0 m → origin (merge m) k ≡ origin m k
merge_origin [] k t = refl
merge_origin (c ∷ m) k t = merge_into-origin m c 0 k t

pub merge_same : (m l : List Row) → Tiles 0 m → Tiles 0 l → total m ≡ total l
    → (merge m ≡ merge l) ↔ ((k : ℕ) → k < total m → origin m k ≡ origin l k)
merge_same m l t v e = (
  λ p k h. sym (merge_origin m k t) ∙ ap (λ (x : List Row). origin x k) p ∙ merge_origin l k v,
  λ f. same-origins m l t v e f,
)

-- rows that are apart are merged already
merge-apart : (m : List Row) (c : Row) → Apart c m → merge_into c m ≡ c ∷ m
merge-apart [] c a = refl
merge-apart (r ∷ m) c a = rw (a.0, merge-apart m r a.1)

pub merge_merge : (m : List Row) → merge (merge m) ≡ merge m
merge_merge [] = refl
merge_merge (c ∷ m) = let g = grown m c in ap merge g.is ∙ merge-apart g.tail g.head g.apart ∙ sym g.is

merge_into-rows : (m : List Row) (c : Row) → length (merge_into c m) ≤ suc (length m)
merge_into-rows [] c = omega arith
merge_into-rows (r ∷ m) c = go (test (runs_on c r)) (merge_into-rows m (glue c r)) (merge_into-rows m r)
  where
    go : Test (runs_on c r) → length (merge_into (glue c r) m) ≤ suc (length m)
        → length (merge_into r m) ≤ suc (length m) → length (merge_into c (r ∷ m)) ≤ suc (suc (length m))
    go (was e) f g = rw e (omega arith)
    go (wasnt e) f g = rw e (omega arith)

pub merge_rows : (m : List Row) → length (merge m) ≤ length m
merge_rows [] = omega arith
merge_rows (c ∷ m) = merge_into-rows m c

pub merge_total : (m : List Row) → total (merge m) ≡ total m
merge_total [] = refl
merge_total (c ∷ m) = merge_into-total m c

-- rows whose flags differ give different origins, and neither continues the other
pub flags-differ : (r s : Row) (j k : ℕ) → (r.flag ≡ s.flag → ⊥)
    → (origin_in r j ≡ origin_in s k → ⊥) × (runs_on r s ≡ false) × (runs_on s r ≡ false)
flags-differ r s j k d = (
  λ e. d (ap (λ (o : Origin). o.flag) e),
  go r s d (test (runs_on r s)),
  go s r (λ e. d (sym e)) (test (runs_on s r)),
)
  where
    go : (r s : Row) → (r.flag ≡ s.flag → ⊥) → Test (runs_on r s) → runs_on r s ≡ false
    go r s d (was e) = absurd (d (runs_on-true r s e).flag)
    go r s d (wasnt e) = e
