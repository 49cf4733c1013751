-- Cuts: origins, cuts of cuts, tiling, frames and rows. Assumes nothing.
use Rattle.std.specs.Prelude.{if◌then◌else◌, Some}
use Prim.Native.Nat.{ℕ, ◌+◌, ◌-◌, ◌≤◌, ◌<◌, min, max}
use native.Mathlib.Omega.{arith}
use native.Mathlib.Nat.{add_assoc}
use mathlib.Core.Bool.{Bool, true, false}
use mathlib.Core.List.{List, [], ◌∷◌}
use mathlib.Core.Logic.{◌⊎◌, inl, inr, ⊎_elim}
use mathlib.Core.Path.{◌≡◌, refl, sym, ◌∙◌, ap}
use lib.Dec.{ltb}
use lib.ListN.{length}
use borrow.Author.Tests.{lt-ltb, le-ltb, ltb-true, ltb-false}
use Rattle.conditions.proofs.Tests.{Test, was, wasnt, test, le-or-lt, same-ltb}
use Rattle.rows.specs.declared.Row.{Row}
use Rattle.rows.specs.Rows.{row_end, holds, origin_in, origin, total, overlaps, clip, cut}
use Rattle.rows.specs.Demands.{Tiles}
use Rattle.rows.proofs.Origins.{row-eq, holds-in, holds-before, holds_after, holds-lo, Place, inside, before, after, place}

-- frame k of the cut has the origin of frame a + k
clip-holds : (a b : ℕ) (r : Row) (k : ℕ) → k < b - a → max a r.out < min b (row_end r)
    → holds (clip a b r) k ≡ holds r (a + k)
clip-holds a b r k h o = go (place r (a + k))
  where
    go : Place r (a + k) → holds (clip a b r) k ≡ holds r (a + k)
    go (inside l u) = holds-in (clip a b r) k (omega arith) (omega arith) ∙ sym (holds-in r (a + k) l u)
    go (before u) = holds-before (clip a b r) k (omega arith) ∙ sym (holds-before r (a + k) u)
    go (after l) = holds_after (clip a b r) k (omega arith) ∙ sym (holds_after r (a + k) l)

clip-origin : (a b : ℕ) (r : Row) (k : ℕ) → r.out ≤ a + k → origin_in (clip a b r) k ≡ origin_in r (a + k)
clip-origin a b r k h = let e : r.first + (a - r.out) + (k - (r.out - a)) ≡ r.first + (a + k - r.out) = omega arith in cc

skip-holds : (a b : ℕ) (r : Row) (k : ℕ) → k < b - a → min b (row_end r) ≤ max a r.out → holds r (a + k) ≡ false
skip-holds a b r k h o = go (place r (a + k))
  where
    go : Place r (a + k) → holds r (a + k) ≡ false
    go (inside l u) = absurd (omega arith)
    go (before u) = holds-before r (a + k) u
    go (after l) = holds_after r (a + k) l

pub cut_origin : (m : List Row) (a b k : ℕ) → k < b - a → origin (cut a b m) k ≡ origin m (a + k)
cut_origin [] a b k h = refl
cut_origin (r ∷ m) a b k h = go (test (overlaps a b r)) (cut_origin m a b k h)
  where
    in_row : Test (holds r (a + k)) → max a r.out < min b (row_end r) → origin (cut a b m) k ≡ origin m (a + k)
        → (if holds (clip a b r) k then Some (origin_in (clip a b r) k) else origin (cut a b m) k) ≡ (if holds r (a + k) then Some (origin_in r (a + k)) else origin m (a + k))
    in_row (was e) o ih = rw (clip-holds a b r k h o, e, clip-origin a b r k (holds-lo r (a + k) e))
    in_row (wasnt e) o ih = rw (clip-holds a b r k h o, e) ih

    go : Test (overlaps a b r) → origin (cut a b m) k ≡ origin m (a + k)
        → origin (cut a b (r ∷ m)) k ≡ origin (r ∷ m) (a + k)
    go (was e) ih = rw e (in_row (test (holds r (a + k))) (ltb-true _ _ e) ih)
    go (wasnt e) ih = rw (e, skip-holds a b r k h (ltb-false _ _ e)) ih

-- a cut of a cut is the one cut of the combined range;
-- the four orders in an overlap, without max and min, of which omega takes six at most
pub record Over (a b o e : ℕ) : Type 0 where
  pub ab : a < b
  pub ae : a < e
  pub ob : o < b
  pub oe : o < e

pub over : (a b o e : ℕ) → max a o < min b e → Over a b o e
over a b o e h = omega arith

over-lt : (a b o e : ℕ) → Over a b o e → max a o < min b e
over-lt a b o e h = omega arith

clip-end : (a b o e : ℕ) → Over a b o e → o - a + (min b e - max a o) ≡ min b e - a
clip-end a b o e h = omega arith

sub_same : (a x y u v : ℕ) → a + x ≡ u → a + y ≡ v → x - y ≡ u - v
sub_same a x y u v p q = omega arith

lo-same : (a c o : ℕ) → a + max c (o - a) ≡ max (a + c) o
lo-same a c o = omega arith

hi-same : (a b d e : ℕ) → a < b → a < e → d ≤ b - a → a + min d (min b e - a) ≡ min (a + d) e
hi-same a b d e p q h = omega arith

ltb-same : (x y u v : ℕ) → (x < y → u < v) → (u < v → x < y) → ltb x y ≡ ltb u v
ltb-same x y u v f g = same-ltb x y u v f (λ h. ⊎_elim (λ l. l) (λ l. let z = g l in absurd (omega arith)) (le-or-lt v u))

module _ (a b c d o e : ℕ) (h : d ≤ b - a) where
  over-over : Over a b o e → Over c d (o - a) (min b e - a) → Over (a + c) (a + d) o e
  over-over p q = omega arith

  over-in : Over (a + c) (a + d) o e → Over a b o e
  over-in p = omega arith

  over-of : Over (a + c) (a + d) o e → Over c d (o - a) (min b e - a)
  over-of p = omega arith

module _ (a b c d : ℕ) (r : Row) (h : d ≤ b - a) where
  clip-over : Over a b r.out (row_end r) → overlaps c d (clip a b r) ≡ overlaps (a + c) (a + d) r
  clip-over o =
      rw (clip-end a b r.out (row_end r) o)
      (ltb-same _ _ _ _
      (λ p. over-lt _ _ _ _ (over-over a b c d r.out (row_end r) h o (over _ _ _ _ p)))
      (λ p. over-lt _ _ _ _ (over-of a b c d r.out (row_end r) h (over _ _ _ _ p))))

  clip-none : min b (row_end r) ≤ max a r.out → overlaps (a + c) (a + d) r ≡ false
  clip-none o = go (test (overlaps (a + c) (a + d) r))
    where
      go : Test (overlaps (a + c) (a + d) r) → overlaps (a + c) (a + d) r ≡ false
      go (was e) = let z = over-lt a b r.out (row_end r) (over-in a b c d r.out (row_end r) h (over _ _ _ _ (ltb-true _ _ e))) in absurd (omega arith)
      go (wasnt e) = e

  clip-clip : Over a b r.out (row_end r) → clip c d (clip a b r) ≡ clip (a + c) (a + d) r
  clip-clip o =
      row-eq (clip c d (clip a b r)) (clip (a + c) (a + d) r) refl (omega arith)
      (rw (clip-end a b r.out (row_end r) o) (sub_same a _ _ _ _ (hi-same a b d (row_end r) o.ab o.ae h) (lo-same a c r.out)))
      (omega arith) refl refl

pub cut_cut : (m : List Row) (a b c d : ℕ) → d ≤ b - a → cut c d (cut a b m) ≡ cut (a + c) (a + d) m
cut_cut [] a b c d h = refl
cut_cut (r ∷ m) a b c d h = go (test (overlaps a b r)) (cut_cut m a b c d h)
  where
    go : Test (overlaps a b r) → cut c d (cut a b m) ≡ cut (a + c) (a + d) m
        → cut c d (cut a b (r ∷ m)) ≡ cut (a + c) (a + d) (r ∷ m)
    go (was e) ih =
        let o = over a b r.out (row_end r) (ltb-true _ _ e) in
        rw (e, clip-over a b c d r h o, clip-clip a b c d r h o, ih)
    go (wasnt e) ih = rw (e, clip-none a b c d r h (ltb-false _ _ e)) ih

-- no row from b on is kept
pub cut-none : (m : List Row) (p a b : ℕ) → Tiles p m → b ≤ p → cut a b m ≡ []
cut-none [] p a b t h = refl
cut-none (r ∷ m) p a b t h = rw (le-ltb (max a r.out) (min b (row_end r)) (omega (arith, t.0))) (cut-none m (p + r.count) a b t.2 (omega arith))

pub cut-tiles : (m : List Row) (p a b : ℕ) → Tiles p m → Tiles (p - a) (cut a b m)
cut-tiles [] p a b t = tt
cut-tiles (r ∷ m) p a b t = go (test (overlaps a b r)) (le-or-lt (row_end r) b) (cut-tiles m (p + r.count) a b t.2)
  where
    none : b ≤ row_end r → cut a b m ≡ []
    none h = cut-none m (p + r.count) a b t.2 (omega (arith, t.0))

    go : Test (overlaps a b r) → (row_end r ≤ b) ⊎ (b < row_end r) → Tiles (p + r.count - a) (cut a b m)
        → Tiles (p - a) (cut a b (r ∷ m))
    go (was e) (inl h) ih =
        let o = over a b r.out (row_end r) (ltb-true _ _ e) in
        let q : p + r.count - a ≡ p - a + (min b (row_end r) - max a r.out) = omega (arith, t.0, o.ae, o.oe) in
        rw e (omega (arith, t.0), omega (arith, over-lt a b r.out (row_end r) o), rw q at ih)
    go (was e) (inr h) ih =
        let o = over a b r.out (row_end r) (ltb-true _ _ e) in
        rw e (omega (arith, t.0), omega (arith, over-lt a b r.out (row_end r) o), rw (none (omega arith)) tt)
    go (wasnt e) (inl h) ih =
        let q : p + r.count - a ≡ p - a = omega (arith, t.0, t.1, ltb-false (max a r.out) (min b (row_end r)) e) in
        rw e (rw q at ih)
    go (wasnt e) (inr h) ih = rw (e, none (omega arith)) tt

max-right : (a b : ℕ) → a ≤ b → max a b ≡ b
max-right a b h = omega arith

sum-mid : (a b p n t : ℕ) → a < p + n → p < b
    → min b (p + n) - max a p + (min b (p + n + t) - (p + n)) ≡ min b (p + n + t) - max a p
sum-mid a b p n t h l = omega arith

sum-in : (a b p n t : ℕ) → a < p + n → p < b
    → min b (p + n) - max a p + (min b (p + n + t) - max a (p + n)) ≡ min b (p + n + t) - max a p
sum-in a b p n t h l = rw (max-right a (p + n) (omega arith)) (sum-mid a b p n t h l)

sum-out : (a b p n t : ℕ) → min b (p + n) ≤ max a p → 0 < n
    → min b (p + n + t) - max a (p + n) ≡ min b (p + n + t) - max a p
sum-out a b p n t h l = omega arith

pub cut-total-from : (m : List Row) (p a b : ℕ) → Tiles p m → total (cut a b m) ≡ min b (p + total m) - max a p
cut-total-from [] p a b t = omega arith
cut-total-from (r ∷ m) p a b t = go (test (overlaps a b r)) (cut-total-from m (p + r.count) a b t.2)
  where
    go : Test (overlaps a b r) → total (cut a b m) ≡ min b (p + r.count + total m) - max a (p + r.count)
        → total (cut a b (r ∷ m)) ≡ min b (p + (r.count + total m)) - max a p
    go (was e) ih =
        let o = over a b r.out (row_end r) (ltb-true _ _ e) in
        rw (e, ih, t.0, ← (add_assoc p r.count (total m))) (sum-in a b p r.count (total m) (omega (arith, t.0, o.ae)) (omega (arith, t.0, o.ob)))
    go (wasnt e) ih =
        let l : min b (p + r.count) ≤ max a p = rw t.0 at (ltb-false (max a r.out) (min b (row_end r)) e) in
        rw (e, ih, ← (add_assoc p r.count (total m))) (sum-out a b p r.count (total m) l t.1)

pub cut_total : (m : List Row) (a b : ℕ) → Tiles 0 m → b ≤ total m → total (cut a b m) ≡ b - a
cut_total m a b t h = cut-total-from m 0 a b t ∙ omega arith

-- a cut of all frames keeps every row as it is
pub cut_all : (m : List Row) (p b : ℕ) → Tiles p m → p + total m ≤ b → cut 0 b m ≡ m
cut_all [] p b t h = refl
cut_all (r ∷ m) p b t h =
    let e : clip 0 b r ≡ r = row-eq (clip 0 b r) r refl (omega arith) (omega (arith, t.0)) (omega arith) refl refl in
    rw (lt-ltb (max 0 r.out) (min b (row_end r)) (omega (arith, t.0, t.1)), e, cut_all m (p + r.count) b t.2 (omega arith))

-- rows of cuts
abbrev one : Bool → ℕ
one true = 1
one false = 0

one-le : (x : Bool) → one x ≤ 1
one-le true = omega arith
one-le false = omega arith

length_cut : (a b : ℕ) (r : Row) (m : List Row) → length (cut a b (r ∷ m)) ≡ one (overlaps a b r) + length (cut a b m)
length_cut a b r m = go (overlaps a b r)
  where
    go : (x : Bool) → length (if x then clip a b r ∷ cut a b m else cut a b m) ≡ one x + length (cut a b m)
    go true = omega arith
    go false = omega arith

pub cut_rows : (m : List Row) (a b : ℕ) → length (cut a b m) ≤ length m
cut_rows [] a b = omega arith
cut_rows (r ∷ m) a b = omega (arith, length_cut a b r m, one-le (overlaps a b r), cut_rows m a b)

-- rows from b on are cut to as many, wherever before b the cut begins
cut_later : (m : List Row) (p a b c : ℕ) → Tiles p m → a ≤ b → b ≤ p → length (cut b c m) ≡ length (cut a c m)
cut_later [] p a b c t h l = refl
cut_later (r ∷ m) p a b c t h l =
    let e : overlaps b c r ≡ overlaps a c r = rw (max-right b r.out (omega (arith, t.0)), max-right a r.out (omega (arith, t.0))) in
    length_cut b c r m ∙ rw (e, cut_later m (p + r.count) a b c t.2 h (omega arith)) (sym (length_cut a c r m))

module _ (a b c : ℕ) (h : a ≤ b) (l : b ≤ c) (r : Row) where
  ends-before : row_end r ≤ b → (overlaps b c r ≡ false) × (overlaps a b r ≡ overlaps a c r)
  ends-before e = (le-ltb (max b r.out) (min c (row_end r)) (omega arith), ltb-same (max a r.out) (min b (row_end r)) (max a r.out) (min c (row_end r)) (λ x. omega arith) (λ x. omega arith))

  starts-after : b ≤ r.out → (overlaps a b r ≡ false) × (overlaps b c r ≡ overlaps a c r)
  starts-after e = (le-ltb (max a r.out) (min b (row_end r)) (omega arith), ltb-same (max b r.out) (min c (row_end r)) (max a r.out) (min c (row_end r)) (λ x. omega arith) (λ x. omega arith))

  straddles : r.out < b → b < row_end r → one (overlaps a b r) + one (overlaps b c r) ≤ one (overlaps a c r) + 1
  straddles e f = go (test (overlaps a c r))
    where
      go : Test (overlaps a c r) → one (overlaps a b r) + one (overlaps b c r) ≤ one (overlaps a c r) + 1
      go (was x) = rw x (omega (arith, one-le (overlaps a b r), one-le (overlaps b c r)))
      go (wasnt x) =
          let z = ltb-false (max a r.out) (min c (row_end r)) x in
          let y : overlaps b c r ≡ false = le-ltb (max b r.out) (min c (row_end r)) (omega arith) in
          rw (x, y) (omega (arith, one-le (overlaps a b r)))

pub cuts-rows : (m : List Row) (p a b c : ℕ) → Tiles p m → a ≤ b → b ≤ c
    → length (cut a b m) + length (cut b c m) ≤ length (cut a c m) + 1
cuts-rows [] p a b c t h l = omega arith
cuts-rows (r ∷ m) p a b c t h l = go (le-or-lt (row_end r) b) (le-or-lt b r.out) (cuts-rows m (p + r.count) a b c t.2 h l)
  where
    sizes : (length (cut a b (r ∷ m)) ≡ one (overlaps a b r) + length (cut a b m)) × (length (cut b c (r ∷ m)) ≡ one (overlaps b c r) + length (cut b c m)) × (length (cut a c (r ∷ m)) ≡ one (overlaps a c r) + length (cut a c m))
    sizes = (length_cut a b r m, length_cut b c r m, length_cut a c r m)

    go : (row_end r ≤ b) ⊎ (b < row_end r) → (b ≤ r.out) ⊎ (r.out < b)
        → length (cut a b m) + length (cut b c m) ≤ length (cut a c m) + 1
        → length (cut a b (r ∷ m)) + length (cut b c (r ∷ m)) ≤ length (cut a c (r ∷ m)) + 1
    go (inl e) y ih =
        let x = ends-before a b c h l r e in
        omega (arith, sizes, ap one x.0, ap one x.1)
    go (inr e) (inl y) ih =
        let x = starts-after a b c h l r y in
        omega (arith, sizes, ap one x.0, ap one x.1)
    go (inr e) (inr y) ih =
        omega (arith, sizes, straddles a b c h l r y e, ap length (cut-none m (p + r.count) a b t.2 (omega (arith, t.0))), cut_later m (p + r.count) a b c t.2 h (omega (arith, t.0)))
