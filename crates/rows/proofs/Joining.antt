-- Joining: frames, tiling, origins; neighbouring cuts joined. Assumes nothing.
use Prim.Native.Nat.{ℕ, ◌+◌, ◌-◌, ◌≤◌, ◌<◌}
use native.Mathlib.Omega.{arith}
use native.Mathlib.Nat.{add_assoc, add-zero, zero-add, zero-sub}
use mathlib.Core.List.{List, [], ◌∷◌, ◌++◌, map}
use mathlib.Core.Logic.{◌⊎◌, inl, inr}
use mathlib.Core.Path.{◌≡◌, refl, sym, ◌∙◌, ap}
use Rattle.conditions.proofs.Tests.{le-or-lt}
use Rattle.rows.specs.declared.Row.{Row}
use Rattle.rows.specs.Rows.{row_end, holds, origin, total, cut, moved, join, merge}
use Rattle.rows.specs.Demands.{Tiles}
use Rattle.rows.proofs.Origins.{holds-in, holds-before, holds_after, Place, inside, before, after, place}
use Rattle.rows.proofs.Cuts.{cut_origin, cut-tiles, cut_total}
use Rattle.rows.proofs.Merging.{same-origins}

pub append-total : (x y : List Row) → total (x ++ y) ≡ total x + total y
append-total [] y = omega arith
append-total (r ∷ x) y = rw (append-total x y) (omega arith)

moved-total : (d : ℕ) (y : List Row) → total (map (moved d) y) ≡ total y
moved-total d [] = refl
moved-total d (r ∷ y) = rw (moved-total d y)

pub join_total : (x y : List Row) → total (join x y) ≡ total x + total y
join_total x y = append-total x _ ∙ ap (λ (z : ℕ). total x + z) (moved-total (total x) y)

moved-tiles : (d q : ℕ) (y : List Row) → Tiles q y → Tiles (d + q) (map (moved d) y)
moved-tiles d q [] t = tt
moved-tiles d q (r ∷ y) t = (ap (λ (z : ℕ). d + z) t.0, t.1, rw (add_assoc d q r.count) (moved-tiles d (q + r.count) y t.2))

append-tiles : (x y : List Row) (p : ℕ) → Tiles p x → Tiles (p + total x) y → Tiles p (x ++ y)
append-tiles [] y p t v = rw (add-zero p) at v
append-tiles (r ∷ x) y p t v = (t.0, t.1, append-tiles x y (p + r.count) t.2 (rw (add_assoc p r.count (total x)) v))

pub join-tiles : (x y : List Row) → Tiles 0 x → Tiles 0 y → Tiles 0 (join x y)
join-tiles x y t v = append-tiles x (map (moved (total x)) y) 0 t (rw (zero-add (total x)) (rw (add-zero (total x)) at (moved-tiles (total x) 0 y v)))

origin-left : (x y : List Row) (p k : ℕ) → Tiles p x → p ≤ k → k < p + total x → origin (x ++ y) k ≡ origin x k
origin-left [] y p k t l h = absurd (omega arith)
origin-left (r ∷ x) y p k t l h = go (le-or-lt (row_end r) k) (λ q. origin-left x y (p + r.count) k t.2 q (omega arith))
  where
    go : (row_end r ≤ k) ⊎ (k < row_end r) → (p + r.count ≤ k → origin (x ++ y) k ≡ origin x k)
        → origin (r ∷ x ++ y) k ≡ origin (r ∷ x) k
    go (inl u) f = rw (holds_after r k u) (f (omega (arith, t.0)))
    go (inr u) f = rw (holds-in r k (omega (arith, t.0)) u)

origin-right : (x y : List Row) (p k : ℕ) → Tiles p x → p + total x ≤ k → origin (x ++ y) k ≡ origin y k
origin-right [] y p k t h = refl
origin-right (r ∷ x) y p k t h = rw (holds_after r k (omega (arith, t.0))) (origin-right x y (p + r.count) k t.2 (omega arith))

moved_holds : (d : ℕ) (r : Row) (k : ℕ) → holds (moved d r) (d + k) ≡ holds r k
moved_holds d r k = go (place r k)
  where
    go : Place r k → holds (moved d r) (d + k) ≡ holds r k
    go (inside l u) = holds-in (moved d r) (d + k) (omega arith) (omega arith) ∙ sym (holds-in r k l u)
    go (before u) = holds-before (moved d r) (d + k) (omega arith) ∙ sym (holds-before r k u)
    go (after l) = holds_after (moved d r) (d + k) (omega arith) ∙ sym (holds_after r k l)

moved-origin : (d : ℕ) (y : List Row) (k : ℕ) → origin (map (moved d) y) (d + k) ≡ origin y k
moved-origin d [] k = refl
moved-origin d (r ∷ y) k =
    let e : d + k - (d + r.out) ≡ k - r.out = omega arith in
    rw (moved_holds d r k, moved-origin d y k, e)

pub join-origin-first : (x y : List Row) (k : ℕ) → Tiles 0 x → k < total x → origin (join x y) k ≡ origin x k
join-origin-first x y k t h = origin-left x _ 0 k t (omega arith) (omega arith)

pub join-origin-second : (x y : List Row) (k : ℕ) → Tiles 0 x → origin (join x y) (total x + k) ≡ origin y k
join-origin-second x y k t = origin-right x (map (moved (total x)) y) 0 (total x + k) t (omega arith) ∙ moved-origin (total x) y k

pub join_cuts : (m : List Row) (a b c : ℕ) → Tiles 0 m → a ≤ b → b ≤ c → c ≤ total m
    → merge (join (cut a b m) (cut b c m)) ≡ merge (cut a c m)
join_cuts m a b c t l h u =
    same-origins (join x y) z (join-tiles x y tx ty) tz (join_total x y ∙ omega (arith, nx, ny, nz))
    (λ k q. go k (rw (join_total x y) at q) (le-or-lt (b - a) k))
  where
    x : List Row
    x = cut a b m

    y : List Row
    y = cut b c m

    z : List Row
    z = cut a c m

    nx : total (cut a b m) ≡ b - a
    nx = cut_total m a b t (omega arith)

    ny : total (cut b c m) ≡ c - b
    ny = cut_total m b c t u

    nz : total (cut a c m) ≡ c - a
    nz = cut_total m a c t u

    tx : Tiles 0 (cut a b m)
    tx = rw (zero-sub a) at (cut-tiles m 0 a b t)

    ty : Tiles 0 (cut b c m)
    ty = rw (zero-sub b) at (cut-tiles m 0 b c t)

    tz : Tiles 0 (cut a c m)
    tz = rw (zero-sub a) at (cut-tiles m 0 a c t)

    go : (k : ℕ) → k < total (cut a b m) + total (cut b c m) → (b - a ≤ k) ⊎ (k < b - a)
        → origin (join (cut a b m) (cut b c m)) k ≡ origin (cut a c m) k
    go k q (inl w) =
        let j = k - (b - a) in
        let e : k ≡ total (cut a b m) + (k - (b - a)) = omega (arith, nx) in
        let f : b + (k - (b - a)) ≡ a + k = omega arith in
        ap (λ (i : ℕ). origin (join (cut a b m) (cut b c m)) i) e
        ∙ join-origin-second (cut a b m) (cut b c m) j tx
        ∙ cut_origin m b c j (omega (arith, nx, ny))
        ∙ ap (λ (i : ℕ). origin m i) f
        ∙ sym (cut_origin m a c k (omega (arith, nx, ny)))
    go k q (inr w) = join-origin-first x y k tx (omega (arith, nx)) ∙ cut_origin m a b k w ∙ sym (cut_origin m a c k (omega arith))
