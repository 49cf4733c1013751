-- Well-formed maps: what a well-formed row says, and that cut, join and merge keep maps well formed. Assumes nothing.
use Prim.Native.Nat.{ℕ, ◌+◌, ◌-◌, ◌≤◌, ◌<◌, min, max}
use Rattle.std.proofs.lemmas.Bool.{and_parts}
use native.Mathlib.Omega.{arith}
use native.Mathlib.Nat.{add_assoc, add-zero}
use mathlib.Core.Bool.{true, not, ◌&&◌}
use mathlib.Core.List.{List, [], ◌∷◌, ◌++◌, map}
use mathlib.Core.Path.{◌≡◌, sym, ◌∙◌, ap}
use mathlib.Core.Logic.{◌⊎◌, inl, inr}
use lib.Dec.{ltb, eqb}
use borrow.Author.Tests.{lt-ltb, le-ltb, eq-eqb, ltb-true, ltb-false, eqb-true, not-true}
use Rattle.conditions.specs.Conditions.{past, max_u64}
use Rattle.conditions.proofs.Sums.{past-not}
use Rattle.conditions.proofs.Tests.{Test, was, wasnt, test, le-or-lt}
use Rattle.rows.specs.declared.Row.{Row}
use Rattle.rows.specs.Rows.{row_end, total, ok_shift, ok_row, WellFrom, WellFormed, overlaps, clip, cut, moved, join, runs_on, glue, merge_into, merge}
use Rattle.rows.specs.Demands.{Tiles}
use Rattle.rows.proofs.Cuts.{Over, over, cut-none}
use Rattle.rows.proofs.Merging.{RunsOn, runs_on-true}

-- a well-formed row but for its flag and shift, in numbers
pub record OkRow (p : ℕ) (r : Row) : Type 0 where
  pub some : 0 < r.count
  pub source : r.first + r.count ≤ max_u64
  pub last : row_end r ≤ max_u64
  pub out : r.out ≡ p

not-past : (a b m : ℕ) → a + b ≤ m → not (past a b m) ≡ true
unfolding past
not-past a b m h = ap not (le-ltb m (a + b) h)

pub ok-shift : (p : ℕ) (r : Row) → OkRow p r → ok_row p r ≡ ok_shift r
ok-shift p r o =
    simp (
      lt-ltb 0 r.count o.some,
      not-past r.first r.count max_u64 o.source,
      not-past r.out r.count max_u64 o.last,
      eq-eqb r.out p o.out,
    )

pub ok-facts : (p : ℕ) (r : Row) → ok_row p r ≡ true → OkRow p r
ok-facts p r e =
    let a = ltb 0 r.count in
    let b = not (past r.first r.count max_u64) in
    let c = not (past r.out r.count max_u64) in
    let d = eqb r.out p in
    let e₁ = (and_parts (a && b && c && d) (ok_shift r) e).0 in
    let e₂ = (and_parts (a && b && c) d e₁).0 in
    let e₃ = (and_parts (a && b) c e₂).0 in
    record {
      some = ltb-true 0 r.count (and_parts a b e₃).0;
      source = past-not r.first r.count max_u64 (not-true _ (and_parts a b e₃).1);
      last = past-not r.out r.count max_u64 (not-true _ (and_parts (a && b) c e₂).1);
      out = eqb-true r.out p (and_parts (a && b && c) d e₁).1;
    }

pub ok-shifted : (p : ℕ) (r : Row) → ok_row p r ≡ true → ok_shift r ≡ true
ok-shifted p r e = sym (ok-shift p r (ok-facts p r e)) ∙ e

pub well-tiles : (m : List Row) (p : ℕ) → WellFrom p m → Tiles p m
well-tiles [] p w = tt
well-tiles (r ∷ m) p w = let o = ok-facts p r w.0 in (o.out, o.some, well-tiles m (p + r.count) w.1)

-- a map's frames are no more than the largest number
pub well-total : (m : List Row) (p : ℕ) → WellFrom p m → p ≤ max_u64 → p + total m ≤ max_u64
well-total [] p w h = omega arith
well-total (r ∷ m) p w h = let o = ok-facts p r w.0 in let i = well-total m (p + r.count) w.1 (omega (arith, o.last, o.out)) in omega arith

-- a cut of a well-formed map is well formed
clip-ok : (p a b : ℕ) (r : Row) → ok_row p r ≡ true → Over a b r.out (row_end r) → ok_row (p - a) (clip a b r) ≡ true
clip-ok p a b r e v =
    let o = ok-facts p r e in
    let k : OkRow (p - a) (clip a b r) = record {
      out = ap (λ (x : ℕ). x - a) o.out;
      some = omega (arith, v.ab, v.ae, v.ob, v.oe);
      source = omega (arith, v.ab, v.ae, v.ob, v.oe, o.source);
      last = omega (arith, v.ab, v.ae, v.ob, v.oe, o.last);
    } in
    ok-shift (p - a) (clip a b r) k ∙ ok-shifted p r e

pub cut_well : (m : List Row) (p a b : ℕ) → WellFrom p m → WellFrom (p - a) (cut a b m)
cut_well [] p a b w = tt
cut_well (r ∷ m) p a b w = go (test (overlaps a b r)) (le-or-lt (row_end r) b) (cut_well m (p + r.count) a b w.1)
  where
    o : OkRow p r
    o = ok-facts p r w.0

    none : b ≤ row_end r → cut a b m ≡ []
    none h = cut-none m (p + r.count) a b (well-tiles m (p + r.count) w.1) (omega (arith, o.out))

    go : Test (overlaps a b r) → (row_end r ≤ b) ⊎ (b < row_end r) → WellFrom (p + r.count - a) (cut a b m)
        → WellFrom (p - a) (cut a b (r ∷ m))
    go (was e) (inl h) ih =
        let v = over a b r.out (row_end r) (ltb-true _ _ e) in
        let q : p + r.count - a ≡ p - a + (min b (row_end r) - max a r.out) = omega (arith, o.out, v.ae, v.oe) in
        rw e (clip-ok p a b r w.0 v, rw q at ih)
    go (was e) (inr h) ih =
        let v = over a b r.out (row_end r) (ltb-true _ _ e) in
        rw e (clip-ok p a b r w.0 v, rw (none (omega arith)) tt)
    go (wasnt e) (inl h) ih =
        let q : p + r.count - a ≡ p - a = omega (arith, o.out, o.some, ltb-false (max a r.out) (min b (row_end r)) e) in
        rw e (rw q at ih)
    go (wasnt e) (inr h) ih = rw (e, none (omega arith)) tt

-- a merge of a well-formed map is well formed
glue-ok : (p : ℕ) (c r : Row) → ok_row p c ≡ true → ok_row (p + c.count) r ≡ true → RunsOn c r
    → ok_row p (glue c r) ≡ true
glue-ok p c r e f v =
    let o = ok-facts p c e in
    let q = ok-facts (p + c.count) r f in
    let k : OkRow p (glue c r) = record { out = o.out; some = omega (arith, o.some); source = omega (arith, q.source, v.first); last = omega (arith, q.last, q.out, o.out) } in
    ok-shift p (glue c r) k ∙ ok-shifted p c e

pub merge_into-well : (m : List Row) (c : Row) (p : ℕ) → WellFrom p (c ∷ m) → WellFrom p (merge_into c m)
merge_into-well [] c p w = w
merge_into-well (r ∷ m) c p w = go (test (runs_on c r)) (merge_into-well m (glue c r) p) (merge_into-well m r (p + c.count))
  where
    go : Test (runs_on c r) → (WellFrom p (glue c r ∷ m) → WellFrom p (merge_into (glue c r) m))
        → (WellFrom (p + c.count) (r ∷ m) → WellFrom (p + c.count) (merge_into r m))
        → WellFrom p (merge_into c (r ∷ m))
    go (was e) f g = rw e (f (glue-ok p c r w.0 w.1.0 (runs_on-true c r e), rw (sym (add_assoc p c.count r.count)) w.1.1))
    go (wasnt e) f g = rw e (w.0, g w.1)

pub merge_well : (m : List Row) → WellFormed m → WellFormed (merge m)
merge_well [] w = w
merge_well (c ∷ m) w = merge_into-well m c 0 w

-- a join of two well-formed maps is well formed where its frames stay below 2^64
moved_ok : (d p : ℕ) (r : Row) → ok_row p r ≡ true → d + row_end r ≤ max_u64 → ok_row (d + p) (moved d r) ≡ true
moved_ok d p r e h =
    let o = ok-facts p r e in
    let k : OkRow (d + p) (moved d r) = record { out = ap (λ (x : ℕ). d + x) o.out; some = o.some; source = o.source; last = omega arith } in
    ok-shift (d + p) (moved d r) k ∙ ok-shifted p r e

moved-well : (y : List Row) (d q : ℕ) → WellFrom q y → d + (q + total y) ≤ max_u64 → WellFrom (d + q) (map (moved d) y)
moved-well [] d q w h = tt
moved-well (r ∷ y) d q w h =
    let o = ok-facts q r w.0 in
    (moved_ok d q r w.0 (omega (arith, o.out)), rw (add_assoc d q r.count) (moved-well y d (q + r.count) w.1 (omega arith)))

append-well : (x y : List Row) (p : ℕ) → WellFrom p x → WellFrom (p + total x) y → WellFrom p (x ++ y)
append-well [] y p w v = rw (add-zero p) at v
append-well (r ∷ x) y p w v = (w.0, append-well x y (p + r.count) w.1 (rw (add_assoc p r.count (total x)) v))

pub join_well : (x y : List Row) → WellFormed x → WellFormed y → total x + total y ≤ max_u64 → WellFormed (join x y)
join_well x y w v h =
    let m : WellFrom (total x + 0) (map (moved (total x)) y) = moved-well y (total x) 0 v (omega arith) in
    let z : total x + 0 ≡ 0 + total x = omega arith in
    append-well x (map (moved (total x)) y) 0 w (rw z at m)
