-- `mode l` is the one value that is `MostFrequent` in l, and sorting does not change it. Assumes nothing.
use Rattle.std.specs.Prelude.{if◌then◌else◌}
use Rattle.std.specs.List.{AllByRecursion}
use Rattle.std.specs.Ordering.{int_eq}
use Rattle.std.proofs.lemmas.Bool.Decides.{Decides-int_eq}
use Rattle.std.proofs.lemmas.List.Sums.{count_by-le-length}
use mathlib.Core.Path.{◌≡◌, refl, sym, ◌∙◌}
use mathlib.Core.Bool.{true, false}
use mathlib.Core.Logic.{◌⊎◌, inl, inr, ⊎_elim}
use mathlib.Core.List.{List, [], ◌∷◌}
use Prim.Native.Nat.{◌<◌}
use native.Mathlib.Omega.{arith}
use native.Mathlib.Nat.{not-suc-le-zero, eq-zero-or-pos}
use borrow.Author.Tests.{eqb-true, eqb-false, ltb-true, ltb-false}
use lib.Dec.{eqb}
use lib.IntN.{ℤ}
use lib.ListN.{length}
use lib.Signed.{le_z}
use Rattle.conditions.proofs.Tests.{decide, either}
use Rattle.signed.proofs.Order.{le_refl, le_trans, le_antisym, lt-le, not-lt-le}
use Rattle.order.specs.Order.{count_of, MostFrequent, before, taken_first, mode, sorted}
use Rattle.order.proofs.Sorted.{length-sorted}
use Rattle.slices.proofs.Counts.{count-yes, count-no}
use Rattle.order.proofs.Counts.{count-sorted}

-- v is at least as good as w
abbrev Beats : List ℤ → ℤ → ℤ → Type 0
Beats l v w = (count_of w l < count_of v l) ⊎ ((count_of w l ≡ count_of v l) × (le_z v w ≡ true))

beats-trans : (l : List ℤ) (u v w : ℤ) → Beats l u v → Beats l v w → Beats l u w
beats-trans l u v w (inl h) (inl k) = inl (omega arith)
beats-trans l u v w (inl h) (inr k) = inl (omega arith)
beats-trans l u v w (inr h) (inl k) = inl (omega arith)
beats-trans l u v w (inr h) (inr k) = inr (k.0 ∙ h.0, le_trans u v w h.1 k.1)

unique : (l : List ℤ) (v w : ℤ) → MostFrequent l v → MostFrequent l w → v ≡ w
unique l v w h k = both (h.most w) (k.most v)
  where
    both : Beats l v w → Beats l w v → v ≡ w
    both (inl p) (inl q) = absurd (omega arith)
    both (inl p) (inr q) = absurd (omega arith)
    both (inr p) (inl q) = absurd (omega arith)
    both (inr p) (inr q) = le_antisym v w p.1 q.1

before-true : (l : List ℤ) (w v : ℤ) → before l w v ≡ true → Beats l w v
before-true l w v e =
    decide (eqb (count_of w l) (count_of v l))
    (λ q. inr (sym (eqb-true _ _ q), lt-le w v (rw q at e)))
    (λ q. inl (ltb-true _ _ (rw q at e)))

before-false : (l : List ℤ) (w v : ℤ) → before l w v ≡ false → Beats l v w
before-false l w v e =
    decide (eqb (count_of w l) (count_of v l))
    (λ q. inr (eqb-true _ _ q, not-lt-le w v (rw q at e)))
    (λ q.
    let ne = eqb-false (count_of w l) (count_of v l) q in
    let le = ltb-false (count_of v l) (count_of w l) (rw q at e) in
    inl (omega arith))

-- the one that is taken is at least as good as v and as each of m
taken : (l m : List ℤ) (v : ℤ) → Beats l (taken_first l v m) v × AllByRecursion (λ w. Beats l (taken_first l v m) w) m
unfolding taken_first
taken l [] v = (inr (refl, le_refl v), tt)
taken l (w ∷ m) v =
    let u : ℤ = if before l w v then w else v in
    let t = taken l m u in
    let two : Beats l u v × Beats l u w =
    either (λ z. Beats l z v × Beats l z w) (before l w v)
    (λ e. (before-true l w v e, inr (refl, le_refl w)))
    (λ e. (inr (refl, le_refl v), before-false l w v e)) in
    (beats-trans l (taken_first l u m) u v t.0 two.0, (beats-trans l (taken_first l u m) u w t.0 two.1, t.1))

-- what holds of every element holds of what stands there
at_count : (P : ℤ → Type 0) (l : List ℤ) (w : ℤ) → AllByRecursion P l → 0 < count_of w l → P w
at_count P [] w h b = absurd (not-suc-le-zero b)
at_count P (x ∷ l) w h b = decide (int_eq x w) (λ e. rw (← (Decides-int_eq x w).0 e) h.0) (λ e. at_count P l w h.1 (rw (count-no (λ y. int_eq y w) x l e) at b))

-- the one that `mode` gives is the most frequent
pub mode-is : (l : List ℤ) → 0 < length l → MostFrequent l (mode l)
unfolding mode
mode-is [] b = absurd (not-suc-le-zero b)
mode-is (x ∷ l) b =
    let t = taken (x ∷ l) l x in
    let r = taken_first (x ∷ l) x l in
    let some : 0 < count_of x (x ∷ l) = omega (arith, count-yes (λ y. int_eq y x) x l ((Decides-int_eq x x).1 refl)) in
    let there : 0 < count_of r (x ∷ l) = ⊎_elim (λ k. omega arith) (λ k. omega arith) t.0 in
    record {
      there = there;
      most = λ w. ⊎_elim
          (λ z. inl (omega arith))
          (λ p. at_count (λ u. Beats (x ∷ l) r u) (x ∷ l) w (t.0, t.1) p)
          (eq-zero-or-pos (count_of w (x ∷ l)));
    }

-- and no other value is
pub only-mode : (l : List ℤ) (v : ℤ) → MostFrequent l v → v ≡ mode l
only-mode l v h = unique l v (mode l) h (mode-is l (some l h.there))
  where
    some : (m : List ℤ) → 0 < count_of v m → 0 < length m
    some m b = omega (arith, count_by-le-length (λ x. int_eq x v) m)

-- sorting does not change it
most-sorted : (l : List ℤ) (v : ℤ) → MostFrequent (sorted l) v → MostFrequent l v
most-sorted l v h =
    let c : (w : ℤ) → count_of w (sorted l) ≡ count_of w l = λ w. count-sorted (λ x. int_eq x w) l in
    record {
      there = omega (arith, h.there, c v);
      most = λ w. ⊎_elim (λ k. inl (omega (arith, c v, c w))) (λ k. inr (omega (arith, c v, c w), k.1)) (h.most w);
    }

pub mode-sorted : (l : List ℤ) → 0 < length l → mode (sorted l) ≡ mode l
mode-sorted l b = only-mode l (mode (sorted l)) (most-sorted l (mode (sorted l)) (mode-is (sorted l) (rw (length-sorted l) b)))
