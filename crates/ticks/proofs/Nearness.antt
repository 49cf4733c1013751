-- The comparison of `ends_near`, as the program makes it: no number is subtracted. Assumes nothing.
use mathlib.Core.Path.{◌≡◌, refl, sym, ap, ◌∙◌}
use mathlib.Core.Bool.{Bool, true, false, cond, beq}
use mathlib.Core.Logic.{⊎_elim}
use Prim.Native.Nat.{ℕ, zero, suc, ◌+◌, ◌*◌, ◌-◌, ◌^◌, ◌≤◌, ◌<◌}
use native.Mathlib.Omega.{arith}
use lib.Dec.{leb}
use lib.IntN.{ℤ, pos, negsuc, neg_ℤ, nat_abs, ◌+ℤ◌, ◌-ℤ◌, ◌*ℤ◌, neg_ℤ-neg_ℤ, neg_ℤ-+ℤ, *ℤ_comm}
use lib.Signed.{le_z, lt_z}
use borrow.Author.Tests.{lt-ltb, le-ltb, lt-leb}
use Rattle.signed.specs.Signed.{with_sign}
use Rattle.conditions.proofs.Tests.{tf, le-or-lt, same-leb}
use Rattle.signed.proofs.Signs.{sign-mag, sign-times}
use Rattle.wide.specs.declared.Wide.{Wide}
use Rattle.wide.specs.Value.{value}
use Rattle.ticks.specs.Ticks.{ends_near}
use Rattle.ticks.specs.Allowances.{Addable}

-- ---- the distance of two numbers, on one side of 0 and on both
nat_abs-neg : (z : ℤ) → nat_abs (neg_ℤ z) ≡ nat_abs z
nat_abs-neg (pos zero) = refl
nat_abs-neg (pos (suc n)) = refl
nat_abs-neg (negsuc n) = refl

pub above : (a b : ℕ) → nat_abs (pos a -ℤ pos b) ≡ a - b + (b - a)
above a zero = omega arith
above a (suc b) =
    ⊎_elim
    (λ (h : suc b ≤ a). ap (λ (t : Bool). nat_abs (cond t (negsuc (suc b - suc a)) (pos (a - suc b)))) (le-ltb a (suc b) h) ∙ omega arith)
    (λ (h : a < suc b). ap (λ (t : Bool). nat_abs (cond t (negsuc (suc b - suc a)) (pos (a - suc b)))) (lt-ltb a (suc b) h) ∙ omega arith)
    (le-or-lt (suc b) a)

apart : (a b : ℕ) → nat_abs (pos a -ℤ neg_ℤ (pos b)) ≡ a + b
apart a b = ap (λ (z : ℤ). nat_abs (pos a +ℤ z)) (neg_ℤ-neg_ℤ (pos b))

turned : (x y : ℤ) → nat_abs (neg_ℤ x -ℤ y) ≡ nat_abs (x -ℤ neg_ℤ y)
turned x y =
    ap (λ (z : ℤ). nat_abs (neg_ℤ x +ℤ neg_ℤ z)) (sym (neg_ℤ-neg_ℤ y))
    ∙ ap nat_abs (sym (neg_ℤ-+ℤ x (neg_ℤ (neg_ℤ y))))
    ∙ nat_abs-neg (x -ℤ neg_ℤ y)

beside : (s : Bool) (a b : ℕ) → nat_abs (with_sign s a -ℤ with_sign s b) ≡ a - b + (b - a)
beside false a b = above a b
beside true a b = turned (pos a) (neg_ℤ (pos b)) ∙ ap (λ (z : ℤ). nat_abs (pos a -ℤ z)) (neg_ℤ-neg_ℤ (pos b)) ∙ above a b

across : (s t : Bool) (a b : ℕ) → beq s t ≡ false → nat_abs (with_sign s a -ℤ with_sign t b) ≡ a + b
across false true a b h = apart a b
across true false a b h = turned (pos a) (pos b) ∙ apart a b
across true true a b h = tf h
across false false a b h = tf h

same_sign : (s t : Bool) → beq s t ≡ true → s ≡ t
same_sign true true h = refl
same_sign false false h = refl
same_sign true false h = sym h
same_sign false true h = h

-- ---- at most a difference
pub at-most-difference : (d plus minus : ℕ) → leb (d + minus) plus ≡ le_z (pos d) (pos plus -ℤ pos minus)
at-most-difference d plus zero = same-leb (d + 0) plus d (plus + 0) (λ p. omega arith) (λ p. omega arith)
at-most-difference d plus (suc m) =
    ⊎_elim
    (λ (h : suc m ≤ plus).
    same-leb (d + suc m) plus d (plus - suc m) (λ p. omega arith) (λ p. omega arith)
    ∙ sym (ap (λ (t : Bool). le_z (pos d) (cond t (negsuc (suc m - suc plus)) (pos (plus - suc m)))) (le-ltb plus (suc m) h)))
    (λ (h : plus < suc m).
    lt-leb (d + suc m) plus (omega arith)
    ∙ sym (ap (λ (t : Bool). le_z (pos d) (cond t (negsuc (suc m - suc plus)) (pos (plus - suc m)))) (lt-ltb plus (suc m) h)))
    (le-or-lt (suc m) plus)

-- ---- the numbers that are compared
-- twice a number with a sign, times a number
pub doubled : (s : Bool) (n m : ℕ) → pos 2 *ℤ with_sign s n *ℤ pos m ≡ with_sign s (2 * n * m)
doubled s n m =
    ap (λ (z : ℤ). z *ℤ pos m) (*ℤ_comm (pos 2) (with_sign s n) ∙ sign-times s n 2)
    ∙ sign-times s (n * 2) m
    ∙ ap (with_sign s) (omega arith)

pub doubled-of : (z : ℤ) (m : ℕ) → pos 2 *ℤ z *ℤ pos m ≡ with_sign (lt_z z (pos 0)) (2 * nat_abs z * m)
doubled-of z m = ap (λ (y : ℤ). pos 2 *ℤ y *ℤ pos m) (sym (sign-mag z)) ∙ doubled (lt_z z (pos 0)) (nat_abs z) m

-- a is 2·|us|·s, b is 2·|end|·1,000,000, and plus - minus is what is allowed
pub record Compared (us nominal : ℤ) (n s a b plus minus : ℕ) : Type 0 where
  pub a-is : a ≡ 2 * nat_abs us * s
  pub b-is : b ≡ 2 * n * 1000000
  pub by-is : pos plus -ℤ pos minus ≡ pos 2 *ℤ nominal *ℤ pos 1000000 +ℤ pos s
  pub room : Addable a b plus minus

-- as the program makes them: u the magnitude of us, p its product with the scale
pub compared : {us nominal : ℤ} {n s u p a b plus minus : ℕ} → u < 2 ^ 64 → s < 2 ^ 32 → n < 2 ^ 96 → u ≡ nat_abs us
    → p ≡ u * s → a ≡ p * 2 → b ≡ n * 2000000 →
    pos plus -ℤ pos minus ≡ pos 2 *ℤ nominal *ℤ pos 1000000 +ℤ pos s → plus < 2 ^ 118 → minus < 2 ^ 118 → Compared us nominal n s a b plus minus
compared {us} {nominal} {n} {s} {u} {p} fu fs fn eu ep ea eb ey hp hm = record {
  a-is = ea ∙ ap (λ (x : ℕ). x * 2) (ep ∙ ap (λ (x : ℕ). x * s) eu) ∙ omega arith;
  b-is = omega arith;
  by-is = ey;
  room = record {
    a_lt = let h : u * s < 2 ^ 96 = grind arith in omega arith;
    b_lt = omega arith;
    plus_lt = hp;
    minus_lt = hm;
  };
}

module _ {us nominal : ℤ} {n s a b plus minus : ℕ} (neg : Bool) (C : Compared us nominal n s a b plus minus) where
  by-distance : (d : ℕ) → nat_abs (with_sign (lt_z us (pos 0)) a -ℤ with_sign neg b) ≡ d
      → leb (d + minus) plus ≡ ends_near us (with_sign neg n) nominal s
  unfolding ends_near
  by-distance d e =
      at-most-difference d plus minus
      ∙ (λ i. le_z (pos (sym e i)) (C.by-is i))
      ∙ (λ i. le_z (pos (nat_abs ((ap (with_sign (lt_z us (pos 0))) C.a-is ∙ sym (doubled-of us s)) i -ℤ (ap (with_sign neg) C.b-is ∙ sym (doubled neg n 1000000)) i))) (pos 2 *ℤ nominal *ℤ pos 1000000 +ℤ pos s))

  pub near-beside-is : {r : Bool} → beq (lt_z us (pos 0)) neg ≡ true → r ≡ leb (a - b + (b - a) + minus) plus
      → r ≡ ends_near us (with_sign neg n) nominal s
  near-beside-is e t = t ∙ by-distance (a - b + (b - a)) (ap (λ (s : Bool). nat_abs (with_sign s a -ℤ with_sign neg b)) (same_sign (lt_z us (pos 0)) neg e) ∙ beside neg a b)

  pub near-across-is : {r : Bool} → beq (lt_z us (pos 0)) neg ≡ false → r ≡ leb (a + b + minus) plus
      → r ≡ ends_near us (with_sign neg n) nominal s
  near-across-is e t = t ∙ by-distance (a + b) (across (lt_z us (pos 0)) neg a b e)
