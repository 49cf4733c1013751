-- Microseconds: what the two-word path computes. Assumes nothing.
use mathlib.Core.Path.{◌≡◌, refl, sym, ap, ◌∙◌}
use mathlib.Core.Bool.{Bool, true, false}
use Prim.Native.Nat.{ℕ, ◌+◌, ◌*◌, ◌/◌, ◌<◌}
use native.Mathlib.Omega.{arith}
use lib.IntN.{ℤ, pos, ◌*ℤ◌}
use borrow.Author.Tests.{eq-eqb, ne_eqb}
use Rattle.std.specs.Prelude.{None, if◌then◌else◌}
use Rattle.signed.specs.Signed.{as_i64, with_sign}
use Rattle.signed.specs.Rounded.{nearest, rounded}
use Rattle.signed.proofs.Quotients.{halves}
use Rattle.signed.proofs.Signs.{sign-times}
use Rattle.ticks.proofs.Nearest.{rounded-neg}
use Rattle.ticks.specs.Ticks.{micros_of}

-- the answer by the scale
pub micros-none : (t : ℤ) (s : ℕ) → s ≡ 0 → None ≡ micros_of t s
unfolding micros_of
micros-none t s e = sym (ap (λ (b : Bool). (if b then None else as_i64 (rounded (t *ℤ pos 1000000) s))) (eq-eqb s 0 e))

pub micros-some : (t : ℤ) (s : ℕ) → (s ≡ 0 → ⊥) → as_i64 (rounded (t *ℤ pos 1000000) s) ≡ micros_of t s
unfolding micros_of
micros-some t s h = sym (ap (λ (b : Bool). (if b then None else as_i64 (rounded (t *ℤ pos 1000000) s))) (ne_eqb s 0 h))

-- rounding keeps the sign
rounded-sign : (neg : Bool) (n s : ℕ) → 0 < s → rounded (with_sign neg n) s ≡ with_sign neg (nearest n s)
rounded-sign true n s h = rounded-neg n s h
rounded-sign false n s h = refl

-- the two-word path: t the product, u the sum with half the scale, q the quotient
pub micros-is : (neg : Bool) (n s t u q : ℕ) → (s ≡ 0 → ⊥) → t ≡ n * 1000000 → u ≡ t + (0 + s / 2) → q ≡ u / s
    → as_i64 (with_sign neg q) ≡ micros_of (with_sign neg n) s
micros-is neg n s t u q h et eu eq =
    let p : 0 < s = omega arith in
    let sum : u ≡ n * 1000000 + s / 2 = omega arith in
    ap (λ (k : ℕ). as_i64 (with_sign neg k)) (eq ∙ ap (λ (k : ℕ). k / s) sum ∙ halves (n * 1000000) s p)
    ∙ ap as_i64 (sym (ap (λ (z : ℤ). rounded z s) (sign-times neg n 1000000) ∙ rounded-sign neg (n * 1000000) s p))
    ∙ micros-some (with_sign neg n) s h
