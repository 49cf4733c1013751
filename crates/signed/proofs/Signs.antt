-- Signs: an integer as its magnitude with its sign, and a magnitude with a sign times a number. Assumes nothing.
use mathlib.Core.Path.{◌≡◌, refl, sym, ap, ◌∙◌}
use mathlib.Core.Bool.{Bool, true, false}
use Prim.Native.Nat.{ℕ, zero, suc, ◌*◌}
use native.Mathlib.Omega.{arith}
use lib.IntN.{ℤ, pos, negsuc, neg_ℤ, nat_abs, ◌*ℤ◌}
use lib.Signed.{lt_z}
use borrow.Author.Tests.{le-ltb}
use Rattle.signed.specs.Signed.{with_sign}

-- an integer is its magnitude with its sign
pub sign-mag : (z : ℤ) → with_sign (lt_z z (pos 0)) (nat_abs z) ≡ z
sign-mag (pos n) = ap (λ (t : Bool). with_sign t n) (le-ltb n 0 (omega arith))
sign-mag (negsuc n) = refl

neg-times : (k m : ℕ) → neg_ℤ (pos k) *ℤ pos m ≡ neg_ℤ (pos (k * m))
neg-times zero m = let e : 0 * m ≡ 0 = omega arith in ap pos e ∙ sym (ap (λ (n : ℕ). neg_ℤ (pos n)) e)
neg-times (suc k) m = refl

-- a multiple of a number with a sign
pub sign-times : (neg : Bool) (n m : ℕ) → with_sign neg n *ℤ pos m ≡ with_sign neg (n * m)
sign-times true n m = neg-times n m
sign-times false n m = refl
