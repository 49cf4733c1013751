-- A signed 64-bit number as a natural one: `up z` is z + 2 ^ 63.
-- Each test and operation of ℤ that the code uses has one law in terms of `up`. Assumes nothing.
use mathlib.Core.Path.{◌≡◌, refl, sym}
use mathlib.Core.Bool.{Bool, true, false, cond}
use Prim.Native.Nat.{ℕ, zero, suc, ◌+◌, ◌-◌, ◌*◌, ◌/◌, ◌≤◌, ◌<◌, ◌^◌}
use native.Mathlib.Omega.{arith}
use borrow.Author.Tests.{leb-true, leb-false, ltb-true, ltb-false, le-leb, lt-ltb}
use lib.Dec.{ltb}
use lib.IntN.{ℤ, pos, negsuc, sub_ℕ, ◌+ℤ◌, ◌-ℤ◌}
use lib.Signed.{le_z, lt_z, mag, shr_z}
use Rattle.signed.specs.Fits.{I64}
use Rattle.conditions.proofs.Tests.{tf}

abbrev pub up : ℤ → ℕ
up (pos n) = 2 ^ 63 + n
up (negsuc n) = 2 ^ 63 - suc n

pub up_top : (z : ℤ) → I64 z → up z < 2 ^ 64
up_top (pos n) h = omega arith
up_top (negsuc n) h = omega arith

pub le_up : (a b : ℤ) → le_z a b ≡ true → up a ≤ up b
le_up (pos a) (pos b) h = omega (arith, leb-true a b h)
le_up (pos a) (negsuc b) h = tf (sym h)
le_up (negsuc a) (pos b) h = omega arith
le_up (negsuc a) (negsuc b) h = omega (arith, leb-true b a h)

pub gt-up : (a b : ℤ) → I64 b → le_z a b ≡ false → up b < up a
gt-up (pos a) (pos b) k h = omega (arith, leb-false a b h)
gt-up (pos a) (negsuc b) k h = omega arith
gt-up (negsuc a) (pos b) k h = tf h
gt-up (negsuc a) (negsuc b) k h = omega (arith, leb-false b a h)

pub lt_up : (a b : ℤ) → I64 a → lt_z a b ≡ true → up a < up b
lt_up (pos a) (pos b) k h = omega (arith, ltb-true a b h)
lt_up (pos a) (negsuc b) k h = tf (sym h)
lt_up (negsuc a) (pos b) k h = omega arith
lt_up (negsuc a) (negsuc b) k h = omega (arith, ltb-true b a h)

pub ge-up : (a b : ℤ) → lt_z a b ≡ false → up b ≤ up a
ge-up (pos a) (pos b) h = omega (arith, ltb-false a b h)
ge-up (pos a) (negsuc b) h = omega arith
ge-up (negsuc a) (pos b) h = tf h
ge-up (negsuc a) (negsuc b) h = omega (arith, ltb-false b a h)

pub up_le : (a b : ℤ) → I64 b → up a ≤ up b → le_z a b ≡ true
up_le (pos a) (pos b) k h = le-leb a b (omega arith)
up_le (pos a) (negsuc b) k h = absurd (omega arith)
up_le (negsuc a) (pos b) k h = refl
up_le (negsuc a) (negsuc b) k h = le-leb b a (omega arith)

pub up_lt : (a b : ℤ) → up a < up b → lt_z a b ≡ true
up_lt (pos a) (pos b) h = lt-ltb a b (omega arith)
up_lt (pos a) (negsuc b) h = absurd (omega arith)
up_lt (negsuc a) (pos b) h = refl
up_lt (negsuc a) (negsuc b) h = lt-ltb b a (omega arith)

-- a shift to the right by one place
pub up-half : (z : ℤ) → I64 z → up (shr_z z 2) ≡ (up z + 2 ^ 63) / 2
up-half (pos n) h = omega arith
up-half (negsuc n) h = omega arith

pub in-half : (z : ℤ) → I64 z → I64 (shr_z z 2)
in-half (pos n) h = omega arith
in-half (negsuc n) h = omega arith

-- where a sum z of two numbers lies: it is an i64 exactly where the shifts' sum is in range, and then its shift is that
-- sum less 2^63
pub record Sums (a b z : ℤ) : Type 0 where
  pub at : 2 ^ 63 ≤ up a + up b → up z + 2 ^ 63 ≡ up a + up b
  pub inside : 2 ^ 63 ≤ up a + up b → up a + up b < 3 * 2 ^ 63 → I64 z
  pub above : 3 * 2 ^ 63 ≤ up a + up b → 2 ^ 63 ≤ mag z
  pub under : up a + up b < 2 ^ 63 → 2 ^ 63 ≤ mag z

sub-case : (a b : ℕ) (P : ℤ → Type 0) → (a < b → P (negsuc (b - suc a))) → (b ≤ a → P (pos (a - b))) → P (sub_ℕ a b)
sub-case a b P f g = go (ltb a b) refl
  where
    go : (t : Bool) → ltb a b ≡ t → P (cond t (negsuc (b - suc a)) (pos (a - b)))
    go true e = f (ltb-true a b e)
    go false e = g (ltb-false a b e)

pub sums : (a b : ℤ) → I64 a → I64 b → Sums a b (a +ℤ b)
sums (pos a) (pos b) p q = record { at = λ h. omega arith; inside = λ h k. omega arith; above = λ h. omega arith; under = λ h. omega arith }
sums (pos a) (negsuc b) p q =
    sub-case a (suc b) (λ z. Sums (pos a) (negsuc b) z)
    (λ o. record { at = λ h. omega arith; inside = λ h k. omega arith; above = λ h. omega arith; under = λ h. omega arith })
    (λ o. record { at = λ h. omega arith; inside = λ h k. omega arith; above = λ h. omega arith; under = λ h. omega arith })
sums (negsuc a) (pos b) p q =
    sub-case b (suc a) (λ z. Sums (negsuc a) (pos b) z)
    (λ o. record { at = λ h. omega arith; inside = λ h k. omega arith; above = λ h. omega arith; under = λ h. omega arith })
    (λ o. record { at = λ h. omega arith; inside = λ h k. omega arith; above = λ h. omega arith; under = λ h. omega arith })
sums (negsuc a) (negsuc b) p q = record { at = λ h. omega arith; inside = λ h k. omega arith; above = λ h. omega arith; under = λ h. omega arith }

-- a sum that is in range, with where it lies
pub record Sum (a b z : ℤ) : Type 0 where
  pub inside : I64 z
  pub at : up z + 2 ^ 63 ≡ up a + up b

pub sum : (a b : ℤ) → I64 a → I64 b → 2 ^ 63 ≤ up a + up b → up a + up b < 3 * 2 ^ 63 → Sum a b (a +ℤ b)
sum a b p q l r = let s = sums a b p q in record { inside = s.inside l r; at = s.at l }

-- the same of a difference
pub record Differences (a b z : ℤ) : Type 0 where
  pub at : up b ≤ up a + 2 ^ 63 → up z + up b ≡ up a + 2 ^ 63
  pub inside : up b ≤ up a + 2 ^ 63 → up a < up b + 2 ^ 63 → I64 z
  pub above : up b + 2 ^ 63 ≤ up a → 2 ^ 63 ≤ mag z
  pub under : up a + 2 ^ 63 < up b → 2 ^ 63 ≤ mag z

pub differences : (a b : ℤ) → I64 a → I64 b → Differences a b (a -ℤ b)
differences (pos a) (pos zero) p q = record { at = λ h. omega arith; inside = λ h k. omega arith; above = λ h. omega arith; under = λ h. omega arith }
differences (pos a) (pos (suc b)) p q =
    sub-case a (suc b) (λ z. Differences (pos a) (pos (suc b)) z)
    (λ o. record { at = λ h. omega arith; inside = λ h k. omega arith; above = λ h. omega arith; under = λ h. omega arith })
    (λ o. record { at = λ h. omega arith; inside = λ h k. omega arith; above = λ h. omega arith; under = λ h. omega arith })
differences (pos a) (negsuc b) p q = record { at = λ h. omega arith; inside = λ h k. omega arith; above = λ h. omega arith; under = λ h. omega arith }
differences (negsuc a) (pos zero) p q =
    sub-case zero (suc a) (λ z. Differences (negsuc a) (pos zero) z)
    (λ o. record { at = λ h. omega arith; inside = λ h k. omega arith; above = λ h. omega arith; under = λ h. omega arith })
    (λ o. record { at = λ h. omega arith; inside = λ h k. omega arith; above = λ h. omega arith; under = λ h. omega arith })
differences (negsuc a) (pos (suc b)) p q = record { at = λ h. omega arith; inside = λ h k. omega arith; above = λ h. omega arith; under = λ h. omega arith }
differences (negsuc a) (negsuc b) p q =
    sub-case (suc b) (suc a) (λ z. Differences (negsuc a) (negsuc b) z)
    (λ o. record { at = λ h. omega arith; inside = λ h k. omega arith; above = λ h. omega arith; under = λ h. omega arith })
    (λ o. record { at = λ h. omega arith; inside = λ h k. omega arith; above = λ h. omega arith; under = λ h. omega arith })

pub record Difference (a b z : ℤ) : Type 0 where
  pub inside : I64 z
  pub at : up z + up b ≡ up a + 2 ^ 63

pub difference : (a b : ℤ) → I64 a → I64 b → up b ≤ up a + 2 ^ 63 → up a < up b + 2 ^ 63 → Difference a b (a -ℤ b)
difference a b p q l r = let s = differences a b p q in record { inside = s.inside l r; at = s.at l }

-- what is above m is at least m + 1
pub suc-le : (m s : ℤ) → le_z s m ≡ false → le_z (m +ℤ pos 1) s ≡ true
suc-le (pos b) (pos a) h = le-leb (b + 1) a (omega (arith, leb-false a b h))
suc-le (pos b) (negsuc a) h = tf h
suc-le (negsuc b) (pos a) h = sub-case 1 (suc b) (λ z. le_z z (pos a) ≡ true) (λ p. refl) (λ p. le-leb (1 - suc b) a (omega arith))
suc-le (negsuc b) (negsuc a) h =
    let l = leb-false b a h in
    sub-case 1 (suc b) (λ z. le_z z (negsuc a) ≡ true) (λ p. le-leb a (suc b - 2) (omega arith)) (λ p. absurd (omega arith))
