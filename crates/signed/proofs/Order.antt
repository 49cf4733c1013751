-- The order of ℤ as equations of its tests, `le_z a b ≡ true`, and numbers that aren't equal. Assumes nothing.
use mathlib.Core.Path.{◌≡◌, refl, sym, ap}
use mathlib.Core.Bool.{true, false}
use native.Mathlib.Omega.{arith}
use native.Mathlib.Nat.{le_antisymm}
use borrow.Author.Tests.{leb-true, leb-false, ltb-true, ltb-false, le-leb, lt-leb}
use lib.IntN.{ℤ, pos, negsuc}
use lib.Signed.{le_z, lt_z}
use Rattle.std.specs.Ordering.{int_eq}
use Rattle.std.proofs.lemmas.Bool.Decides.{Decides-int_eq}
use Rattle.conditions.proofs.Tests.{tf, decide}

pub le_refl : (a : ℤ) → le_z a a ≡ true
le_refl (pos a) = le-leb a a (omega arith)
le_refl (negsuc a) = le-leb a a (omega arith)

pub le_trans : (a b c : ℤ) → le_z a b ≡ true → le_z b c ≡ true → le_z a c ≡ true
le_trans (pos a) (pos b) (pos c) h k = le-leb a c (omega (arith, leb-true a b h, leb-true b c k))
le_trans (pos a) (pos b) (negsuc c) h k = k
le_trans (pos a) (negsuc b) c h k = tf (sym h)
le_trans (negsuc a) (pos b) (pos c) h k = refl
le_trans (negsuc a) (pos b) (negsuc c) h k = tf (sym k)
le_trans (negsuc a) (negsuc b) (pos c) h k = refl
le_trans (negsuc a) (negsuc b) (negsuc c) h k = le-leb c a (omega (arith, leb-true b a h, leb-true c b k))

-- what is not at most is at least
pub le_total : (a b : ℤ) → le_z a b ≡ false → le_z b a ≡ true
le_total (pos a) (pos b) h = le-leb b a (omega (arith, leb-false a b h))
le_total (pos a) (negsuc b) h = refl
le_total (negsuc a) (pos b) h = tf h
le_total (negsuc a) (negsuc b) h = le-leb a b (omega (arith, leb-false b a h))

pub le_antisym : (a b : ℤ) → le_z a b ≡ true → le_z b a ≡ true → a ≡ b
le_antisym (pos a) (pos b) h k = ap pos (le_antisymm (leb-true a b h) (leb-true b a k))
le_antisym (pos a) (negsuc b) h k = tf (sym h)
le_antisym (negsuc a) (pos b) h k = tf (sym k)
le_antisym (negsuc a) (negsuc b) h k = ap negsuc (le_antisymm (leb-true a b k) (leb-true b a h))

-- `<` that held is `<=` the other way round that failed, and the other way
pub lt_not_le : (a b : ℤ) → lt_z a b ≡ true → le_z b a ≡ false
lt_not_le (pos a) (pos b) h = lt-leb b a (ltb-true a b h)
lt_not_le (pos a) (negsuc b) h = tf (sym h)
lt_not_le (negsuc a) (pos b) h = refl
lt_not_le (negsuc a) (negsuc b) h = lt-leb a b (ltb-true b a h)

pub not-lt-le : (a b : ℤ) → lt_z a b ≡ false → le_z b a ≡ true
not-lt-le (pos a) (pos b) h = le-leb b a (ltb-false a b h)
not-lt-le (pos a) (negsuc b) h = refl
not-lt-le (negsuc a) (pos b) h = tf h
not-lt-le (negsuc a) (negsuc b) h = le-leb a b (ltb-false b a h)

pub lt-le : (a b : ℤ) → lt_z a b ≡ true → le_z a b ≡ true
lt-le a b h = le_total b a (lt_not_le a b h)

-- ---- equality, beside std's `Decides-int_eq`
pub int_eq-no : (a b : ℤ) → (a ≡ b → ⊥) → int_eq a b ≡ false
int_eq-no a b f = decide (int_eq a b) (λ t. absurd (f ((Decides-int_eq a b).0 t))) (λ e. e)
