-- Tests, their answers, and what follows from each. Assumes nothing.
--     Test, test         a test with the equation of its answer
--     decide, either     by cases on a test; a fact of what it chooses
--     le-or-lt, same-    orders of numbers as tests
--     tests, sums        rulesets: `search tests` where a definition tests what the code tests
use Rattle.std.specs.Prelude.{if◌then◌else◌}
use mathlib.Core.Path.{◌≡◌, ◌∙◌, refl, sym}
use mathlib.Core.Bool.{Bool, true, false, true≢false, ◌&&◌}
use mathlib.Core.Logic.{◌⊎◌, inl, inr, ⊎_elim}
use Prim.Native.Nat.{ℕ, zero, suc, ◌+◌, ◌-◌, ◌≤◌, ◌<◌, zero-le, suc-le-suc}
use native.Mathlib.Omega.{arith}
use lib.Dec.{leb, ltb}
use mir.Syntax.{w64}
use mir.Val.{Fits}
use borrow.Author.Tests.{eq-eqb, ne_eqb, lt-ltb, le-ltb, le-leb, lt-leb}

-- a test, and the equation of its answer
pub data Test (b : Bool) : Type 0 where
  was : b ≡ true → Test b
  wasnt : b ≡ false → Test b

pub test : (b : Bool) → Test b
test true = was refl
test false = wasnt refl

-- by cases on a test, with what it says
pub decide : {X : Type 0} (b : Bool) → (b ≡ true → X) → (b ≡ false → X) → X
decide true f g = f refl
decide false f g = g refl

-- a fact of what a test chooses
pub either : {A : Type 0} (P : A → Type 0) (b : Bool) {x y : A} → (b ≡ true → P x) → (b ≡ false → P y)
    → P (if b then x else y)
either P true f g = f refl
either P false f g = g refl

-- true is not false
pub tf : {A : Type 0} → true ≡ false → A
tf e = absurd (true≢false e)

-- what a call's answer says of what its contract names
pub called : {A : Type 0} {r b v : A} → r ≡ b → r ≡ v → b ≡ v
called e t = sym e ∙ t

pub and-false : (b : Bool) → b && false ≡ false
and-false true = refl
and-false false = refl

-- a comparison, either way
pub le-or-lt : (a b : ℕ) → (a ≤ b) ⊎ (b < a)
le-or-lt zero b = inl zero-le
le-or-lt (suc a) zero = inr (suc-le-suc zero-le)
le-or-lt (suc a) (suc b) = ⊎_elim (λ p. inl (suc-le-suc p)) (λ q. inr (suc-le-suc q)) (le-or-lt a b)

-- two comparisons agree where each fact gives the other
pub same-leb : (a b x y : ℕ) → (a ≤ b → x ≤ y) → (b < a → y < x) → leb a b ≡ leb x y
same-leb a b x y f g = ⊎_elim (λ p. le-leb a b p ∙ sym (le-leb x y (f p))) (λ p. lt-leb a b p ∙ sym (lt-leb x y (g p))) (le-or-lt a b)

pub same-ltb : (a b x y : ℕ) → (a < b → x < y) → (b ≤ a → y ≤ x) → ltb a b ≡ ltb x y
same-ltb a b x y f g = ⊎_elim (λ p. le-ltb a b p ∙ sym (le-ltb x y (g p))) (λ p. lt-ltb a b p ∙ sym (lt-ltb x y (f p))) (le-or-lt b a)

-- a sum that is tested without making it
pub sum_past : (m a b : ℕ) → m - b < a → m < a + b
sum_past m a b h = omega arith

pub sum-past-second : (m a b : ℕ) → m < b → m < a + b
sum-past-second m a b h = omega arith

pub sum-within : (m a b : ℕ) → a ≤ m - b → b ≤ m → a + b ≤ m
sum-within m a b h k = omega arith

pub sum-within64 : (a b : ℕ) → a ≤ 18446744073709551615 - b → Fits w64 b → a + b ≤ 18446744073709551615
sum-within64 a b h k = omega (arith, k.fits)

pub ruleset sums = (sum_past, sum-past-second, sum-within, sum-within64)

pub ruleset tests = (eq-eqb, ne_eqb, lt-ltb, le-ltb, le-leb, lt-leb)
