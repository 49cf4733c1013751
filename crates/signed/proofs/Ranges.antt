-- Whether an i64 holds a number: the test, what it answers of each, and what std's checked methods answer. Assumes
-- nothing.
use Rattle.std.specs.Option.{SomeIff}
use Rattle.std.proofs.lemmas.Bool.{or_parts}
use Rattle.std.specs.Prelude.{if◌then◌else◌, ◌||◌, Option, Some, None}
use mathlib.Core.Path.{◌≡◌, sym, ap, ◌∙◌}
use mathlib.Core.Bool.{Bool, true, false}
use Prim.Native.Nat.{ℕ, zero, suc, ◌≤◌, ◌<◌, ◌^◌}
use native.Mathlib.Omega.{arith}
use lib.IntN.{ℤ, pos, negsuc}
use lib.Signed.{mag}
use mir.Syntax.{w64}
use mir.Val.{SFits}
use borrow.Author.Tests.{lt-ltb, le-ltb, ltb-false}
use Rattle.conditions.proofs.Tests.{decide}
use Rattle.signed.specs.Signed.{is_outside, as_i64, with_sign}
use Rattle.signed.specs.Fits.{I64}

pub not_outside : (z : ℤ) → I64 z → is_outside z ≡ false
not_outside (pos n) h = le-ltb 9223372036854775807 n (omega arith)
not_outside (negsuc n) h = ap (λ (t : Bool). t || false) (le-ltb 9223372036854775807 n (omega arith))

pub outside : (z : ℤ) → 2 ^ 63 ≤ mag z → is_outside z ≡ true
outside (pos n) h = lt-ltb 9223372036854775807 n h
outside (negsuc n) h = ap (λ (t : Bool). t || false) (lt-ltb 9223372036854775807 n h)

pub inside : (z : ℤ) → is_outside z ≡ false → I64 z
inside (pos n) e = omega (arith, ltb-false 9223372036854775807 n e)
inside (negsuc n) e = omega (arith, ltb-false 9223372036854775807 n (or_parts _ _ e).0)

pub is_some : (z : ℤ) → I64 z → Some z ≡ as_i64 z
is_some z h = sym (ap (λ (t : Bool). if t then None else Some z) (not_outside z h))

pub is_none : (z : ℤ) → 2 ^ 63 ≤ mag z → None ≡ as_i64 z
is_none z h = sym (ap (λ (t : Bool). if t then None else Some z) (outside z h))

-- a magnitude that no sign brings into range
pub far : (negative : Bool) (n : ℕ) → 2 ^ 63 < n → None ≡ as_i64 (with_sign negative n)
far true zero h = absurd (omega arith)
far true (suc n) h = is_none (negsuc n) (omega arith)
far false n h = is_none (pos n) (omega arith)

-- the answer of `checked_add` and the like
pub checked_is : (r : Option ℤ) (z : ℤ) → SomeIff r (SFits w64 z) z → r ≡ as_i64 z
checked_is None z h = decide (is_outside z) (λ e. rw e) (λ e. absurd (h (record { sfits = inside z e })))
checked_is (Some x) z h = ap Some h.1 ∙ is_some z h.0.sfits

-- what an answer says of the number
none_some : {z : ℤ} → ◌≡◌ {A = Option ℤ} None (Some z) → ⊥
none_some e = let n : ◌≡◌ {A = ℕ} 0 1 = cc in omega arith

pub held : (z y : ℤ) → as_i64 z ≡ Some y → (is_outside z ≡ false) × (y ≡ z)
held z y e = decide (is_outside z) (λ t. absurd (none_some (rw t at e))) (λ f. let s : Some z ≡ Some y = rw f at e in (f, cc))

pub lost : (z : ℤ) → as_i64 z ≡ None → is_outside z ≡ true
lost z e = decide (is_outside z) (λ t. t) (λ f. absurd (none_some (sym (rw f at e))))
