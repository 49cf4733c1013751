-- Tests that say the same as a condition: a Bool of the code, and the words of specs/Grounds.antt. Assumes nothing.
use Prim.Native.Nat.{ℕ, zero, suc, ◌+◌, ◌≤◌, ◌<◌, zero-le, suc-le-suc}
use Rattle.std.specs.List.{list_any}
use native.Mathlib.Nat.{le_of_suc-le-suc, not-suc-le-zero}
use native.Mathlib.Omega.{arith}
use mathlib.Core.Path.{◌≡◌, refl, sym, ap, ◌∙◌, subst}
use mathlib.Core.Bool.{Bool, true, false, not, ◌||◌, ◌&&◌}
use mathlib.Core.List.{List, [], ◌∷◌}
use mathlib.Core.Logic.{◌⊎◌, inl, inr, ⊎_elim}
use lib.ListN.{length, get_or}
use lib.Dec.{T, ltb, leb, eqb}
use lib.IntN.{ℤ, pos, negsuc, nat_abs, ◌+ℤ◌}
use lib.Signed.{lt_z, le_z, ◌<ℤ◌, ◌≤ℤ◌}
use borrow.Author.Tests.{ltb-true, ltb-false, leb-true, leb-false, eqb-true, eqb-false}
use Rattle.conditions.specs.Conditions.{past}
use Rattle.conditions.proofs.Tests.{tf}
use Rattle.rules.specs.Limits.{max_i64}
use Rattle.rules.specs.Rules.{negative}
use Rattle.std.specs.Prelude.{SomeIndex}

pub record Says (b : Bool) (C : Type 0) : Type 0 where
  pub holds : b ≡ true → C
  pub fails : b ≡ false → C → ⊥

pub is : (b : Bool) → Says b (b ≡ true)
is b = record { holds = λ e. e; fails = λ e q. tf (sym q ∙ e) }

pub isnt : (b : Bool) → Says (not b) (b ≡ false)
isnt true = record { holds = λ e. tf (sym e); fails = λ e q. tf q }
isnt false = record { holds = λ e. refl; fails = λ e q. tf e }

pub equal : (a b : ℕ) → Says (eqb a b) (a ≡ b)
equal a b = record { holds = eqb-true a b; fails = eqb-false a b }

pub less : (a b : ℕ) → Says (ltb a b) (a < b)
less a b = record { holds = ltb-true a b; fails = λ e h. omega (arith, ltb-false a b e) }

pub most : (a b : ℕ) → Says (leb a b) (a ≤ b)
most a b = record { holds = leb-true a b; fails = λ e h. omega (arith, leb-false a b e) }

pub passes : (a b m : ℕ) → Says (past a b m) (m < a + b)
unfolding past
passes a b m = less m (a + b)

pub either : {a b : Bool} {A B : Type 0} → Says a A → Says b B → Says (a || b) (A ⊎ B)
either {a} {b} {A} {B} p q = go a p
  where
    go : (a : Bool) → Says a A → Says (a || b) (A ⊎ B)
    go true s = record { holds = λ e. inl (s.holds refl); fails = λ e x. tf e }
    go false s = record { holds = λ e. inr (q.holds e); fails = λ e x. ⊎_elim (λ y. s.fails refl y) (λ y. q.fails e y) x }

pub both : {a b : Bool} {A B : Type 0} → Says a A → Says b B → Says (a && b) (A × B)
both {a} {b} {A} {B} p q = go a p
  where
    go : (a : Bool) → Says a A → Says (a && b) (A × B)
    go true s = record { holds = λ e. (s.holds refl, q.holds e); fails = λ e x. q.fails e x.1 }
    go false s = record { holds = λ e. tf (sym e); fails = λ e x. s.fails refl x.0 }

pub unless : {b : Bool} {C : Type 0} → Says b C → Says (not b) (C → ⊥)
unless {b} {C} p = go b p
  where
    go : (b : Bool) → Says b C → Says (not b) (C → ⊥)
    go true s = record { holds = λ e. tf (sym e); fails = λ e f. f (s.holds refl) }
    go false s = record { holds = λ e. s.fails refl; fails = λ e f. tf e }

-- three alternatives, however they are bracketed
pub three : {b : Bool} {A B C : Type 0} → Says b ((A ⊎ B) ⊎ C) → Says b (A ⊎ B ⊎ C)
three {b} {A} {B} {C} s = record {
  holds = λ e. ⊎_elim (λ x. ⊎_elim inl (λ y. inr (inl y)) x) (λ y. inr (inr y)) (s.holds e);
  fails = λ e x. s.fails e (⊎_elim (λ a. inl (inl a)) (λ y. ⊎_elim (λ b. inl (inr b)) inr y) x);
}

-- some record passes
abbrev Some : {A : Type 0} → A → (A → Type 0) → List A → Type 0
Some d P l = SomeIndex l (λ k. P (get_or l k d))

pub some : {A : Type 0} (p : A → Bool) (P : A → Type 0) (d : A) (l : List A) → ((a : A) → Says (p a) (P a))
    → Says (list_any p l) (SomeIndex l (λ k. P (get_or l k d)))
some p P d [] s = record { holds = λ e. tf (sym e); fails = λ e x. not-suc-le-zero x.1 }
some {A} p P d (a ∷ l) s = go (either (s a) (some p P d l s))
  where
    split : (k : ℕ) → k < suc (length l) → P (get_or (a ∷ l) k d) → P a ⊎ Some d P l
    split zero h q = inl q
    split (suc k) h q = inr (k, le_of_suc-le-suc h, q)

    go : Says (p a || list_any p l) (P a ⊎ Some d P l) → Says (p a || list_any p l) (Some d P (a ∷ l))
    go w = record {
      holds = λ e. ⊎_elim (λ q. (0, suc-le-suc zero-le, q)) (λ x. (suc x.0, suc-le-suc x.1, x.2)) (w.holds e);
      fails = λ e x. w.fails e (split x.0 x.1 x.2);
    }

-- ---- integers
truth : {b : Bool} → b ≡ true → T b
truth e = subst T (sym e) tt

untruth : {b : Bool} → b ≡ false → T b → ⊥
untruth e x = subst T e x

pub below : (a b : ℤ) → Says (lt_z a b) (a <ℤ b)
below a b = record { holds = λ e. record { lt = truth e }; fails = λ e x. untruth e x.lt }

pub no-more : (a b : ℤ) → Says (le_z a b) (a ≤ℤ b)
no-more a b = record { holds = λ e. record { le = truth e }; fails = λ e x. untruth e x.le }

-- sums of times that are not negative
pub late : (a b : ℤ) → negative a ≡ false → negative b ≡ false
    → Says (past (nat_abs a) (nat_abs b) max_i64) (pos max_i64 <ℤ (a +ℤ b))
unfolding past
late (pos m) (pos n) p q = below (pos max_i64) (pos (m + n))
late (pos m) (negsuc n) p q = tf q
late (negsuc m) b p q = tf p

pub gap : (a b z : ℤ) → negative a ≡ false → negative b ≡ false → negative z ≡ false
    → Says (not (eqb (nat_abs z) (nat_abs a + nat_abs b))) (z ≡ a +ℤ b → ⊥)
gap (pos m) (pos n) (pos k) p q r = unless (record { holds = λ e. ap pos (eqb-true k (m + n) e); fails = λ e x. eqb-false k (m + n) e (ap nat_abs x) })
gap (pos m) (pos n) (negsuc k) p q r = tf r
gap (pos m) (negsuc n) z p q r = tf q
gap (negsuc m) b z p q r = tf p

-- a shift outside 0..modulus
pub outside : (z : ℤ) (m : ℕ) → Says (negative z || leb m (nat_abs z)) ((z <ℤ pos 0) ⊎ (pos m ≤ℤ z))
outside (pos n) m = either (below (pos n) (pos 0)) (no-more (pos m) (pos n))
outside (negsuc n) m = record { holds = λ e. inl (record { lt = tt }); fails = λ e. tf e }
