-- Chains of tests that refuse: what an answer says of each link. Assumes nothing.
use mathlib.Core.Path.{◌≡◌, refl}
use mathlib.Core.Bool.{Bool, true, false}
use Rattle.std.specs.Prelude.{Result, Ok, Err, if◌then◌else◌}
use Rattle.std.specs.Result.{result_and}
use native.Mathlib.Omega.{arith}

module _ {A E : Type 0} where
  -- a test that refuses didn't hold
  pub if-ok : (b : Bool) (e : E) (rest : Result A E) (a : A) → (if b then Err e else rest) ≡ Ok a
      → (b ≡ false) × (rest ≡ Ok a)
  if-ok true e rest a h = absurd (grind arith)
  if-ok false e rest a h = (refl, h)

  -- neither of two refused
  pub and-ok : (x : Result (Unit {0}) E) (y : Result A E) (a : A) → result_and x y ≡ Ok a → (x ≡ Ok tt) × (y ≡ Ok a)
  and-ok (Ok u) y a h = (refl, h)
  and-ok (Err e) y a h = absurd (grind arith)

  -- an answer that nothing before it refused, and one that something did
  pub ok-of : (x : Result (Unit {0}) E) (a b : A) → result_and x (Ok a) ≡ Ok b → (x ≡ Ok tt) × (a ≡ b)
  ok-of (Ok u) a b h = (refl, grind arith)
  ok-of (Err e) a b h = absurd (grind arith)

  pub err-of : (x : Result (Unit {0}) E) (a : A) (e : E) → result_and x (Ok a) ≡ Err e → x ≡ Err e
  err-of (Ok u) a e h = absurd (grind arith)
  err-of (Err f) a e h = grind arith
