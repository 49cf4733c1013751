-- An edit's time in media ticks, as the program makes it. Assumes nothing.
use Rattle.std.specs.Prelude.{Some, None, if◌then◌else◌}
use mathlib.Core.Path.{◌≡◌, sym, ap, ◌∙◌}
use Prim.Native.Nat.{ℕ, ◌+◌, ◌*◌, ◌/◌, ◌^◌, ◌≤◌, ◌<◌}
use native.Mathlib.Omega.{arith}
use lib.Dec.{ltb}
use borrow.Author.Tests.{lt-ltb, le-ltb}
use Rattle.ticks.specs.Ticks.{edit_ticks, media_ticks}

-- t the product, u the sum with half the movie's scale, q the quotient
pub ticks-are : (d s m t u q : ℕ) → t ≡ d * s → u ≡ t + (0 + m / 2) → q ≡ u / m → q ≡ edit_ticks d s m
ticks-are d s m t u q et eu eq = let z : u ≡ d * s + m / 2 = omega arith in eq ∙ ap (λ n. n / m) z

module _ (d s m : ℕ) {q : ℕ} (e : q ≡ edit_ticks d s m) where
  pub ticks-held : q < 2 ^ 63 → Some q ≡ media_ticks d s m
  unfolding media_ticks
  ticks-held h = (λ i. if sym (lt-ltb q 9223372036854775808 h) i then Some q else None) ∙ (λ i. if ltb (e i) 9223372036854775808 then Some (e i) else None)

  pub ticks-past : 2 ^ 63 ≤ q → None ≡ media_ticks d s m
  unfolding media_ticks
  ticks-past h = (λ i. if sym (le-ltb q 9223372036854775808 h) i then Some q else None) ∙ (λ i. if ltb (e i) 9223372036854775808 then Some (e i) else None)

-- what `edit_ticks` takes from its quotient
pub ruleset quotients = (ticks-are, ticks-held, ticks-past)
