-- What the edit of two entries takes from its tests, and from its empty ticks. Assumes nothing.
use Rattle.std.specs.Prelude.{Some}
use mathlib.Core.Path.{◌≡◌}
use Prim.Native.Nat.{ℕ, ◌<◌, ◌^◌}
use native.Mathlib.Omega.{arith}
use borrow.Author.Tests.{lt-ltb, le-ltb}
use Rattle.std.proofs.lemmas.Bool.Decides.{Decides-int_eq, nat_tests}
use Rattle.ticks.specs.Ticks.{media_ticks}

pub ticks-small : (d s m : ℕ) {n : ℕ} → Some n ≡ media_ticks d s m → n < 2 ^ 63
unfolding media_ticks
ticks-small d s m e = grind (arith, nat_tests)

pub ruleset twos = (lt-ltb, le-ltb, Decides-int_eq, ticks-small)
