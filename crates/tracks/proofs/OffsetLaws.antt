-- What is taken off an offset makes it the offset of the definition. Assumes nothing.
use mathlib.Core.Path.{◌≡◌}
use mathlib.Core.Bool.{Bool, true, false}
use Prim.Native.Nat.{ℕ, ◌<◌, ◌^◌}
use native.Mathlib.Omega.{arith}
use Rattle.std.proofs.lemmas.Int.{ints}
use Rattle.std.proofs.lemmas.Bool.Decides.{nat_tests}
use Rattle.tracks.specs.Tables.{offset_of}
use Rattle.tracks.specs.Opening.{offset_wrap, wrapped}

pub offset_wrapped : (u : Bool) (x : ℕ) → x < 2 ^ 32 → wrapped (offset_wrap u) x ≡ offset_of u x
offset_wrapped true x h = grind (arith, ints, nat_tests)
offset_wrapped false x h = grind (arith, ints, nat_tests)
