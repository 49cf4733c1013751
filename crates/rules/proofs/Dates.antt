-- The bytes of a creation time whose range leaves the text. Assumes nothing.
use Prim.Native.Nat.{ℕ, ◌<◌}
use native.Mathlib.Omega.{arith}
use mathlib.Core.Path.{◌≡◌}
use mathlib.Core.Bool.{false}
use mathlib.Core.List.{List}
use lib.ListN.{length, take, drop, drop_of_length-le}
use lib.Seq.{take-nil}
use Rattle.utc.specs.Utc.{utc_second}

-- it starts past the text's end: no bytes
pub date-none : (text : List ℕ) (from size : ℕ) → length text < from → utc_second (take size (drop from text)) ≡ false
unfolding utc_second
date-none text from size h = rw (drop_of_length-le text {i = from} (omega arith), take-nil size)
