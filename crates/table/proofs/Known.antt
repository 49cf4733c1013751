-- What is read of an accepted table. Assumes nothing.
use Prim.Native.Nat.{ℕ, ◌<◌}
use lib.ListN.{length}
use mathlib.Core.Path.{◌≡◌}
use mathlib.Core.Bool.{false}
use Rattle.std.specs.Prelude.{Ok}
use Rattle.rules.specs.Records.{Table}
use Rattle.rules.specs.Rules.{check_of}
use Rattle.rules.proofs.Accepted.{accepted}

-- the lent lengths fit, and there is a segment
pub even : (t : Table) (n : ℕ) → check_of t ≡ Ok n → t.uneven ≡ false
even t n e = (accepted t n e).even

pub some : (t : Table) (n : ℕ) → check_of t ≡ Ok n → 0 < length t.segments
some t n e = (accepted t n e).some-segments
