-- Of a range of numbers: how many elements of a list lie below and up to it, and that the k-th smallest lies in it; for
-- contracts inside this crate.
use Rattle.std.specs.Prelude.{ℕ, ◌≤◌, ◌<◌, List, ◌≡◌, ℤ}
use Rattle.order.specs.Counts.{count_le, count_lt}
use Rattle.selection.specs.declared.Bounds.{Bounds}

-- the counts of a range are those of xs
pub record BoundsCounted (xs : List ℤ) (bounds : Bounds) : Type 0 where
  pub below_is : bounds.below ≡ count_lt bounds.low xs
  pub up_to_is : bounds.up_to ≡ count_le bounds.high xs

-- and the k-th smallest of xs lies in it: at most k are below it, and more than k at most its greatest
pub record BoundsHold (xs : List ℤ) (k : ℕ) (bounds : Bounds) : Type 0 where
  pub counts_are : BoundsCounted xs bounds
  pub below_low : bounds.below ≤ k
  pub up_to_high : k < bounds.up_to
