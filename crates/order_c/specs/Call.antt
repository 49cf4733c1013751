-- What `order_sort` answers and leaves. Assumes nothing: these are definitions.
use Rattle.std.specs.Prelude.{Bool, List, ◌≡◌, ℤ, length, if◌then◌else◌, nat_le}
use Rattle.order.specs.Order.{sorted}

-- it says whether scratch is long enough; then xs is left sorted, else as it was
pub record Sorts (xs scratch : List ℤ) (enough : Bool) (left : List ℤ) : Type 0 where
  pub answer : enough ≡ nat_le (length xs) (length scratch)
  pub slice : left ≡ (if nat_le (length xs) (length scratch) then sorted xs else xs)
