-- What "to the nearest", "most frequent" and "ascending" mean: by ticks' and order's laws of the definitions. Assumes
-- nothing.
use Prim.Native.Nat.{ℕ, ◌+◌, ◌*◌, ◌≤◌, ◌<◌}
use Rattle.std.specs.Ordering.{int_eq}
use mathlib.Core.Path.{sym, subst}
use lib.IntN.{ℤ}
use Rattle.ticks.proofs.Nearest.{nearest-near, nearest-only, rounded-negated}
use Rattle.order.specs.Order.{MostFrequent}
use Rattle.order.proofs.Sorted.{asc-sorted}
use Rattle.order.proofs.Counts.{count-sorted}
use Rattle.order.proofs.Mode.{mode-is, only-mode}
use Rattle.audit.specs.Claims.{Rounding, Ordering}

pub rounding : Rounding
rounding = record {
  halves = λ n d q h. (
    λ e. subst (λ (x : ℕ). (2 * (x * d) ≤ 2 * n + d) × (2 * n < 2 * (x * d) + d)) (sym e) (nearest-near n d h),
    λ p. nearest-only n d q p.0 p.1,
  );
  signs = rounded-negated;
}

pub ordering : Ordering
ordering = record {
  most = λ l v h. (λ e. subst (MostFrequent l) (sym e) (mode-is l h), only-mode l v);
  ascends = asc-sorted;
  keeps = λ v l. count-sorted (λ (x : ℤ). int_eq x v) l;
}
