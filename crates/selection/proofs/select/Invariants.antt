use Rattle.std.proofs.Common.{◌≤◌, ◌+◌, ◌-◌, length, get_or, take, pos}
use Rattle.signed.proofs.Up.{up}
use Rattle.order.specs.Order.{sorted}
use Rattle.selection.proofs.Selecting.{Chosen}
use Rattle.selection.proofs.select.Given as goal

abbrev pub invariant-loop-low : goal.invariant-loop-low
invariant-loop-low l =
    (l.left ≤ length l.xs) × Chosen (get_or (sorted l.fn.xs) l.k (pos 0)) (take l.left l.xs) l.rank l.low l.high l.below l.up_to

abbrev pub decreases-loop-low : goal.decreases-loop-low
decreases-loop-low l = l.left + (up l.high - up l.low)
