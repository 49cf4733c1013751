use Rattle.std.proofs.Common.{◌≡◌, ◌≤◌, length, take}
use Rattle.std.specs.Int.Signed.{le_z}
use Rattle.std.specs.List.{count_by}
use Rattle.selection.proofs.count_le.Given as goal

abbrev pub invariant-loop-i : goal.invariant-loop-i
invariant-loop-i l = (l.i ≤ length l.xs) × (l.n ≤ l.i) × (l.n ≡ count_by (λ x. le_z x l.value) (take l.i l.xs))
