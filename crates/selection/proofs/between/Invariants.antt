use Rattle.std.proofs.Common.{◌≡◌, ◌≤◌, length, take}
use Rattle.std.specs.Int.Signed.{le_z, lt_z}
use Rattle.std.specs.List.{count_by}
use Rattle.selection.proofs.between.Given as goal

abbrev pub invariant-loop-i : goal.invariant-loop-i
invariant-loop-i l = record {
  inside : l.i ≤ length l.xs;
  below-few : l.below ≤ l.i;
  up_to_few : l.up_to ≤ l.i;
  below_is : l.below ≡ count_by (λ x. lt_z x l.low) (take l.i l.xs);
  up_to_is : l.up_to ≡ count_by (λ x. le_z x l.high) (take l.i l.xs);
}
