use Rattle.std.proofs.lemmas.List.Filters.{FiltersInPlace}
use Rattle.std.specs.Int.Signed.{le_z}
use mathlib.Core.Bool.{◌&&◌}
use Rattle.selection.proofs.keep.Given as goal

abbrev pub invariant-loop-i : goal.invariant-loop-i
invariant-loop-i l = FiltersInPlace (λ x. le_z l.low x && le_z x l.high) l.fn.xs l.xs l.kept l.i
