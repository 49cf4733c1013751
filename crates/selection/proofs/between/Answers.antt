use Rattle.std.proofs.Common.{◌≡◌, ℤ, ◌+◌, ◌≤◌, get_or, take, pos, arith}
use Rattle.std.specs.Int.Signed.{le_z, lt_z}
use Rattle.std.specs.List.{count_by}
use Rattle.std.proofs.lemmas.List.Sums.{count_by_more_yes, count_by_more_no}
use Rattle.signed.proofs.Bits.{read, back}
use Rattle.selection.proofs.between.Goals.{then-x-low, else-x-low, then-x-high, else-x-high}
use Rattle.selection.proofs.between.Goals as goal

pub loop-i-preserved : goal.loop-i-preserved
loop-i-preserved c =
    let i = c.loop-i.i in
    let xs = c.args.xs.now in
    let same = back (get_or xs i (pos 0)) (omega arith) in
    let f = λ (x : ℤ). lt_z x (read c.args.low) in
    let g = λ (x : ℤ). le_z x (read c.args.high) in
    let below : (c.if-x-low.below ≤ i + 1) × (c.if-x-low.below ≡ count_by f (take (i + 1) xs)) = elim c.if-x-low.branch [
      | then-x-low w ↦ omega (arith, count_by_more_yes f xs i (pos 0) (omega arith) (rw same at w.if-x-low.true))
      | else-x-low w ↦ omega (arith, count_by_more_no f xs i (pos 0) (omega arith) (rw same at w.if-x-low.false))
    ] in
    let up_to : (c.if-x-high.up_to ≤ i + 1) × (c.if-x-high.up_to ≡ count_by g (take (i + 1) xs)) = elim c.if-x-high.branch [
      | then-x-high w ↦ omega (arith, count_by_more_yes g xs i (pos 0) (omega arith) (rw same at w.if-x-high.true))
      | else-x-high w ↦ omega (arith, count_by_more_no g xs i (pos 0) (omega arith) (rw same at w.if-x-high.false))
    ] in
    record { inside = omega arith; below-few = below.0; up_to_few = up_to.0; below_is = below.1; up_to_is = up_to.1 }
