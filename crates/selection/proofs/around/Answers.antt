use Rattle.std.proofs.Common.{◌≡◌, ℤ, pos, ◌+ℤ◌, ◌-ℤ◌, ap, ◌∙◌}
use Rattle.signed.proofs.Bits.{back}
use Rattle.order.specs.Counts.{count_le, count_lt}
use Rattle.selection.proofs.Selecting.{previous, holds-below, following, holds-above}
use Rattle.selection.proofs.around.Goals as goal

pub overflow_sub-result : goal.overflow_sub-result
overflow_sub-result c =
    let xs = c.args.xs.now in
    let a = c.args.low in
    let r = c.between-bounds in
    let least = c.least-lowest in
    let n-is : r.result.below ≡ count_lt a xs = r.ensures.0.below_is ∙ ap (λ (v : ℤ). count_lt v xs) (r.ensures.1 ∙ back a c.ranges.low.sfits) in
    let d = previous xs c.args.k a c.ranges.low.sfits least.result least.type_inv least.ensures r.result.below n-is c.if-k-bounds.true in
    rw (back a c.ranges.low.sfits) (record { sfits = d.inside })

pub returns-then-k-bounds : goal.returns-then-k-bounds
returns-then-k-bounds c =
    let xs = c.args.xs.now in
    let a = c.args.low in
    let r = c.between-bounds in
    let least = c.least-lowest in
    let n-is : r.result.below ≡ count_lt a xs = r.ensures.0.below_is ∙ ap (λ (v : ℤ). count_lt v xs) (r.ensures.1 ∙ back a c.ranges.low.sfits) in
    let d = previous xs c.args.k a c.ranges.low.sfits least.result least.type_inv least.ensures r.result.below n-is c.if-k-bounds.true in
    rw (back a c.ranges.low.sfits, back least.result least.type_inv, back (a -ℤ pos 1) d.inside)
    (holds-below xs c.args.k a c.ranges.low.sfits least.result least.type_inv least.ensures r.result.below n-is c.if-k-bounds.true)

pub overflow_add-result : goal.overflow_add-result
overflow_add-result c =
    let xs = c.args.xs.now in
    let b = c.args.high in
    let r = c.between-bounds in
    let greatest = c.greatest-highest in
    let n-is : r.result.up_to ≡ count_le b xs = r.ensures.0.up_to_is ∙ ap (λ (v : ℤ). count_le v xs) (r.ensures.2 ∙ back b c.ranges.high.sfits) in
    let s = following xs c.args.k b c.ranges.high.sfits greatest.result greatest.type_inv greatest.ensures c.requires r.result.up_to n-is c.if-bounds-k.true in
    rw (back b c.ranges.high.sfits) (record { sfits = s.inside })

pub returns-then-bounds-k : goal.returns-then-bounds-k
returns-then-bounds-k c =
    let xs = c.args.xs.now in
    let b = c.args.high in
    let r = c.between-bounds in
    let greatest = c.greatest-highest in
    let n-is : r.result.up_to ≡ count_le b xs = r.ensures.0.up_to_is ∙ ap (λ (v : ℤ). count_le v xs) (r.ensures.2 ∙ back b c.ranges.high.sfits) in
    let s = following xs c.args.k b c.ranges.high.sfits greatest.result greatest.type_inv greatest.ensures c.requires r.result.up_to n-is c.if-bounds-k.true in
    rw (back b c.ranges.high.sfits, back greatest.result greatest.type_inv, back (b +ℤ pos 1) s.inside)
    (holds-above xs c.args.k b c.ranges.high.sfits greatest.result greatest.type_inv greatest.ensures c.requires r.result.up_to n-is c.if-bounds-k.true)
