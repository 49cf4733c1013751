use Rattle.std.proofs.Common.{◌≡◌, ◌∙◌, sym, arith}
use Rattle.boxes.specs.Boxes.{header_at}
use Rattle.boxes.specs.declared.Header.TheVariants.{Whole}
use Rattle.boxes.proofs.Sizes.{lies}
use Rattle.boxes.proofs.Searches.{no_more, first_one, second-one, not-one}
use Rattle.boxes.proofs.mtrm.only_child.Goals as goal

pub loop-child-smaller-else-is_some : goal.loop-child-smaller-else-is_some
loop-child-smaller-else-is_some c = omega (arith, lies _ _ (sym c.in-Whole.is ∙ c.header_at-header.ensures))

pub loop-child-preserved-else-is_some : goal.loop-child-preserved-else-is_some
loop-child-preserved-else-is_some c =
    let e : Whole c.in-Whole.child ≡ header_at c.args.bytes.now c.loop-child.at = sym c.in-Whole.is ∙ c.header_at-header.ensures in
    ((lies _ _ e).2, rw c.payload.ensures (first_one _ _ _ e _ c.loop-child.invariant.1 (sym c.is_some.ensures ∙ c.if-is_some.false) c.if-child-kind.true))

pub loop-child-smaller : goal.loop-child-smaller
loop-child-smaller c = omega (arith, lies _ _ (sym c.in-Whole.is ∙ c.header_at-header.ensures))

pub loop-child-preserved : goal.loop-child-preserved
loop-child-preserved c =
    let e : Whole c.in-Whole.child ≡ header_at c.args.bytes.now c.loop-child.at = sym c.in-Whole.is ∙ c.header_at-header.ensures in
    ((lies _ _ e).2, not-one _ _ _ e _ c.loop-child.invariant.1 c.if-child-kind.false)

pub returns-in_default : goal.returns-in_default
returns-in_default c =
    c.ok_or.ensures.value ∙ rw c.at.ensures (no_more _ _ _ _ c.loop-child.invariant.1 c.header_at-header.ensures c.in_default.not-Whole)

pub returns-then-is_some : goal.returns-then-is_some
returns-then-is_some c =
    rw c.at-then-is_some.ensures
    (second-one _ _ _ (sym c.in-Whole.is ∙ c.header_at-header.ensures) _ c.loop-child.invariant.1 (sym c.is_some.ensures ∙ c.if-is_some.true) c.if-child-kind.true)
