use Rattle.std.proofs.Common.{◌≡◌, ◌∙◌, sym, ap, arith}
use Rattle.boxes.specs.Boxes.{header_at}
use Rattle.boxes.specs.declared.Header.TheVariants.{Whole}
use Rattle.boxes.specs.declared.Walk.TheVariants.{Found}
use Rattle.boxes.proofs.Sizes.{lies}
use Rattle.boxes.proofs.Searches.{search-stops, search-breaks, search-finds, search-passes}
use Rattle.boxes.proofs.search.find.Goals as goal

pub loop-child-smaller : goal.loop-child-smaller
loop-child-smaller c = omega (arith, lies _ _ (sym c.in-Whole.is ∙ c.header_at-header.ensures))

pub loop-child-preserved : goal.loop-child-preserved
loop-child-preserved c =
    let e : Whole c.in-Whole.child ≡ header_at c.args.bytes.now c.loop-child.at = sym c.in-Whole.is ∙ c.header_at-header.ensures in
    ((lies _ _ e).2, sym (search-passes _ _ _ e c.args.text_types c.is_text.ensures c.if-text_types-is_text.false c.if-child-kind.false) ∙ c.loop-child.invariant.1)

pub returns-in_default : goal.returns-in_default
returns-in_default c =
    c.stopped.ensures ∙ sym (search-stops _ _ _ c.args.text_types c.header_at-header.ensures c.in_default.not-Whole) ∙ c.loop-child.invariant.1

pub returns-then-text_types-is_text : goal.returns-then-text_types-is_text
returns-then-text_types-is_text c =
    sym (search-breaks _ _ _ (sym c.in-Whole.is ∙ c.header_at-header.ensures) c.args.text_types c.is_text.ensures c.if-text_types-is_text.true)
    ∙ c.loop-child.invariant.1

pub returns-then-child-kind : goal.returns-then-child-kind
returns-then-child-kind c =
    ap Found c.payload.ensures
    ∙ sym (search-finds _ _ _ (sym c.in-Whole.is ∙ c.header_at-header.ensures) c.args.text_types c.is_text.ensures c.if-text_types-is_text.false c.if-child-kind.true)
    ∙ c.loop-child.invariant.1
