use Rattle.std.proofs.Common.{arith, sym, refl, ◌∙◌}
use Rattle.boxes.proofs.Sizes.{fits, short, by_size}
use Rattle.boxes.proofs.size.any_header_at.Goals as goal

pub returns-then-left-lt8 : goal.returns-then-left-lt8
returns-then-left-lt8 c = short _ _ (omega arith)

pub returns-in_default : goal.returns-in_default
returns-in_default c = by_size _ _ (omega arith) refl (sym c.in_default.is ∙ c.size_of.ensures)

pub overflow_add-start : goal.overflow_add-start
overflow_add-start c = omega (arith, fits _ _ (sym c.in-Some.is ∙ c.size_of.ensures))

pub overflow_sub-len : goal.overflow_sub-len
overflow_sub-len c = omega (arith, fits _ _ (sym c.in-Some.is ∙ c.size_of.ensures))

pub overflow_add-next : goal.overflow_add-next
overflow_add-next c = omega (arith, fits _ _ (sym c.in-Some.is ∙ c.size_of.ensures))

pub returns : goal.returns
returns c = by_size _ _ (omega arith) c.be32.ensures (sym c.in-Some.is ∙ c.size_of.ensures)
