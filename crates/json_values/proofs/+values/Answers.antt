use Rattle.std.proofs.Common.{◌∙◌, sym}
use Rattle.json_values.specs.Grammar.{item_at, member_at, value_at}
use Rattle.json_values.proofs.Values.{items-inside, members-end, item-same, member-none, member-torn, member-on, value-flat, value-list, value-object}
use Rattle.json_values.proofs.Values.{value-plain}
use Rattle.json_values.proofs.Loops.{walk-done, walk-bad, walk-torn, walk-on, walk-less}
use Rattle.json_values.proofs.+values.Goals as goal

pub list-returns-in-Done : goal.list-returns-in-Done
list-returns-in-Done t c =
    walk-done (item_at (value_at c.args.left c.args.text.now)) 0x5c c.args.text.now
    (items-inside c.args.text.now c.args.left) c.loop-turn.invariant c.in-Done.k c.in-Done.is

pub list-returns-in-Bad : goal.list-returns-in-Bad
list-returns-in-Bad t c =
    walk-bad (item_at (value_at c.args.left c.args.text.now)) 0x5c c.args.text.now (items-inside c.args.text.now c.args.left) c.loop-turn.invariant c.in-Bad.is

pub list-returns-in_err-e-in-Next : goal.list-returns-in_err-e-in-Next
list-returns-in_err-e-in-Next t c =
    c.from_residual.ensures
    ∙ walk-torn (item_at (value_at c.args.left c.args.text.now)) 0x5c c.args.text.now
    (items-inside c.args.text.now c.args.left) c.loop-turn.invariant c.in-Next.i c.in-Next.is
    (item-same (value_at c.args.left c.args.text.now) c.in-Next.i c.in_err-e-in-Next.ensures)

pub list-loop-turn-smaller : goal.list-loop-turn-smaller
list-loop-turn-smaller t c =
    walk-less (item_at (value_at c.args.left c.args.text.now)) 0x5c c.args.text.now
    (items-inside c.args.text.now c.args.left) c.loop-turn.invariant c.in-Next.i c.in_ok-e-in-Next.e c.after-turn.result c.in-Next.is
    (item-same (value_at c.args.left c.args.text.now) c.in-Next.i c.in_ok-e-in-Next.ensures) c.after-turn.ensures

pub list-loop-turn-preserved : goal.list-loop-turn-preserved
list-loop-turn-preserved t c =
    walk-on (item_at (value_at c.args.left c.args.text.now)) 0x5c c.args.text.now
    (items-inside c.args.text.now c.args.left) c.loop-turn.invariant c.in-Next.i c.in_ok-e-in-Next.e c.after-turn.result c.in-Next.is
    (item-same (value_at c.args.left c.args.text.now) c.in-Next.i c.in_ok-e-in-Next.ensures) c.after-turn.ensures

pub object-returns-in-Done : goal.object-returns-in-Done
object-returns-in-Done t c =
    walk-done (member_at (value_at c.args.left c.args.text.now) c.args.text.now) 0x7c c.args.text.now
    (members-end c.args.text.now c.args.left) c.loop-turn.invariant c.in-Done.k c.in-Done.is

pub object-returns-in-Bad : goal.object-returns-in-Bad
object-returns-in-Bad t c =
    walk-bad (member_at (value_at c.args.left c.args.text.now) c.args.text.now) 0x7c c.args.text.now
    (members-end c.args.text.now c.args.left) c.loop-turn.invariant c.in-Bad.is

pub object-returns-in_err-p-in-Next : goal.object-returns-in_err-p-in-Next
object-returns-in_err-p-in-Next t c =
    c.from_residual.ensures
    ∙ walk-torn (member_at (value_at c.args.left c.args.text.now) c.args.text.now) 0x7c c.args.text.now
    (members-end c.args.text.now c.args.left) c.loop-turn.invariant c.in-Next.i c.in-Next.is
    (member-none c.args.text.now (value_at c.args.left c.args.text.now) c.in-Next.i c.in_err-p-in-Next.ensures)

pub object-returns-in_err-e-in-Next : goal.object-returns-in_err-e-in-Next
object-returns-in_err-e-in-Next t c =
    c.from_residual-in_err-e-in-Next.ensures
    ∙ walk-torn (member_at (value_at c.args.left c.args.text.now) c.args.text.now) 0x7c c.args.text.now
    (members-end c.args.text.now c.args.left) c.loop-turn.invariant c.in-Next.i c.in-Next.is
    (member-torn c.args.text.now (value_at c.args.left c.args.text.now) c.in-Next.i c.in_ok-p-in-Next.p c.in_ok-p-in-Next.ensures c.in_err-e-in-Next.ensures)

pub object-loop-turn-smaller : goal.object-loop-turn-smaller
object-loop-turn-smaller t c =
    walk-less (member_at (value_at c.args.left c.args.text.now) c.args.text.now) 0x7c c.args.text.now
    (members-end c.args.text.now c.args.left) c.loop-turn.invariant c.in-Next.i c.in_ok-e-in-Next.e c.after-turn.result c.in-Next.is
    (member-on c.args.text.now (value_at c.args.left c.args.text.now) c.in-Next.i c.in_ok-p-in-Next.p c.in_ok-e-in-Next.e c.in_ok-p-in-Next.ensures
    c.in_ok-e-in-Next.ensures) c.after-turn.ensures

pub object-loop-turn-preserved : goal.object-loop-turn-preserved
object-loop-turn-preserved t c =
    walk-on (member_at (value_at c.args.left c.args.text.now) c.args.text.now) 0x7c c.args.text.now
    (members-end c.args.text.now c.args.left) c.loop-turn.invariant c.in-Next.i c.in_ok-e-in-Next.e c.after-turn.result c.in-Next.is
    (member-on c.args.text.now (value_at c.args.left c.args.text.now) c.in-Next.i c.in_ok-p-in-Next.p c.in_ok-e-in-Next.e c.in_ok-p-in-Next.ensures
    c.in_ok-e-in-Next.ensures) c.after-turn.ensures

pub value-returns-then-left-eq0 : goal.value-returns-then-left-eq0
value-returns-then-left-eq0 t c =
    c.plain.ensures ∙ value-flat c.args.text.now c.args.left c.args.at c.if-left-eq0.true

pub value-returns-then-b-eq91 : goal.value-returns-then-b-eq91
value-returns-then-b-eq91 t c =
    c.list.ensures ∙ value-list c.args.text.now c.args.left c.args.at c.if-left-eq0.false (sym c.byte_at-b.ensures ∙ c.if-b-eq91.true)

pub value-returns-then-b-eq123 : goal.value-returns-then-b-eq123
value-returns-then-b-eq123 t c =
    c.object.ensures ∙ value-object c.args.text.now c.args.left c.args.at c.if-left-eq0.false (sym c.byte_at-b.ensures ∙ c.if-b-eq123.true)

pub value-returns : goal.value-returns
value-returns t c =
    c.plain-2.ensures ∙ value-plain c.args.text.now c.args.left c.args.at c.if-left-eq0.false (λ z. c.if-b-eq91.false (c.byte_at-b.ensures ∙ z))
    (λ z. c.if-b-eq123.false (c.byte_at-b.ensures ∙ z))
