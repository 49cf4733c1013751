use Rattle.std.proofs.Common.{arith, rules, refl, ap, ◌≡◌, ◌∙◌, ◌+◌, ◌-◌, ◌<◌, ℕ, false, [], length, take, drop, map}
use Rattle.std.proofs.lemmas.List.{length-set, take-set-le}
use Rattle.json_values.specs.declared.Turn.{Turn}
use Rattle.sorted_names.specs.Sorted.{name_at}
use Rattle.json_documents.proofs.Leaves.{value-flat, value-list, value-object, value-plain}
use Rattle.json_documents.proofs.Members.{also, also-all, finish, finish-all}
use Rattle.json_documents.proofs.Loops.{items_on, members_on, list-done, list-bad, list-torn, list-on, list-less, object-done, object-bad, object-none}
use Rattle.json_documents.proofs.Loops.{object-torn, object-on, object-less, below-next, below-opened, below-after}
use Rattle.json_documents.proofs.Named.{value-long, name-long}
use Rattle.json_documents.proofs.Stack.{put-on, kept-below}
use Rattle.json_documents.proofs.+documents.Goals as goal

pub list-loop-turn-init : goal.list-loop-turn-init
list-loop-turn-init t c = record {
  below = below-opened c.args.top 0x5d c.args.text.now c.args.at c.opened-turn.result c.opened-turn.ensures c.requires.below;
  kept = refl;
  whole = ap (λ (u : Turn). also false (items_on c.args.text.now c.args.left u)) c.opened-turn.ensures ∙ also-all _;
}

pub list-returns-in-Done-clause-seen : goal.list-returns-in-Done-clause-seen
list-returns-in-Done-clause-seen t c = list-done c.args.text.now c.args.left c.loop-turn.repeats c.loop-turn.invariant.whole c.in-Done.end c.in-Done.is

pub list-returns-in-Bad-clause-seen : goal.list-returns-in-Bad-clause-seen
list-returns-in-Bad-clause-seen t c = list-bad c.args.text.now c.args.left c.loop-turn.repeats c.loop-turn.invariant.whole c.in-Bad.is

pub list-value-requires : goal.list-value-requires
list-value-requires t c =
    let below = below-next c.args.top c.in-Next.i c.loop-turn.turn c.in-Next.is c.loop-turn.invariant.below in
    (search rules, (c.requires.short, (omega arith, (below, omega arith))))

pub list-returns-in_err-item-in-Next-clause-seen : goal.list-returns-in_err-item-in-Next-clause-seen
list-returns-in_err-item-in-Next-clause-seen t c =
    c.from_residual.ensures
    ∙ list-torn c.args.text.now c.args.left c.loop-turn.repeats c.loop-turn.invariant.whole c.in-Next.i c.in-Next.is c.in_err-item-in-Next.ensures.seen

pub list-loop-turn-smaller : goal.list-loop-turn-smaller
list-loop-turn-smaller t c =
    list-less c.args.text.now c.args.left c.loop-turn.repeats c.loop-turn.invariant.whole c.in-Next.i c.in-Next.is c.in_ok-item-in-Next.item
    c.in_ok-item-in-Next.ensures.seen c.after-turn.result c.after-turn.ensures

pub list-loop-turn-preserved : goal.list-loop-turn-preserved
list-loop-turn-preserved t c =
    let below = below-next c.args.top c.in-Next.i c.loop-turn.turn c.in-Next.is c.loop-turn.invariant.below in
    let value = value-long c.args.text.now c.args.left c.in-Next.i c.in_ok-item-in-Next.item c.in_ok-item-in-Next.ensures.seen in
    record {
      below = below-after c.args.top 0x5d c.args.text.now c.in_ok-item-in-Next.item.end c.after-turn.result c.after-turn.ensures (omega (arith, value.0));
      kept = c.in_ok-item-in-Next.ensures.kept ∙ c.loop-turn.invariant.kept;
      whole = list-on c.args.text.now c.args.left c.loop-turn.repeats c.loop-turn.invariant.whole c.in-Next.i c.in-Next.is c.in_ok-item-in-Next.item
          c.in_ok-item-in-Next.ensures.seen c.after-turn.result c.after-turn.ensures;
    }

pub object-loop-turn-init : goal.object-loop-turn-init
object-loop-turn-init t c =
    let none : c.args.bottom - c.args.bottom ≡ 0 = omega arith in
    record {
      ordered = omega arith;
      within = c.requires.within;
      below = below-opened c.args.bottom 0x7d c.args.text.now c.args.at c.opened-turn.result c.opened-turn.ensures c.requires.below;
      kept = refl;
      whole =
          ap (λ (n : ℕ). finish (map (name_at c.args.text.now) (take n (drop c.args.bottom c.args.work.now))) false
          (members_on c.args.text.now c.args.left c.opened-turn.result)) none
          ∙ ap (λ (u : Turn). finish [] false (members_on c.args.text.now c.args.left u)) c.opened-turn.ensures
          ∙ finish-all _;
    }

pub object-returns-in-Done-clause-seen : goal.object-returns-in-Done-clause-seen
object-returns-in-Done-clause-seen t c =
    object-done c.args.text.now c.args.left _ c.loop-turn.repeats c.loop-turn.invariant.whole c.in-Done.end c.repeats_between-twice.result c.in-Done.is
    c.repeats_between-twice.ensures.said

pub object-returns-in-Bad-clause-seen : goal.object-returns-in-Bad-clause-seen
object-returns-in-Bad-clause-seen t c = object-bad c.args.text.now c.args.left _ c.loop-turn.repeats c.loop-turn.invariant.whole c.in-Bad.is

pub object-returns-in_err-at-in-Next-clause-seen : goal.object-returns-in_err-at-in-Next-clause-seen
object-returns-in_err-at-in-Next-clause-seen t c =
    c.from_residual.ensures
    ∙ object-none c.args.text.now c.args.left _ c.loop-turn.repeats c.loop-turn.invariant.whole c.in-Next.name c.in-Next.is c.in_err-at-in-Next.ensures

pub object-value-requires : goal.object-value-requires
object-value-requires t c =
    let below = below-next c.loop-turn.top c.in-Next.name c.loop-turn.turn c.in-Next.is c.loop-turn.invariant.below in (
      search rules,
      (
        c.requires.short,
        (omega arith, (omega (arith, name-long c.args.text.now c.in-Next.name c.in_ok-at-in-Next.at c.in_ok-at-in-Next.ensures), omega arith)),
      ),
    )

pub object-returns-in_err-member-in-Next-clause-seen : goal.object-returns-in_err-member-in-Next-clause-seen
object-returns-in_err-member-in-Next-clause-seen t c =
    c.from_residual-in_err-member-in-Next.ensures
    ∙ object-torn c.args.text.now c.args.left _ c.loop-turn.repeats c.loop-turn.invariant.whole c.in-Next.name c.in-Next.is c.in_ok-at-in-Next.at
    c.in_ok-at-in-Next.ensures c.in_err-member-in-Next.ensures.seen

pub object-returns-in_err-member-in-Next-clause-kept : goal.object-returns-in_err-member-in-Next-clause-kept
object-returns-in_err-member-in-Next-clause-kept t c =
    kept-below c.args.bottom c.loop-turn.top c.value.new.work c.loop-turn.work c.loop-turn.invariant.ordered
    (omega arith) c.loop-turn.invariant.within c.in_err-member-in-Next.ensures.kept
    ∙ c.loop-turn.invariant.kept

pub object-bounds-work-top : goal.object-bounds-work-top
object-bounds-work-top t c =
    let below = below-next c.loop-turn.top c.in-Next.name c.loop-turn.turn c.in-Next.is c.loop-turn.invariant.below in
    let name = name-long c.args.text.now c.in-Next.name c.in_ok-at-in-Next.at c.in_ok-at-in-Next.ensures in
    let value = value-long c.args.text.now c.args.left c.in_ok-at-in-Next.at c.in_ok-member-in-Next.member c.in_ok-member-in-Next.ensures.seen in
    omega (arith, value.0, value.1)

pub object-loop-turn-smaller : goal.object-loop-turn-smaller
object-loop-turn-smaller t c =
    object-less c.args.text.now c.args.left _ c.loop-turn.repeats c.loop-turn.invariant.whole c.in-Next.name c.in-Next.is c.in_ok-at-in-Next.at
    c.in_ok-at-in-Next.ensures c.in_ok-member-in-Next.member c.in_ok-member-in-Next.ensures.seen c.after-turn.result c.after-turn.ensures

pub object-loop-turn-preserved : goal.object-loop-turn-preserved
object-loop-turn-preserved t c =
    let old = c.loop-turn.invariant in
    let work = c.value.new.work in
    let below = below-next c.loop-turn.top c.in-Next.name c.loop-turn.turn c.in-Next.is old.below in
    let name = name-long c.args.text.now c.in-Next.name c.in_ok-at-in-Next.at c.in_ok-at-in-Next.ensures in
    let value = value-long c.args.text.now c.args.left c.in_ok-at-in-Next.at c.in_ok-member-in-Next.member c.in_ok-member-in-Next.ensures.seen in
    let inside : c.loop-turn.top < length work = omega (arith, value.0, value.1) in
    record {
      ordered = omega (arith, old.ordered);
      within = omega (arith, length-set work c.loop-turn.top c.in-Next.name);
      below = below-after (c.loop-turn.top + 1) 0x7d c.args.text.now c.in_ok-member-in-Next.member.end c.after-turn.result c.after-turn.ensures
          (omega (arith, value.0));
      kept =
          take-set-le c.args.bottom work c.loop-turn.top c.in-Next.name old.ordered
          ∙ kept-below c.args.bottom c.loop-turn.top work c.loop-turn.work old.ordered (omega arith) old.within c.in_ok-member-in-Next.ensures.kept
          ∙ old.kept;
      whole =
          object-on c.args.text.now c.args.left _ c.loop-turn.repeats old.whole c.in-Next.name c.in-Next.is c.in_ok-at-in-Next.at c.in_ok-at-in-Next.ensures
          c.in_ok-member-in-Next.member c.in_ok-member-in-Next.ensures.seen c.after-turn.result c.after-turn.ensures _
          (put-on c.args.bottom c.loop-turn.top work c.loop-turn.work c.in-Next.name old.ordered inside c.in_ok-member-in-Next.ensures.kept);
    }

pub value-returns-then-left-eq0-clause-seen : goal.value-returns-then-left-eq0-clause-seen
value-returns-then-left-eq0-clause-seen t c = c.leaf.ensures ∙ value-flat c.args.text.now c.args.left c.args.at c.if-left-eq0.true

pub value-returns-then-b-eq91-clause-seen : goal.value-returns-then-b-eq91-clause-seen
value-returns-then-b-eq91-clause-seen t c =
    c.list.ensures.seen ∙ value-list c.args.text.now c.args.left c.args.at c.byte_at-b.result c.if-left-eq0.false c.byte_at-b.ensures c.if-b-eq91.true

pub value-returns-then-b-eq123-clause-seen : goal.value-returns-then-b-eq123-clause-seen
value-returns-then-b-eq123-clause-seen t c =
    c.object.ensures.seen ∙ value-object c.args.text.now c.args.left c.args.at c.byte_at-b.result c.if-left-eq0.false c.byte_at-b.ensures c.if-b-eq123.true

pub value-returns-clause-seen : goal.value-returns-clause-seen
value-returns-clause-seen t c =
    c.leaf-2.ensures ∙ value-plain c.args.text.now c.args.left c.args.at c.byte_at-b.result c.byte_at-b.ensures c.if-b-eq91.false c.if-b-eq123.false
