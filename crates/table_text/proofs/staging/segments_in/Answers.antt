use Rattle.std.proofs.Common.{arith, ◌∷◌, [], ◌+◌, ◌≤◌, length, refl}
use Rattle.json_walks.specs.Left.{items_left}
use Rattle.table_fields.specs.Found.{segment_at}
use Rattle.table_text.specs.Lists.{places, in_record}
use Rattle.table_text.proofs.Counts.{places_short}
use Rattle.table_text.proofs.Records.{lay-on, left-more}
use Rattle.table_text.proofs.Walked.{onward}
use Rattle.table_text.proofs.staging.segments_in.Goals as goal

pub overflow_add-count : goal.overflow_add-count
overflow_add-count c =
    let p = places_short c.args.text.now c.args.list in
    record { fits = omega (arith, c.loop-at.invariant.1, left-more c.in-Some.ensures.steps, p, c.requires) }

pub loop-at-preserved : goal.loop-at-preserved
loop-at-preserved c =
    let text = c.args.text.now in
    let all = places text c.args.list in
    let s = c.in-Some.ensures.steps in
    let n = c.loop-at.n in (
      onward (segment_at in_record text) all s c.loop-at.invariant.0 c.in_ok-segment_at.field-0 c.in_ok-segment_at.ensures,
      omega (arith, c.loop-at.invariant.1, left-more s),
      omega (arith, c.put_part-n.ensures.inside),
      λ room.
          let inv = c.loop-at.invariant.3 room in
          let fits : n + 1 ≤ length c.loop-at.out = omega (arith, inv.0, left-more s, room) in
          let put = c.put_part-n.ensures.written fits in (
            omega (arith, inv.0, left-more s, put.0),
            rw put.0 (lay-on c.loop-at.out _ (c.in-Some.at ∷ []) (items_left c.next.new.self) (items_left c.loop-at.at-iterator) n s refl fits put.1 inv.1),
          ),
    )
