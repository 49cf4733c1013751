use Rattle.std.proofs.Common.{arith, ◌≡◌, ◌∙◌, ◌+◌, ◌≤◌, ap, map, length}
use Rattle.std.specs.Prelude.{if◌then◌else◌, unwrap_or}
use Rattle.utc.specs.Utc.{utc_second}
use Rattle.json_walks.specs.Left.{items_left}
use Rattle.table_fields.specs.Found.{original_at}
use Rattle.table_text.specs.Lists.{places, in_record, created_bytes, no_original, original_in}
use Rattle.table_text.specs.Tables.{dated_by, dates_in, source_list, all_sources}
use Rattle.table_text.specs.Layout.{staged_in}
use Rattle.table_text.proofs.Counts.{places_short}
use Rattle.table_text.proofs.Records.{lay-on, lay-last, left-more, left-none, staged-more, staged-none, dates-size-more, dates-size-none, dates_bounded}
use Rattle.table_text.proofs.Walked.{onward, counted}
use Rattle.table_text.proofs.staging.sources_in.Goals as goal

pub overflow_add-dates : goal.overflow_add-dates
overflow_add-dates c =
    let text = c.args.text.now in
    let p = places_short text c.args.list in
    let b = dates_bounded text (places text c.args.list) c.requires in
    let is : c.in_ok-original.original ≡ original_in text c.in-Some.at = ap (λ o. unwrap_or o no_original) c.in_ok-original.ensures in
    let size = c.date_size-bytes.ensures.size ∙ ap (λ x. length (created_bytes text x.created)) is in
    record { fits = omega (arith, c.loop-at.invariant.2, dates-size-more c.in-Some.ensures.steps text, size, b, p, c.requires) }

pub overflow_add-count : goal.overflow_add-count
overflow_add-count c =
    let p = places_short c.args.text.now c.args.list in
    record { fits = omega (arith, c.loop-at.invariant.1, left-more c.in-Some.ensures.steps, p, c.requires) }

pub loop-at-preserved : goal.loop-at-preserved
loop-at-preserved c =
    let text = c.args.text.now in
    let all = places text c.args.list in
    let s = c.in-Some.ensures.steps in
    let n = c.loop-at.n in
    let at = c.in-Some.at in
    let is : c.in_ok-original.original ≡ original_in text at = ap (λ o. unwrap_or o no_original) c.in_ok-original.ensures in
    let size = c.date_size-bytes.ensures.size ∙ ap (λ x. length (created_bytes text x.created)) is in
    let list : c.source_list.result ≡ source_list (staged_in text at) =
    c.source_list.ensures ∙ ap source_list (c.staged_source.ensures ∙ ap
    (λ x. dated_by x x.created 0 (if utc_second (created_bytes text x.created) then 20 else 0)) is) in (
      onward (original_at in_record text) all s c.loop-at.invariant.0 c.in_ok-original.original c.in_ok-original.ensures,
      omega (arith, c.loop-at.invariant.1, left-more s),
      omega (arith, c.loop-at.invariant.2, dates-size-more s text, size),
      omega (arith, c.put_part-n.ensures.inside),
      λ room.
          let inv = c.loop-at.invariant.4 room in
          let fits : n + length c.source_list.result ≤ length c.loop-at.out = omega (arith, inv.0, left-more s, room, ap length list) in
          let put = c.put_part-n.ensures.written fits in (
            omega (arith, inv.0, left-more s, ap length list, put.0),
            rw put.0 (lay-on c.loop-at.out _ (source_list (staged_in text at)) (all_sources (map (staged_in text) (items_left c.next.new.self)))
                (all_sources (map (staged_in text) (items_left c.loop-at.at-iterator))) n (staged-more s (staged_in text)) list fits put.1 inv.1),
          ),
    )

pub returns-clause-counted : goal.returns-clause-counted
returns-clause-counted c =
    let text = c.args.text.now in
    let all = places text c.args.list in
    let none = c.in-None.ensures.steps.0 in
    let count : c.loop-at.count ≡ length all = omega (arith, c.loop-at.invariant.1, left-none none) in
    let dates : c.loop-at.dates ≡ length (dates_in text all) = omega (arith, c.loop-at.invariant.2, dates-size-none none text) in
    counted (original_at in_record text) all _ _ none c.loop-at.invariant.0 (λ i. record { count = count i; dates = dates i })

pub returns-clause-staged : goal.returns-clause-staged
returns-clause-staged c = λ n e room.
    let text = c.args.text.now in
    let inv = c.loop-at.invariant.4 room in
    lay-last c.loop-at.out _ c.loop-at.n (staged-none c.in-None.ensures.steps.0 (staged_in text)) (omega (arith, inv.0, room)) inv.1
