use Rattle.std.proofs.Common.{arith, ◌≡◌, ◌+◌, ◌-◌, ◌++◌, ◌∙◌, ap, sym, length}
use Rattle.json_walks.specs.Left.{items_left}
use Rattle.table_text.specs.Lists.{date_in, created_bytes}
use Rattle.table_text.specs.Tables.{source_in, sources_in, dated_by, dates_in, source_list, all_sources}
use Rattle.table_text.proofs.Records.{lay-on, lay-last, left-more, sources-more, sources-none, dates-more, dates-none, dates-size-more}
use Rattle.table_text.proofs.puts.put_sources.Goals as goal

pub put_date-end-requires-clause-room : goal.put_date-end-requires-clause-room
put_date-end-requires-clause-room c =
    let text = c.args.text.now in
    let size = ap (λ x. length (created_bytes text x.created)) c.original_in-original.ensures in
    omega (arith, c.loop-at.invariant.2, dates-size-more c.in-Some.ensures.steps text, size, c.requires.dates_room)

pub loop-at-preserved : goal.loop-at-preserved
loop-at-preserved c =
    let s = c.in-Some.ensures.steps in
    let text = c.args.text.now in
    let from = c.loop-at.from in
    let date = ap (λ x. created_bytes text x.created) c.original_in-original.ensures in
    let end : c.put_date-end.result ≡ from + length (date_in text c.in-Some.at) = c.put_date-end.ensures.end ∙ ap (λ d. from + length d) date in
    let size : c.put_date-end.result - from ≡ length (date_in text c.in-Some.at) = omega (arith, end) in
    let is : c.source_list.result ≡ source_list (source_in text from c.in-Some.at) =
    c.source_list.ensures ∙ ap source_list (c.dated_by-source.ensures ∙ ap
    (λ n. dated_by c.original_in-original.result c.original_in-original.result.created from n) size
    ∙ ap (λ x. dated_by x x.created from (length (date_in text c.in-Some.at))) c.original_in-original.ensures) in
    let more = sources-more s text from ∙ ap (λ n. source_list (source_in text from c.in-Some.at) ++ all_sources
    (sources_in text n (items_left c.next.new.self))) (sym end) in (
      omega (arith, c.loop-at.invariant.0, left-more s, ap length is, c.write_at-n.ensures.end),
      rw c.write_at-n.ensures.end
          (lay-on c.loop-at.out _ (source_list (source_in text from c.in-Some.at))
          (all_sources (sources_in text c.put_date-end.result (items_left c.next.new.self)))
          (all_sources (sources_in text from (items_left c.loop-at.at-iterator))) c.loop-at.n more is
          (omega (arith, c.loop-at.invariant.0, left-more s, ap length is, c.requires.room)) c.write_at-n.ensures.written c.loop-at.invariant.1),
      omega (arith, c.loop-at.invariant.2, dates-size-more s text, end),
      rw c.put_date-end.ensures.end
          (lay-on c.loop-at.dates _ (date_in text c.in-Some.at) (dates_in text (items_left c.next.new.self))
          (dates_in text (items_left c.loop-at.at-iterator)) from (dates-more s text) date
          (omega (arith, c.loop-at.invariant.2, dates-size-more s text, ap length date, c.requires.dates_room)) c.put_date-end.ensures.written c.loop-at.invariant.3),
    )

pub returns-clause-words : goal.returns-clause-words
returns-clause-words c =
    let text = c.args.text.now in
    lay-last c.loop-at.out (all_sources (sources_in text c.loop-at.from (items_left c.loop-at.at-iterator))) c.loop-at.n
    (sources-none c.in-None.ensures.steps.0 text c.loop-at.from) (omega (arith, c.loop-at.invariant.0, c.requires.room)) c.loop-at.invariant.1

pub returns-clause-dates : goal.returns-clause-dates
returns-clause-dates c =
    let text = c.args.text.now in
    lay-last c.loop-at.dates (dates_in text (items_left c.loop-at.at-iterator)) c.loop-at.from (dates-none c.in-None.ensures.steps.0 text)
    (omega (arith, c.loop-at.invariant.2, c.requires.dates_room)) c.loop-at.invariant.3
