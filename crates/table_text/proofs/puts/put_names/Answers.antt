use Rattle.std.proofs.Common.{arith, ◌≡◌, ◌∙◌, ap, length}
use Rattle.json_walks.specs.Left.{items_left}
use Rattle.json_tokens.specs.Text.{end_of}
use Rattle.json_tokens.specs.Strings.{string_at}
use Rattle.table_text.specs.Lists.{original_in}
use Rattle.table_text.specs.Tables.{span_at, names_in}
use Rattle.table_text.proofs.Records.{lay-on, lay-last, left-more, names-more, names-none, span-size}
use Rattle.table_text.proofs.puts.put_names.Goals as goal

pub loop-at-preserved : goal.loop-at-preserved
loop-at-preserved c =
    let s = c.in-Some.ensures.steps in
    let text = c.args.text.now in
    let name = (original_in text c.in-Some.at).name in
    let is : c.span_at.result ≡ span_at text name = c.span_at.ensures ∙ ap (λ x. span_at text x.name) c.original_in-original.ensures in
    let two = ap length is ∙ span-size name (end_of (string_at text name)) in (
      omega (arith, c.loop-at.invariant.0, left-more s, two, c.write_at-n.ensures.end),
      rw c.write_at-n.ensures.end
          (lay-on c.loop-at.out _ (span_at text name) (names_in text (items_left c.next.new.self))
          (names_in text (items_left c.loop-at.at-iterator)) c.loop-at.n (names-more s text) is
          (omega (arith, c.loop-at.invariant.0, left-more s, two, c.requires.room)) c.write_at-n.ensures.written c.loop-at.invariant.1),
    )

pub returns : goal.returns
returns c =
    let text = c.args.text.now in
    lay-last c.loop-at.out (names_in text (items_left c.loop-at.at-iterator)) c.loop-at.n (names-none c.in-None.ensures.steps.0 text)
    (omega (arith, c.loop-at.invariant.0, c.requires.room)) c.loop-at.invariant.1
