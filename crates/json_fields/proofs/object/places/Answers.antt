use Rattle.std.proofs.Common.{◌+◌, ◌∙◌, sym, arith}
use Rattle.std.proofs.lemmas.List.{length-map, length-set}
use Rattle.json_walks.specs.Left.{members_left}
use Rattle.json_walks.specs.Walks.{members_in}
use Rattle.json_fields.specs.Sought.{told}
use Rattle.json_fields.proofs.Sought.{noted, passed, all_noted, no_object}
use Rattle.json_fields.proofs.object.places.Goals as goal

pub returns-then-byte_at-ne123 : goal.returns-then-byte_at-ne123
returns-then-byte_at-ne123 g c =
    no_object c.args.left c.args.text.now c.args.at g.row.N (told c.args.keys.now)
    (length-map c.args.keys.now (λ key. key.now) ∙ c.requires.counted)
    (λ e. c.if-byte_at-ne123.true (c.byte_at.ensures ∙ e))

pub loop-m-preserved-then-k : goal.loop-m-preserved-then-k
loop-m-preserved-then-k g c =
    let counted = length-map c.args.keys.now (λ key. key.now) ∙ c.requires.counted in (
      length-set c.loop-m.places c.which-k.result c.or.result ∙ c.loop-m.invariant.0,
      noted c.args.text.now (told c.args.keys.now) (members_in c.args.left c.args.text.now (c.args.at + 1)) c.in-Some.m
          (members_left c.next.new.self) (members_left c.loop-m.m-iterator) c.in-Some.ensures.steps
          c.loop-m.places c.which-k.result c.which-k.ensures c.loop-m.invariant.1 c.or.result c.or.ensures
          (c.loop-m.invariant.0 ∙ sym counted) (omega (arith, counted, c.if-k.true)),
    )

pub loop-m-preserved : goal.loop-m-preserved
loop-m-preserved g c =
    let counted = length-map c.args.keys.now (λ key. key.now) ∙ c.requires.counted in (
      c.loop-m.invariant.0,
      passed c.args.text.now (told c.args.keys.now) (members_in c.args.left c.args.text.now (c.args.at + 1)) c.in-Some.m
          (members_left c.next.new.self) (members_left c.loop-m.m-iterator) c.in-Some.ensures.steps
          c.loop-m.places c.which-k.result c.which-k.ensures c.loop-m.invariant.1 (omega (arith, counted, c.if-k.false)),
    )

pub returns : goal.returns
returns g c =
    let counted = length-map c.args.keys.now (λ key. key.now) ∙ c.requires.counted in
    all_noted c.args.left c.args.text.now c.args.at (told c.args.keys.now) c.loop-m.places (c.loop-m.invariant.0 ∙ sym counted)
    (sym c.byte_at.ensures ∙ c.if-byte_at-ne123.false) (members_left c.loop-m.m-iterator) c.in-None.ensures.steps.0 c.loop-m.invariant.1
