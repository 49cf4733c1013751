use Rattle.std.proofs.Common.{arith, ◌≡◌, ◌≤◌, ◌+◌, ◌++◌, ◌∙◌, ap, sym, take, drop, length, List, ℕ}
use Rattle.slices.specs.Slices.{laid}
use Rattle.json_strings.specs.Texts.{utf8_of, string_bytes}
use Rattle.json_strings.specs.Left.{chars_left}
use Rattle.json_strings.proofs.Lay.{lay-more, lay-end, laid-at}
use Rattle.json_strings.proofs.Sizes.{utf8-more, size-more, size-none, utf8-none}
use Rattle.json_strings.proofs.put.Goals as goal

pub write_at-n-requires : goal.write_at-n-requires
write_at-n-requires c =
    let is = c.as_bytes-bytes.ensures.value ∙ c.encode_utf8.ensures.value in
    omega (arith, c.loop-c.invariant.0, size-more c.in-Some.ensures.steps, ap length is, c.requires.room)

pub loop-c-preserved : goal.loop-c-preserved
loop-c-preserved c =
    let is = c.as_bytes-bytes.ensures.value ∙ c.encode_utf8.ensures.value in
    let bytes = c.as_bytes-bytes.result.now in
    let out = c.loop-c.out in
    let ws = utf8_of (chars_left c.next.new.self) in
    let more : utf8_of (chars_left c.loop-c.c-iterator) ≡ bytes ++ ws = utf8-more c.in-Some.ensures.steps ∙ ap (λ (b : List ℕ). b ++ ws) (sym is) in
    let n = c.loop-c.n in
    let room : n + length bytes ≤ length out = omega (arith, c.loop-c.invariant.0, size-more c.in-Some.ensures.steps, ap length is, c.requires.room) in
    let inv = ap (λ (l : List ℕ). take n out ++ laid l (drop n out)) (sym more) ∙ c.loop-c.invariant.1 in (
      omega (arith, c.loop-c.invariant.0, size-more c.in-Some.ensures.steps, ap length is, c.write_at-n.ensures.end),
      rw c.write_at-n.ensures.end (lay-more out bytes ws n room c.write_at-n.ensures.written inv),
    )

pub returns-clause-end : goal.returns-clause-end
returns-clause-end c = omega (arith, c.loop-c.invariant.0, size-none c.in-None.ensures.steps.0)

pub returns-clause-written : goal.returns-clause-written
returns-clause-written c =
    let none = utf8-none c.in-None.ensures.steps.0 in
    let n = c.loop-c.n in
    let out = c.loop-c.out in
    lay-end out (take c.args.from c.args.out.now ++ laid (string_bytes c.args.text.now c.args.at) (drop c.args.from c.args.out.now)) n
    (omega (arith, c.loop-c.invariant.0, c.requires.room))
    (ap (λ (l : List ℕ). take n out ++ laid l (drop n out)) (sym none) ∙ c.loop-c.invariant.1)
    ∙ laid-at (string_bytes c.args.text.now c.args.at) c.args.out.now c.args.from
