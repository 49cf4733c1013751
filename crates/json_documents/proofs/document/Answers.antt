use Rattle.std.proofs.Common.{◌∙◌, ap, ℕ}
use Rattle.json_tokens.specs.Text.{blanks}
use Rattle.json_values.specs.Grammar.{value_at, deepest}
use Rattle.json_documents.specs.Seen.{seen_of}
use Rattle.json_documents.proofs.Leaves.{whole-none, whole-on, whole-more}
use Rattle.json_documents.proofs.document.Goals as goal

pub returns-in_err-whole : goal.returns-in_err-whole
returns-in_err-whole c =
    c.from_residual.ensures
    ∙ whole-none c.args.text.now (value_at deepest c.args.text.now (blanks c.args.text.now 0))
    (c.in_err-whole.ensures.seen ∙ ap (λ (i : ℕ). seen_of (value_at deepest c.args.text.now i)) c.skip.ensures)

pub returns-then-skip-text : goal.returns-then-skip-text
returns-then-skip-text c =
    whole-on c.args.text.now (value_at deepest c.args.text.now (blanks c.args.text.now 0)) c.in_ok-whole.whole c.skip-2.result
    (c.in_ok-whole.ensures.seen ∙ ap (λ (i : ℕ). seen_of (value_at deepest c.args.text.now i)) c.skip.ensures) c.skip-2.ensures c.if-skip-text.true

pub returns : goal.returns
returns c =
    whole-more c.args.text.now (value_at deepest c.args.text.now (blanks c.args.text.now 0)) c.in_ok-whole.whole c.skip-2.result
    (c.in_ok-whole.ensures.seen ∙ ap (λ (i : ℕ). seen_of (value_at deepest c.args.text.now i)) c.skip.ensures) c.skip-2.ensures c.if-skip-text.false
