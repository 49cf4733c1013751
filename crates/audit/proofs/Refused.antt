-- Refusals are right: of every answer, by the theorems of rules and judge on the definitions and table's law on
-- lengths. Assumes nothing.
use mathlib.Core.Path.{sym, subst}
use lib.ListN.{length}
use Prim.Native.Nat.{ℕ}
use Rattle.std.specs.Prelude.{Result}
use Rattle.refusal.specs.declared.Refusal.{Refusal}
use Rattle.rules.specs.Records.{frame_total}
use Rattle.rules.specs.Grounds.{tests, Rightly}
use Rattle.table.proofs.Lengths.{uneven}
use Rattle.judge.specs.Grounds.{validate_tests, mcraw_tests}
use Rattle.audit.specs.Words.{table}
use Rattle.audit.specs.Claims.{Refusals}
use Rattle.audit.proofs.Theorems.{Theorems}

pub right : Theorems → Refusals
right by = record {
  check = λ l r p. subst (λ (c : Result ℕ Refusal). Rightly c (tests (table l)) (frame_total (table l).segments)) (sym p) (by.refusals (table l));
  validate = λ l video starts r p.
      subst (λ (c : Result ℕ Refusal). Rightly c (validate_tests (table l) video starts) (frame_total (table l).segments)) (sym p) (by.by-video (table l) video starts);
  check-mcraw = λ l timestamps a b a' b' r p.
      subst (λ (c : Result ℕ Refusal). Rightly c (mcraw_tests (table l) timestamps (length a) (length b)) (frame_total (table l).segments)) (sym p.answer)
      (by.by-recording (table l) timestamps (length a) (length b));
  uneven = λ l. uneven l.sources l.words l.stamps l.log l.text;
}
