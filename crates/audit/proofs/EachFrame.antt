-- The lookups of a list answer what single lookups do, and refuse as claimed: by the laws of lookups. Assumes nothing.
use mathlib.Core.Path.{sym}
use Rattle.lookups.proofs.Answers.{each_index, rest-kept, all-kept, same_length, answer-all, answer-refused, answer-short}
use Rattle.audit.specs.Words.{table}
use Rattle.audit.specs.Claims.{EachFrame}

pub each_frame : EachFrame
each_frame = record {
  each = λ l n k fs out out' p h. each_index (table l) fs out p k h;
  rest = λ l n fs out out' p. rest-kept (table l) fs out p;
  kept = λ l why i fs out out' p. all-kept (table l) fs out p;
  long = λ l fs out out' r p. same_length (table l) fs out p;
  all = λ l N fs out out' r c h p. answer-all (table l) fs out p (sym c) h;
  as_checked = λ l why i fs out out' r c p. answer-refused (table l) fs out p (sym c);
  short = λ l N fs out out' r c h p. answer-short (table l) fs out p (sym c) h;
}
