-- Every claim holds, by the theorems of the crates below. Assumes nothing.
use Rattle.differ.specs.Differ.{Differing}
use Rattle.audit.specs.Words.{table, Validate, CheckMcraw}
use Rattle.audit.specs.Claims.{Claims}
use Rattle.audit.proofs.Theorems.{Theorems}
use Rattle.audit.proofs.Once.{once}
use Rattle.audit.proofs.Faced.{faced}
use Rattle.audit.proofs.Telling.{telling}
use Rattle.audit.proofs.Tiled.{tiled}
use Rattle.audit.proofs.Refused.{right}
use Rattle.audit.proofs.Meant.{meant}
use Rattle.audit.proofs.EachFrame.{each_frame}
use Rattle.audit.proofs.Walked.{walked}
use Rattle.audit.proofs.Agreed.{agreeing}
use Rattle.audit.proofs.Rounded.{rounding, ordering}
use Rattle.audit.proofs.Absent.{absent, read-by-none}
use Rattle.audit.proofs.Texted.{texts}
use Rattle.audit.proofs.Worked.{all_hold}

-- of tables as they are lent: of one the calls answer what the judge's definitions answer of the table that it is
differing : Theorems → Differing table Validate CheckMcraw
differing by = record {
  constant = λ l m frames numerator denominator M N s s' x y. by.one-video.constant (table l) (table m) frames numerator denominator M N s s' x y;
  times = λ l m scale end nominal starts M N x y. by.one-video.times (table l) (table m) scale end nominal starts M N x y;
  recording = λ l m timestamps a b a' b' c d c' d' M N h x y. by.one-video.recording (table l) (table m) timestamps a b a' b' c d c' d' M N h x y;
  one_timestamp = λ l m z a b a' b' c d c' d' M N x y. by.one-video.one_timestamp (table l) (table m) z a b a' b' c d c' d' M N x y;
}

pub audited : Theorems → Claims
audited by = record {
  answers = once;
  face = faced;
  telling = telling;
  numbers = record { own = by.own-number; above = by.number-above };
  origins = tiled by;
  laws = by.laws;
  demands = by.demands;
  many_cuts = by.cuts;
  many_origins = by.origins;
  refusals = right by;
  differing = differing by;
  each_frame = each_frame;
  meanings = meant;
  walking = walked;
  stopping = by.stopping;
  dividing = by.dividing;
  agreeing = agreeing by;
  rounding = rounding;
  ordering = ordering;
  ignored = absent;
  unread = read-by-none;
  texts = texts by;
  worked = all_hold;
}
