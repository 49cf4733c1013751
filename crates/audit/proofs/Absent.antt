-- Words of absent things are ignored: of every call, by the laws of rules, table_rows, lookups and judge on stripped
-- tables. Assumes nothing.
use mathlib.Core.Path.{◌≡◌, sym, ap, ◌∙◌}
use lib.ListN.{length}
use Rattle.rules.specs.Rules.{check_of}
use Rattle.rules.specs.Records.{Table}
use Rattle.rules.specs.Absent.{stripped, unread}
use Rattle.rules.specs.Lookups.{segment_of_frame, segment_of_time, continues_at}
use Rattle.rules.proofs.Ignored.{check-stripped, frame-stripped, time-stripped, continues-stripped, unread-stripped, alike}
use Rattle.table_rows.proofs.Alike.{rows_alike}
use Rattle.lookups.proofs.Alike.{indices-alike}
use Rattle.judge.specs.Video.{shown_by}
use Rattle.judge.specs.Judge.{validate_of, check_mcraw}
use Rattle.judge.proofs.Ignored.{validate-stripped, mcraw-stripped}
use Rattle.audit.specs.Words.{Lent, table, in_words}
use Rattle.audit.specs.Claims.{SameAnswers, Ignored, Unread}
use Rattle.audit.proofs.Meant.{meant}

same : (l m : Lent) → stripped (table l) ≡ stripped (table m) → SameAnswers l m
same l m e = record {
  check = λ r p. p ∙ alike check_of check-stripped (table l) (table m) e;
  segment-of-frame = λ f r p. p ∙ alike (λ t. segment_of_frame t f) (frame-stripped f) (table l) (table m) e;
  segment-of-time-us = λ t r p. p ∙ alike (λ a. segment_of_time a t) (time-stripped t) (table l) (table m) e;
  continues = λ k r p. p ∙ alike (λ t. continues_at t k) (continues-stripped k) (table l) (table m) e;
  rows-of-table = λ ou ou' os os' r p. rows_alike (table l) (table m) e ou ou' os os' r p;
  segments-of-frames = λ fs out out' r p. indices-alike (table l) (table m) e fs out out' r p;
  validate = λ video starts r p. p ∙ alike (λ t. validate_of t (shown_by video starts)) (validate-stripped (shown_by video starts)) (table l) (table m) e;
  check-mcraw = λ timestamps a b a' b' r p. record {
    answer = p.answer ∙ alike (λ t. check_mcraw t timestamps (length a) (length b)) (mcraw-stripped timestamps (length a) (length b)) (table l) (table m) e;
    first_cleared = p.first_cleared;
    second_cleared = p.second_cleared;
  };
}

pub absent : Ignored
absent = record {
  words = same;
  segment-of-frame-records = λ sources sources' text text' rs rs' log log' e f r p.
      let at = (same (in_words sources text rs log) (in_words sources' text' rs' log') e).segment-of-frame f r in
      (meant.segment-of-frame-records sources' text' rs' log' f r).1 (at ((meant.segment-of-frame-records sources text rs log f r).0 p));
}

-- tables that differ in words that no call reads are stripped alike
unread-alike : (t u : Table) → unread t ≡ unread u → stripped t ≡ stripped u
unread-alike t u e = unread-stripped t ∙ ap stripped e ∙ sym (unread-stripped u)

pub read-by-none : Unread
read-by-none = record {
  words = λ l m e. same l m (unread-alike (table l) (table m) e);
  segment-of-frame-records = λ sources sources' text text' rs rs' log log' e.
      absent.segment-of-frame-records sources sources' text text' rs rs' log log' (unread-alike (table (in_words sources text rs log)) (table (in_words sources' text' rs' log')) e);
}
