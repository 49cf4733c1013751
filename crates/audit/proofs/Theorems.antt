-- The theorems that the claims are made of: the contracts of the functions that `all_claims_hold` calls. Assumes
-- nothing.
use mathlib.Core.Path.{◌≡◌}
use mathlib.Core.Bool.{true, false}
use mathlib.Core.List.{List}
use Prim.Native.Nat.{ℕ, ◌<◌}
use lib.IntN.{ℤ}
use Rattle.refusal.specs.declared.Reason.{Reason}
use Rattle.refusal.specs.Reasons.{number}
use Rattle.rows.specs.Demands.{Demands}
use Rattle.maps.specs.Answers.{Cut, Join, Merge, Trace}
use Rattle.maps.specs.Laws.{Laws}
use Rattle.maps.specs.Origins.{Traces, OriginsLaws}
use Rattle.cuts.specs.Answers.{Cuts}
use Rattle.cuts.specs.Laws.{CutsLaws}
use Rattle.rules.specs.Records.{Table, frame_total}
use Rattle.rules.specs.Rules.{check_of}
use Rattle.rules.specs.Grounds.{tests, Rightly}
use Rattle.table_rows.specs.Mapped.{RowsAreMap}
use Rattle.judge.specs.declared.Video.{Video}
use Rattle.judge.specs.Video.{shown_by}
use Rattle.judge.specs.Judge.{validate_of, check_mcraw, Settled}
use Rattle.judge.specs.Grounds.{validate_tests, mcraw_tests}
use Rattle.differ.specs.Differ.{Differing}
use Rattle.stops.specs.Promises.{ChildPlace, FindBoxPlace, Children, FrameTimesOf}
use Rattle.stops.specs.Stops.{Stopping, Dividing}
use Rattle.table_text.specs.declared.reader.Room.{Room}
use Rattle.table_meaning.specs.Answer.{reading, answer_of}
use Rattle.table_meaning.specs.Claims.{WrittenTablesAreAccepted, NamesStandInTheirText}
use Rattle.table_meaning.specs.Grounds.{text_tests, text_total, frames_read}
use Rattle.frame_times.specs.Times.{times_of_moov}
use Rattle.modes.specs.Modes.{ctts_of, NoTopBit}

pub record Theorems : Type 0 where
  pub own-number : (a b : Reason) → number a ≡ number b → a ≡ b
  pub number-above : (a : Reason) → 0 < number a
  pub demands : Demands
  pub laws : Laws Cut Join Merge Trace
  pub cuts : CutsLaws Cuts Cut
  pub origins : OriginsLaws Traces Trace
  pub refusals : (t : Table) → Rightly (check_of t) (tests t) (frame_total t.segments)
  pub by-video : (t : Table) (video : Video) (starts : List ℤ)
      → Rightly (validate_of t (shown_by video starts)) (validate_tests t video starts) (frame_total t.segments)
  pub by-recording : (t : Table) (timestamps : List ℤ) (a b : ℕ)
      → Rightly (check_mcraw t timestamps a b) (mcraw_tests t timestamps a b) (frame_total t.segments)
  pub mapped : (t : Table) → RowsAreMap t
  pub one-video : Differing (λ (t : Table). t) (λ t video starts r. r ≡ validate_of t (shown_by video starts)) Settled
  pub stopping : Stopping ChildPlace FindBoxPlace Children FrameTimesOf
  pub dividing : Dividing ChildPlace FindBoxPlace Children FrameTimesOf
  pub by-text : (text : List ℕ) (room : Room)
      → Rightly (frames_read (answer_of (reading text room))) (text_tests text room) (text_total text)
  pub written : WrittenTablesAreAccepted
  pub named : NamesStandInTheirText
  pub modes : (moov : List ℕ) (room : ℕ) → NoTopBit (ctts_of moov)
      → times_of_moov true moov room ≡ times_of_moov false moov room
