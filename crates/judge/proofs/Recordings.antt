-- What mcraw's call leaves to the judge of a recording: its times, and the starts in the first of the working slices.
-- Assumes nothing.
use mathlib.Core.Path.{◌≡◌, sym, ap, ◌∙◌}
use mathlib.Core.List.{List}
use Prim.Native.Nat.{◌≤◌}
use native.Mathlib.Omega.{arith}
use lib.IntN.{ℤ}
use lib.ListN.{length, take, drop}
use lib.Seq.{take_at}
use Rattle.std.specs.Prelude.{Result, Ok}
use Rattle.refusal.specs.declared.Refusal.{Refusal}
use Rattle.slices.specs.Slices.{laid}
use Rattle.slices.proofs.Laid.{length-laid}
use Rattle.ticks.specs.declared.FrameTimes.{FrameTimes}
use Rattle.mcraw.specs.Mcraw.{starts_of, starts_written, times_of, mcraw_times, McrawAnswers}
use Rattle.mcraw.proofs.Spans.{length-starts}
use Rattle.mcraw.proofs.Answers.{Accepted, accepted}

module _ {timestamps starts work : List ℤ} {r : Result FrameTimes Refusal} {s w : List ℤ} (h : McrawAnswers timestamps starts work r s w) {times : FrameTimes} (k : r ≡ Ok times) where
  pub times-are : mcraw_times timestamps (length starts) (length work) ≡ Ok times
  times-are = sym h.answer ∙ k

  times-accepted : Accepted timestamps (length starts) (length work) times
  times-accepted = accepted timestamps (length starts) (length work) times times-are

  frames-are : length timestamps ≡ times.frames
  unfolding times_of
  frames-are = ap (λ (t : FrameTimes). t.frames) times-accepted.is

  laid_out : s ≡ laid (starts_of timestamps) starts
  unfolding starts_written
  laid_out = h.laid_out ∙ ap (λ (a : Result FrameTimes Refusal). laid (starts_written a timestamps) starts) k

  pub starts-room : times.frames ≤ length s
  starts-room =
      let l = length-starts timestamps in
      let long = ap length laid_out ∙ length-laid (starts_of timestamps) starts (omega (arith, times-accepted.room)) in
      omega (arith, times-accepted.room, frames-are)

  pub starts-are : take times.frames s ≡ starts_of timestamps
  starts-are = ap (take times.frames) laid_out ∙ take_at (starts_of timestamps) (drop (length (starts_of timestamps)) starts) times.frames (length-starts timestamps ∙ frames-are)
