use Rattle.std.proofs.Common.{◌≡◌, ◌≤◌, length}
use Rattle.slices.proofs.Ranges.{run}
use Rattle.slices.specs.Slices.{laid}
use Rattle.rows.specs.Rows.{moved}
use Rattle.rows.specs.Lent.{row_at, words_of}
use Rattle.maps.proofs.FrameMap.write_moved.Given as goal

abbrev pub invariant-loop-i : goal.invariant-loop-i
invariant-loop-i l =
    record {
      within : l.i ≤ length l.self.shifts.now;
      written : l.out_words ≡ laid (words_of (run (λ j. moved l.later_by (row_at l.self.words.now l.self.shifts.now j)) 0 l.i)) l.fn.out_words;
    }
