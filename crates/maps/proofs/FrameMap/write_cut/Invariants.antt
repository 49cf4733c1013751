use Rattle.std.proofs.Common.{◌≡◌, ◌+◌, ◌≤◌}
use Rattle.slices.proofs.Ranges.{run}
use Rattle.slices.specs.Slices.{laid}
use Rattle.rows.specs.Rows.{clip}
use Rattle.rows.specs.Lent.{row_at, words_of, shifts_of}
use Rattle.maps.proofs.FrameMap.write_cut.Given as goal

abbrev pub invariant-loop-j : goal.invariant-loop-j
invariant-loop-j l =
    record {
      within : l.j ≤ l.k;
      words : l.out_words ≡ laid (words_of (run (λ j. clip l.range.from l.range.to (row_at l.self.words.now l.self.shifts.now (l.i + j))) 0 l.j)) l.fn.out_words;
      shifts : l.out_shifts ≡ laid (shifts_of (run (λ j. clip l.range.from l.range.to (row_at l.self.words.now l.self.shifts.now (l.i + j))) 0 l.j)) l.fn.out_shifts;
    }
