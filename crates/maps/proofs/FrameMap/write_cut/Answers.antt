use Rattle.std.proofs.Common.{◌≡◌, ℕ, ◌+◌, List, sym, ap, ◌∙◌, arith}
use Rattle.slices.proofs.Ranges.{run}
use Rattle.slices.specs.Slices.{laid}
use Rattle.rows.specs.declared.Row.{Row}
use Rattle.rows.specs.Rows.{clip}
use Rattle.rows.specs.Lent.{row_at, words_of, shifts_of}
use Rattle.maps.proofs.FrameMap.write_cut.Goals as goal

pub returns : goal.returns
returns c =
    let a = c.args in
    let f : ℕ → Row = λ j. clip a.range.from a.range.to (row_at a.self.words.now a.self.shifts.now (a.part.first + j)) in
    let all : c.loop-j.j ≡ a.part.count = omega (arith, c.loop-j.invariant.within, c.loop-j-test.false) in
    let cut = ap (λ (n : ℕ). run f 0 n) all ∙ sym c.requires.0.is in (
      c.loop-j.invariant.words ∙ ap (λ (m : List Row). laid (words_of m) a.out_words.now) cut,
      c.loop-j.invariant.shifts ∙ ap (λ (m : List Row). laid (shifts_of m) a.out_shifts.now) cut,
    )
