use Rattle.std.proofs.Common.{◌≡◌, ◌≤◌, map, take}
use Rattle.slices.specs.Slices.{laid}
use Rattle.rows.specs.Lent.{words_of}
use Rattle.table_rows.specs.Rows.{row_of}
use Rattle.table_rows.proofs.RowWords.write_words.Given as goal

abbrev pub invariant-loop-k : goal.invariant-loop-k
invariant-loop-k g l = (l.k ≤ l.n) × (l.out ≡ laid (words_of (map row_of (take l.k (g.Self.Segments.listed l.self)))) l.fn.out)
