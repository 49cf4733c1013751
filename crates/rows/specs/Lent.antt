-- A map as it is lent (RULES 10.1): five words a row in one slice (source, source first, count, out first, shift flag),
-- one shift a row in another.
use Rattle.std.specs.Prelude.{ℕ, ◌+◌, ◌*◌, List, [], ◌∷◌, ◌++◌, ℤ, pos, length, get_or, map}
use Rattle.std.specs.List.{range_with_len}
use Rattle.rows.specs.declared.Row.{Row}

-- row i
abbrev pub row_at : List ℕ → List ℤ → ℕ → Row
row_at words shifts i =
    record {
      source = get_or words (5 * i) 0;
      first = get_or words (5 * i + 1) 0;
      count = get_or words (5 * i + 2) 0;
      out = get_or words (5 * i + 3) 0;
      flag = get_or words (5 * i + 4) 0;
      shift = get_or shifts i (pos 0);
    }

-- the rows of a lent map
abbrev pub rows : List ℕ → List ℤ → List Row
rows words shifts = map (row_at words shifts) (range_with_len 0 (length shifts))

-- a row's five words
abbrev pub row_words : Row → List ℕ
row_words row = row.source ∷ row.first ∷ row.count ∷ row.out ∷ row.flag ∷ []

-- the words of a map, and its shifts
abbrev pub words_of : List Row → List ℕ
words_of [] = []
words_of (row ∷ rest) = row_words row ++ words_of rest

abbrev pub shifts_of : List Row → List ℤ
shifts_of [] = []
shifts_of (row ∷ rest) = row.shift ∷ shifts_of rest
