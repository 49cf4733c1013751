-- Frame maps (RULES 10.1 to 10.5): which rows are well formed, the origin of a frame, cut, join and merge.
use Rattle.std.specs.Prelude.{ℕ, ◌+◌, ◌-◌, min, max, Bool, true, not, ◌&&◌, ◌||◌, List, [], ◌∷◌, ◌++◌, map, ◌≡◌, pos, if◌then◌else◌, Option, None, Some, ◌==◌, nat_lt, nat_le}
use Rattle.std.specs.Ordering.{int_eq}
use Rattle.conditions.specs.Conditions.{past, max_u64}
use Rattle.rows.specs.declared.Row.{Row}
use Rattle.rows.specs.declared.Origin.{Origin}

-- the output frame after a row's last
abbrev pub row_end : Row → ℕ
row_end row = row.out + row.count

-- how many frames a map has
abbrev pub total : List Row → ℕ
total [] = 0
total (row ∷ rest) = row.count + total rest

-- flag 0 or 1, and shift 0 where the flag is 0
abbrev pub ok_shift : Row → Bool
ok_shift row = row.flag == 1 || (row.flag == 0 && int_eq row.shift (pos 0))

-- a row is well formed where output frame `next` is next: a count, no sum that wraps, the out first chained, the flag
-- and shift right
abbrev pub ok_row : ℕ → Row → Bool
ok_row next row =
    nat_lt 0 row.count
    && not (past row.first row.count max_u64)
    && not (past row.out row.count max_u64)
    && row.out == next
    && ok_shift row

-- every row is, from frame `next` on
abbrev pub WellFrom : ℕ → List Row → Type 0
WellFrom next [] = Unit
WellFrom next (row ∷ rest) = (ok_row next row ≡ true) × WellFrom (next + row.count) rest

abbrev pub WellFormed : List Row → Type 0
WellFormed rows = WellFrom 0 rows

-- output frame k lies in a row
abbrev pub holds : Row → ℕ → Bool
holds row k = nat_le row.out k && nat_lt k (row_end row)

-- the origin that a row gives to output frame k
abbrev pub origin_in : Row → ℕ → Origin
origin_in row k =
    record {
      source = row.source;
      frame = row.first + (k - row.out);
      flag = row.flag;
      shift = row.shift;
    }

-- the origin of output frame k of a map, if it has one
abbrev pub origin : List Row → ℕ → Option Origin
origin [] k = None
origin (row ∷ rest) k = if holds row k then Some (origin_in row k) else origin rest k

-- a row, so many output frames later
abbrev pub moved : ℕ → Row → Row
moved later_by row = record row { out = later_by + row.out }

-- join: the second map after the first, its out firsts moved
abbrev pub join : List Row → List Row → List Row
join first second = first ++ map (moved (total first)) second

-- the second row continues the first: the same source, source frames that run on, flag and shift both equal
abbrev pub runs_on : Row → Row → Bool
runs_on row next =
    row.source == next.source
    && row.first + row.count == next.first
    && row.flag == next.flag && int_eq row.shift next.shift

-- one row of a row and of the next, which continues it
abbrev pub glue : Row → Row → Row
glue row next = record row { count = row.count + next.count }

-- the row that grows, with the rows that continue it, and then the others, merged
abbrev pub merge_into : Row → List Row → List Row
merge_into current [] = current ∷ []
merge_into current (row ∷ rest) =
    if runs_on current row then merge_into (glue current row) rest
    else current ∷ merge_into row rest

-- merge: one row of neighbours that continue
abbrev pub merge : List Row → List Row
merge [] = []
merge (row ∷ rest) = merge_into row rest

-- a row has frames of a..b
abbrev pub overlaps : ℕ → ℕ → Row → Bool
overlaps a b row = nat_lt (max a row.out) (min b (row_end row))

-- a row's overlap with a..b, a subtracted from its out first
abbrev pub clip : ℕ → ℕ → Row → Row
clip a b row =
    record row {
      first = row.first + (a - row.out);
      count = min b (row_end row) - max a row.out;
      out = row.out - a;
    }

-- cut a..b: each row's overlap, empty ones dropped
abbrev pub cut : ℕ → ℕ → List Row → List Row
cut a b [] = []
cut a b (row ∷ rest) = if overlaps a b row then clip a b row ∷ cut a b rest else cut a b rest
