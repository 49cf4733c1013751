-- RULES 4.6: the rows of an accepted table, and what `rows_of_table` answers and leaves in the lent room.
use Rattle.std.specs.Prelude.{ℕ, ◌*◌, Bool, ◌||◌, List, map, ◌≡◌, length, ℤ, pos, Result, Ok, ◌==◌, nat_lt, if◌then◌else◌}
use Rattle.std.specs.Result.{result_and}
use Rattle.refusal.specs.declared.Refusal.{Refusal}
use Rattle.refusal.specs.declared.Reason.TheVariants as reason
use Rattle.refusal.specs.Refusals.{refused}
use Rattle.slices.specs.Slices.{after}
use Rattle.rows.specs.declared.Row.{Row}
use Rattle.rows.specs.Lent.{words_of, shifts_of}
use Rattle.rules.specs.declared.Segment.{Segment}
use Rattle.rules.specs.Records.{Table}
use Rattle.rules.specs.Rules.{refusal}

-- the row of a segment
unfoldable pub row_of : Segment → Row
row_of segment = record {
  source = segment.words.source;
  first = segment.words.first;
  count = segment.words.count;
  out = segment.words.out;
  flag = segment.words.flag;
  shift = if segment.words.flag == 0 then pos 0 else segment.stamps.shift;
}

-- the rows of a table, one a segment
unfoldable pub rows_of : Table → List Row
rows_of table = map row_of table.segments

-- n rows don't go into so much room for words and for shifts
abbrev pub too_small : ℕ → ℕ → ℕ → Bool
too_small n word_room shift_room = nat_lt word_room (5 * n) || nat_lt shift_room n

-- the check's, then 32: lent room too small
unfoldable pub rows_refusal : Table → ℕ → ℕ → Result (Unit {0}) Refusal
rows_refusal table word_room shift_room =
    result_and (refusal table)
    (if too_small (length table.segments) word_room shift_room then refused reason.NoRoom 0 else Ok tt)

-- the rows of a table were asked for: the answer, which is how many there are, and the words and shifts lent for them,
-- before and afterwards
pub record Rowed (table : Table) (out_words : List ℕ) (out_shifts : List ℤ) (result : Result ℕ Refusal)
    (out_words' : List ℕ) (out_shifts' : List ℤ) : Type 0 where
  pub answer : result
      ≡ result_and (rows_refusal table (length out_words) (length out_shifts)) (Ok (length table.segments))
  pub words : out_words'
      ≡ after (rows_refusal table (length out_words) (length out_shifts)) (words_of (rows_of table)) out_words
  pub shifts : out_shifts'
      ≡ after (rows_refusal table (length out_words) (length out_shifts)) (shifts_of (rows_of table)) out_shifts
