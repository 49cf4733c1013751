-- What a C caller is told of a call that writes slices, and what these hold afterwards.
use Rattle.std.specs.Prelude.{ℕ, Bool, List, map, ◌≡◌, ℤ, length, Result, Ok}
use Rattle.std.specs.Result.{result_and}
use Rattle.refusal.specs.declared.Refusal.{Refusal}
use Rattle.rows.specs.declared.Row.{Row}
use Rattle.rows.specs.declared.Origin.{Origin}
use Rattle.rows.specs.Rows.{origin, cut, join, merge}
use Rattle.rows.specs.Lent.{rows, words_of, shifts_of}
use Rattle.rules.specs.Records.{Table}
use Rattle.table_rows.specs.Rows as table
use Rattle.lookups.specs.Indices.{indices_of, indices_refusal}
use Rattle.maps.specs.Answers.{cut_refusal, join_refusal, merge_refusal, origin_refusal, traced_as}
use Rattle.maps.specs.Origins.{origin_at, origins_refusal}
use Rattle.cuts.specs.Answers.{ranges_of, cuts_of, concat, cuts_refusal}
use Rattle.slices.specs.Slices.{laid, after, zeros}
use Rattle.mcraw.specs.Mcraw.{mcraw_times, starts_written}
use Rattle.frame_times.specs.Times as moov
use Rattle.judge.specs.Judge.{check_mcraw}
use Rattle.told.specs.Told.{told, itself, times_words}

-- the rows of a table were asked for: number, words, shifts, how many rows, index
pub record RowedTold (lent : Table) (out_words : List ℕ) (out_shifts : List ℤ) (rows number : ℕ) (out_words' : List ℕ)
    (out_shifts' : List ℤ) (rows' index' : ℕ) : Type 0 where
  pub told : (number, rows', index')
      ≡ told itself
      (result_and (table.rows_refusal lent (length out_words) (length out_shifts)) (Ok (length lent.segments))) rows
  pub words : out_words'
      ≡ after (table.rows_refusal lent (length out_words) (length out_shifts)) (words_of (table.rows_of lent)) out_words
  pub shifts : out_shifts'
      ≡ after (table.rows_refusal lent (length out_words) (length out_shifts))
      (shifts_of (table.rows_of lent)) out_shifts

-- the segments of frames were asked for: number, indices, how many, index
pub record IndexingTold (lent : Table) (frames out : List ℕ) (written number : ℕ) (out' : List ℕ) (written' index' : ℕ)
    : Type 0 where
  pub told : (number, written', index')
      ≡ told itself (result_and (indices_refusal lent (length frames) (length out)) (Ok (length frames))) written
  pub indices : out' ≡ after (indices_refusal lent (length frames) (length out)) (indices_of lent frames) out

-- some rows were asked for, or refused
pub record MapTold (refusal : Result (Unit {0}) Refusal) (found : List Row) (out_words : List ℕ) (out_shifts : List ℤ)
    (rows number : ℕ) (out_words' : List ℕ) (out_shifts' : List ℤ) (rows' index' : ℕ) : Type 0 where
  pub told : (number, rows', index') ≡ told itself (result_and refusal (Ok (length found))) rows
  pub words : out_words' ≡ after refusal (words_of found) out_words
  pub shifts : out_shifts' ≡ after refusal (shifts_of found) out_shifts

-- a cut, a join, a merge, by the library's promises `Cut`, `Join`, `Merge`
abbrev pub CutTold : List ℕ → List ℤ → ℕ → ℕ → List ℕ → List ℤ → ℕ → ℕ → List ℕ → List ℤ → ℕ → ℕ → Type 0
CutTold words shifts start end out_words out_shifts =
    MapTold (cut_refusal words shifts start end (length out_words) (length out_shifts))
    (cut start end (rows words shifts)) out_words out_shifts

abbrev pub JoinTold : List ℕ → List ℤ → List ℕ → List ℤ → List ℕ → List ℤ → ℕ → ℕ → List ℕ → List ℤ → ℕ → ℕ → Type 0
JoinTold words shifts second_words second_shifts out_words out_shifts =
    MapTold (join_refusal words shifts second_words second_shifts (length out_words) (length out_shifts))
    (join (rows words shifts) (rows second_words second_shifts)) out_words out_shifts

abbrev pub MergeTold : List ℕ → List ℤ → List ℕ → List ℤ → ℕ → ℕ → List ℕ → List ℤ → ℕ → ℕ → Type 0
MergeTold words shifts out_words out_shifts =
    MapTold (merge_refusal words shifts (length out_words) (length out_shifts))
    (merge (rows words shifts)) out_words out_shifts

-- some cuts were asked for, or refused: the same of their rows, and the counts
pub record PlacingTold (refusal : Result (Unit {0}) Refusal) (found : List (List Row)) (out_words : List ℕ)
    (out_shifts : List ℤ) (counts : List ℕ) (rows number : ℕ) (out_words' : List ℕ) (out_shifts' : List ℤ)
    (counts' : List ℕ) (rows' index' : ℕ) : Type 0 where
  pub placed : MapTold refusal (concat found) out_words out_shifts rows number out_words' out_shifts' rows' index'
  pub counted : counts' ≡ after refusal (map length found) counts

-- many cuts, by the library's promise `Cuts`
abbrev pub CutsTold : List ℕ → List ℤ → List ℕ → List ℕ → List ℤ → List ℕ → ℕ → ℕ → List ℕ → List ℤ → List ℕ → ℕ → ℕ
    → Type 0
CutsTold words shifts ranges out_words out_shifts counts =
    PlacingTold (cuts_refusal words shifts ranges (length out_words) (length out_shifts) (length counts))
    (cuts_of (rows words shifts) (ranges_of ranges)) out_words out_shifts counts

-- where a frame of a lent map comes from
abbrev pub origin_of : List ℕ → List ℤ → ℕ → Result Origin Refusal
origin_of words shifts frame =
    result_and (origin_refusal words shifts frame) (traced_as (origin (rows words shifts) frame))

-- the origins of frames were asked for: number, origins, how many, index
pub record OriginsTold (words : List ℕ) (shifts : List ℤ) (frames : List ℕ) (out : List Origin) (written number : ℕ)
    (out' : List Origin) (written' index' : ℕ) : Type 0 where
  pub told : (number, written', index')
      ≡ told itself (result_and (origins_refusal words shifts frames (length out)) (Ok (length frames))) written
  pub origins : out'
      ≡ after (origins_refusal words shifts frames (length out)) (map (origin_at (rows words shifts)) frames) out

-- a recording's frame times were asked for: number, starts, working slice, frame count, scale, nominal, end, index
pub record McrawTold (timestamps starts work : List ℤ) (frames scale : ℕ) (nominal end : ℤ) (number : ℕ)
    (starts' work' : List ℤ) (frames' scale' : ℕ) (nominal' end' : ℤ) (index' : ℕ) : Type 0 where
  pub told : (number, (frames', scale', nominal', end'), index')
      ≡ told times_words (mcraw_times timestamps (length starts) (length work)) (frames, scale, nominal, end)
  pub laid_out : starts'
      ≡ laid (starts_written (mcraw_times timestamps (length starts) (length work)) timestamps) starts
  pub cleared : work' ≡ zeros work

-- a moov's frame times were asked for, with offsets by the standard or by the Rust: number, starts, both working
-- slices, frame count, scale, nominal, end, index
pub record MoovTold (standard : Bool) (bytes : List ℕ) (starts first_work second_work : List ℤ) (frames scale : ℕ)
    (nominal end : ℤ) (number : ℕ) (starts' first_work' second_work' : List ℤ) (frames' scale' : ℕ)
    (nominal' end' : ℤ) (index' : ℕ) : Type 0 where
  pub told : (number, (frames', scale', nominal', end'), index')
      ≡ told times_words (moov.times_of_moov standard bytes (moov.room starts first_work second_work)).answer
      (frames, scale, nominal, end)
  pub laid_out : starts'
      ≡ laid (moov.times_of_moov standard bytes (moov.room starts first_work second_work)).starts starts
  pub first_cleared : first_work' ≡ zeros first_work
  pub second_cleared : second_work' ≡ zeros second_work

-- a table was judged by a recording's timestamps: number, both working slices, frame total, index
pub record JudgedTold (lent : Table) (timestamps first_work second_work : List ℤ) (frames number : ℕ)
    (first_work' second_work' : List ℤ) (frames' index' : ℕ) : Type 0 where
  pub told : (number, frames', index')
      ≡ told itself (check_mcraw lent timestamps (length first_work) (length second_work)) frames
  pub first_cleared : first_work' ≡ zeros first_work
  pub second_cleared : second_work' ≡ zeros second_work
