-- Tables that differ only in words of absent things get the same rows. Assumes nothing.
use Prim.Native.Nat.{ℕ}
use mathlib.Core.Path.{◌≡◌, refl, sym, ◌∙◌}
use mathlib.Core.List.{List, [], ◌∷◌, map}
use lib.ListN.{length, length-map}
use lib.Dec.{eqb}
use lib.IntN.{ℤ}
use Rattle.std.specs.Prelude.{Result, Ok, if◌then◌else◌}
use Rattle.std.specs.Result.{result_and}
use Rattle.refusal.specs.declared.Refusal.{Refusal}
use Rattle.refusal.specs.declared.Reason.TheVariants as reason
use Rattle.refusal.specs.Refusals.{refused}
use Rattle.conditions.proofs.Tests.{decide}
use Rattle.slices.specs.Slices.{after}
use Rattle.rows.specs.Lent.{words_of, shifts_of}
use Rattle.rules.specs.declared.Segment.{Segment}
use Rattle.rules.specs.Records.{Table}
use Rattle.rules.specs.Absent.{stripped_segment, stripped}
use Rattle.rules.proofs.Ignored.{refusal-stripped, alike}
use Rattle.table_rows.specs.Rows.{row_of, rows_of, too_small, rows_refusal, Rowed}

row-stripped : (e : Segment) → row_of (stripped_segment e) ≡ row_of e
unfolding row_of stripped_segment
row-stripped e = decide (eqb e.words.flag 0) (λ q. rw q) (λ q. rw q)

rows-stripped : (l : List Segment) → map row_of (map stripped_segment l) ≡ map row_of l
rows-stripped [] = refl
rows-stripped (e ∷ l) = λ i. row-stripped e i ∷ rows-stripped l i

rows-of-stripped : (t : Table) → rows_of t ≡ rows_of (stripped t)
unfolding rows_of stripped
rows-of-stripped t = sym (rows-stripped t.segments)

length-stripped : (t : Table) → length t.segments ≡ length (stripped t).segments
unfolding stripped
length-stripped t = sym (length-map t.segments stripped_segment)

room-stripped : (nu ns : ℕ) (t : Table) → rows_refusal t nu ns ≡ rows_refusal (stripped t) nu ns
unfolding rows_refusal
room-stripped nu ns t = λ i. result_and (refusal-stripped t i) (if too_small (length-stripped t i) nu ns then refused reason.NoRoom 0 else Ok tt)

-- what rows_of_table may answer and leave of one of two tables that are stripped alike, it may of the other
pub rows_alike : (a b : Table) → stripped a ≡ stripped b → (ou ou' : List ℕ) (os os' : List ℤ) (r : Result ℕ Refusal)
    → Rowed a ou os r ou' os' → Rowed b ou os r ou' os'
rows_alike a b e ou ou' os os' r p =
    let refusals = alike (λ t. rows_refusal t (length ou) (length os)) (room-stripped (length ou) (length os)) a b e in
    let rows = alike rows_of rows-of-stripped a b e in
    let lengths = alike (λ t. length t.segments) length-stripped a b e in
    record {
      answer = p.answer ∙ λ i. result_and (refusals i) (Ok (lengths i));
      words = p.words ∙ λ i. after (refusals i) (words_of (rows i)) ou;
      shifts = p.shifts ∙ λ i. after (refusals i) (shifts_of (rows i)) os;
    }
