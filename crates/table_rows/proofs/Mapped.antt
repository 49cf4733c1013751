-- The rows of an accepted table are a well-formed map of its frames. Assumes nothing.
use Prim.Native.Nat.{ℕ, suc, ◌+◌, ◌≤◌, ◌<◌, zero-le, suc-le-suc}
use native.Mathlib.Omega.{arith}
use mathlib.Core.Path.{◌≡◌, refl, ap, ◌∙◌}
use mathlib.Core.Bool.{true}
use mathlib.Core.List.{List, [], ◌∷◌, map}
use lib.ListN.{length, get_or, length-map}
use lib.Dec.{eqb}
use borrow.Author.Tests.{eq-eqb, ne_eqb, lt-ltb, eqb-true, eqb-false}
use Rattle.conditions.proofs.Sums.{not-past}
use Rattle.conditions.specs.Conditions.{max_u64}
use Rattle.conditions.proofs.Tests.{decide}
use Rattle.rows.specs.Rows.{ok_shift, ok_row, WellFrom}
use Rattle.rows.specs.Rows as rows
use Rattle.rows.proofs.Flat.{rows-flat}
use Rattle.rules.specs.declared.Segment.{Segment}
use Rattle.rules.specs.Records.{Table, no_segment, segment, out_end, frame_total}
use Rattle.rules.proofs.Accepted.{Accepted, accepted}
use Rattle.table_rows.specs.Rows.{row_of, rows_of}
use Rattle.table_rows.specs.Mapped.{RowsAreMap}

shift-ok : (e : Segment) → e.words.flag ≤ 1 → ok_shift (row_of e) ≡ true
unfolding row_of
shift-ok e h =
    decide (eqb e.words.flag 0)
    (λ q. rw (q, ne_eqb e.words.flag 1 (λ z. omega (arith, eqb-true e.words.flag 0 q))))
    (λ q. let o = eqb-false e.words.flag 0 q in rw (eq-eqb e.words.flag 1 (omega arith)))

-- what a segment has of its own
record Good (e : Segment) : Type 0 where
  some : 0 < e.words.count
  source : e.words.first + e.words.count ≤ max_u64
  last : out_end e ≤ max_u64
  flag : e.words.flag ≤ 1

-- its row, where output frame p is next
row_ok : (p : ℕ) (e : Segment) → Good e → e.words.out ≡ p → ok_row p (row_of e) ≡ true
unfolding row_of
row_ok p e g o =
    rw (
      lt-ltb 0 e.words.count g.some,
      not-past e.words.first e.words.count max_u64 g.source,
      not-past e.words.out e.words.count max_u64 g.last,
      eq-eqb e.words.out p o,
    )
    (shift-ok e g.flag)

rows_ok : (p : ℕ) (l : List Segment) → ((k : ℕ) → k < length l → Good (get_or l k no_segment))
    → (0 < length l → (get_or l 0 no_segment).words.out ≡ p)
    → ((k : ℕ) → suc k < length l → (get_or l (suc k) no_segment).words.out ≡ out_end (get_or l k no_segment)) → WellFrom p (map row_of l)
unfolding row_of
rows_ok p [] g z n = tt
rows_ok p (e ∷ l) g z n =
    let o = z (suc-le-suc zero-le) in (
      row_ok p e (g 0 (suc-le-suc zero-le)) o,
      rows_ok (p + e.words.count) l (λ k b. g (suc k) (suc-le-suc b)) (λ b. n 0 (suc-le-suc b) ∙ ap (λ (j : ℕ). j + e.words.count) o)
          (λ k b. n (suc k) (suc-le-suc b)),
    )

rows-total : (l : List Segment) → rows.total (map row_of l) ≡ frame_total l
unfolding frame_total row_of
rows-total [] = refl
rows-total (e ∷ l) = ap (λ (n : ℕ). e.words.count + n) (rows-total l)

-- of every table
pub mapped : (t : Table) → RowsAreMap t
unfolding rows_of
mapped t = record {
  well = λ N e. let a = accepted t N e in rows_ok 0 t.segments (good N a) (λ b. a.first) (λ k b. (a.follows k b).frame);
  frames = λ N e. rows-total t.segments ∙ (accepted t N e).sum;
  each = length-map t.segments row_of;
  read = rows-flat (map row_of t.segments);
}
  where
    good : (N : ℕ) → Accepted t N → (k : ℕ) → k < length t.segments → Good (segment t k)
    good N a k b = let x = a.segments k b in record { some = x.some; source = x.src-fits; last = x.out-fits; flag = a.flags k b }
