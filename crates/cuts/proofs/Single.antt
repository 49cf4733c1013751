-- One range is refused, answered and written as by `cut`. Assumes nothing.
use Prim.Native.Nat.{ℕ, ◌≤◌, ◌<◌}
use Rattle.std.proofs.lemmas.List.FromFn.{length-map-range_with_len}
use native.Mathlib.Omega.{arith}
use mathlib.Core.List.{List, [], ◌∷◌, append-nil}
use mathlib.Core.Path.{◌≡◌, sym, ◌∙◌, ap}
use lib.IntN.{ℤ}
use lib.Dec.{ltb, leb}
use lib.ListN.{length}
use borrow.Author.Tests.{le-leb, ltb-false}
use Rattle.std.specs.Prelude.{Result, if◌then◌else◌}
use Rattle.std.specs.Result.{result_and}
use Rattle.std.proofs.Math.Bool.{and-true}
use Rattle.conditions.proofs.Tests.{decide}
use Rattle.refusal.specs.declared.Refusal.{Refusal}
use Rattle.refusal.specs.declared.Reason.TheVariants as reason
use Rattle.refusal.specs.Refusals.{refused, first_refused}
use Rattle.rows.specs.declared.Row.{Row}
use Rattle.rows.specs.Rows.{total, cut}
use Rattle.rows.specs.Lent.{row_at, rows}
use Rattle.rows.proofs.Demanded.{demanded}
use Rattle.maps.specs.Answers.{most_rows, map_refusal, fits, room_refusal, cut_refusal, Placed, Cut}
use Rattle.cuts.specs.Answers.{ranges_of, cuts_of, concat, cuts_fit, range_refusal, ranges_refusal, cuts_refusal, Cuts}

one-cut : (m : List Row) (a b : ℕ) → concat (cuts_of m (ranges_of (a ∷ b ∷ []))) ≡ cut a b m
unfolding concat cuts_of
one-cut m a b = append-nil (cut a b m)

-- the two tests of a range, with what comes after them
one-range : (t a b : ℕ) (rest : Result (Unit {0}) Refusal) → result_and (ranges_refusal t (a ∷ b ∷ [])) rest
    ≡ (if leb b a then refused reason.BadRange 0 else if ltb t b then refused reason.BadRange 0 else rest)
unfolding first_refused
one-range t a b rest = decide (leb b a) (λ e. rw e) (λ e. decide (ltb t b) (λ f. rw (e, f)) (λ f. rw (e, f)))

module _ (u : List ℕ) (s : List ℤ) (a b nu ns nc : ℕ) (h : 0 < nc) where
  abbrev all : List (List Row)
  all = cuts_of (rows u s) (ranges_of (a ∷ b ∷ []))

  -- room for a cut is the same room, since it has no more rows than the map
  one-room : length s ≤ most_rows → cuts_fit all nu ns nc ≡ fits (length (cut a b (rows u s))) nu ns
  unfolding concat cuts_of
  one-room few =
      let k = length (cut a b (rows u s)) in
      rw (
        append-nil (cut a b (rows u s)),
        le-leb 1 nc h,
        le-leb k most_rows (omega (arith, demanded.cut_rows (rows u s) a b, length-map-range_with_len (row_at u s) 0 (length s))),
        and-true,
      )

  same-refusal : cuts_refusal u s (a ∷ b ∷ []) nu ns nc ≡ cut_refusal u s a b nu ns
  same-refusal =
      ap (result_and (map_refusal u s))
      (decide (ltb most_rows (length s)) (λ e. rw e)
      (λ e. rw (e, one-room (ltb-false most_rows (length s) e), one-range (total (rows u s)) a b)))

pub one : (u : List ℕ) (s : List ℤ) (a b : ℕ) (ou : List ℕ) (os : List ℤ) (counts : List ℕ) {ou' ou'' counts' : List ℕ} {os' os'' : List ℤ} {r q : Result ℕ Refusal}
    → 0 < length counts → Cuts u s (a ∷ b ∷ []) ou os counts r ou' os' counts' → Cut u s a b ou os q ou'' os'' → (r ≡ q) × (ou' ≡ ou'') × (os' ≡ os'')
one u s a b ou os counts {ou'} {ou''} {counts'} {os'} {os''} {r} h p q =
    let e = same-refusal u s a b (length ou) (length os) (length counts) h in
    let p' : Placed (cut_refusal u s a b (length ou) (length os)) (cut a b (rows u s)) ou os r ou' os' = rw (e, one-cut (rows u s) a b) at p.placed in
    (p'.answer ∙ sym q.answer, p'.words ∙ sym q.words, p'.shifts ∙ sym q.shifts)
