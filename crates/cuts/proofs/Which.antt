-- Which refusal the cuts give. Assumes nothing.
use Prim.Native.Nat.{ℕ, ◌/◌, ◌%◌, ◌<◌}
use mathlib.Core.List.{List}
use mathlib.Core.Path.{◌≡◌, refl, sym, ◌∙◌}
use lib.Dec.{ltb}
use lib.IntN.{ℤ}
use lib.ListN.{length}
use borrow.Author.Tests.{le-ltb, ltb-false}
use Rattle.std.specs.Prelude.{Result, Ok, Err}
use Rattle.conditions.proofs.Tests.{decide}
use Rattle.refusal.specs.declared.Refusal.{Refusal}
use Rattle.refusal.specs.declared.Reason.TheVariants as reason
use Rattle.refusal.specs.Refusals.{refused}
use Rattle.rows.specs.Rows.{total}
use Rattle.rows.specs.Lent.{rows}
use Rattle.maps.specs.Answers.{most_rows, map_refusal, cut_refusal, Cut}
use Rattle.maps.specs.Laws.{LentMap}
use Rattle.maps.proofs.Chains.{sound, lent, is-sound}
use Rattle.cuts.specs.Answers.{Inside, range_at, ranges_of, cuts_of, ranges_refusal, cuts_fit, cuts_refusal, Cuts}
use Rattle.cuts.specs.Laws.{Accepted}
use Rattle.cuts.proofs.Refused.{ranges-odd, ranges-accepted, ranges-first, fit-facts}

module _ (u : List ℕ) (s : List ℤ) (ranges ou : List ℕ) (os : List ℤ) (counts : List ℕ) {r : Result ℕ Refusal} {ou' : List ℕ} {os' : List ℤ} {counts' : List ℕ} (p : Cuts u s ranges ou os counts r ou' os' counts') where
  -- a map that no call takes: both chains end at the same test
  pub map_refused : (a b : ℕ) (pu : List ℕ) (ps : List ℤ) {pu' : List ℕ} {ps' : List ℤ} {q : Result ℕ Refusal}
      → (LentMap u s → ⊥) → Cut u s a b pu ps q pu' ps' → r ≡ q
  map_refused a b pu ps {pu'} {ps'} {q} h c = by (map_refusal u s) refl
    where
      by : (x : Result (Unit {0}) Refusal) → map_refusal u s ≡ x → r ≡ q
      by (Err x) e = (rw e at p.placed.answer) ∙ sym (rw e at c.answer)
      by (Ok x) e =
          decide (ltb most_rows (length s)) (λ l. (rw (e, l) at p.placed.answer) ∙ sym (rw (e, l) at c.answer))
          (λ l. absurd (h (lent (sound u s e) (ltb-false most_rows (length s) l))))

  module _ (m : LentMap u s) where
    abbrev t : ℕ
    t = total (rows u s)

    at_range : {k : ℕ} → ranges_refusal t ranges ≡ refused reason.BadRange k → r ≡ refused reason.BadRange k
    at_range e = rw (is-sound m, le-ltb most_rows (length s) m.few, e) at p.placed.answer

    pub torn_refused : length ranges % 2 ≡ 1 → r ≡ refused reason.BadRange (length ranges / 2)
    torn_refused e = at_range (ranges-odd t ranges e)

    pub range_refused : (k : ℕ) → length ranges % 2 ≡ 0 → k < length ranges / 2
        → ((j : ℕ) → j < k → Inside t (range_at ranges j)) → (Inside t (range_at ranges k) → ⊥)
        → r ≡ refused reason.BadRange k
    range_refused k e h b q = at_range (ranges-first t ranges k e h b q)

    pub room_refused : length ranges % 2 ≡ 0 → ((k : ℕ) → k < length ranges / 2 → Inside t (range_at ranges k))
        → (Accepted u s ranges ou os counts → ⊥) → r ≡ refused reason.RowsDontFit 0
    room_refused e b q =
        decide (cuts_fit (cuts_of (rows u s) (ranges_of ranges)) (length ou) (length os) (length counts))
        (λ f. let x = fit-facts u s ranges (length ou) (length os) (length counts) f in absurd (q (record { map = m; pairs = e; inside = b; words = x.0; shifts = x.1; counts_fit = x.2 })))
        (λ f. rw (is-sound m, le-ltb most_rows (length s) m.few, ranges-accepted t ranges e b, f) at p.placed.answer)
