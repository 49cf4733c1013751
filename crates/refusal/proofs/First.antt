-- The first record that a rule refuses: what it says of each record, and the loop that looks for it, a law for a turn,
-- one for a find and one for the end. Assumes nothing.
use Prim.Native.Nat.{ℕ, zero, suc, ◌+◌, ◌-◌, ◌≤◌, ◌<◌}
use Rattle.slices.proofs.Ranges.{run, run-cons, run-nil}
use native.Mathlib.Nat.{le_of_suc-le-suc, not-suc-le-zero, add-zero}
use native.Mathlib.Numerals.{add-one}
use native.Mathlib.Omega.{arith}
use mathlib.Core.Path.{◌≡◌, refl, sym, ap, ◌∙◌}
use mathlib.Core.List.{List, [], ◌∷◌}
use lib.ListN.{length, get_or}
use Rattle.std.specs.Prelude.{Result, Ok, Err}
use Rattle.std.specs.Result.{result_and}
use Rattle.refusal.specs.declared.Reason.{Reason}
use Rattle.refusal.specs.declared.Refusal.{Refusal}
use Rattle.refusal.specs.Refusals.{refused, indexed, first_refused}
use Rattle.refusal.proofs.Chains.{and-ok}

module _ {A : Type 0} (rule : A → Result (Unit {0}) Reason) where
  unrefused : (i : ℕ) (r : Result (Unit {0}) Reason) → indexed i r ≡ Ok tt → r ≡ Ok tt
  unrefused i (Ok u) e = refl
  unrefused i (Err r) e = absurd (grind arith)

  -- no record is refused exactly where the rule refuses none
  pub none-refused : (i : ℕ) (l : List A) (d : A) → first_refused rule i l ≡ Ok tt → (k : ℕ) → k < length l
      → rule (get_or l k d) ≡ Ok tt
  unfolding first_refused
  none-refused i [] d e k h = absurd (not-suc-le-zero h)
  none-refused i (x ∷ l) d e zero h = unrefused i (rule x) (and-ok (indexed i (rule x)) (first_refused rule (suc i) l) tt e).0
  none-refused i (x ∷ l) d e (suc k) h = none-refused (suc i) l d (and-ok (indexed i (rule x)) (first_refused rule (suc i) l) tt e).1 k (le_of_suc-le-suc h)

  pub refuses-none : (i : ℕ) (l : List A) (d : A) → ((k : ℕ) → k < length l → rule (get_or l k d) ≡ Ok tt)
      → first_refused rule i l ≡ Ok tt
  unfolding first_refused
  refuses-none i [] d h = refl
  refuses-none i (x ∷ l) d h = rw (h 0 (omega arith)) (refuses-none (suc i) l d (λ k b. h (suc k) (omega arith)))

  -- the record that is refused, where none before it is
  pub first-refused : (i : ℕ) (l : List A) (d : A) (k : ℕ) (reason : Reason) → k < length l
      → ((j : ℕ) → j < k → rule (get_or l j d) ≡ Ok tt) → rule (get_or l k d) ≡ Err reason
      → first_refused rule i l ≡ refused reason (i + k)
  unfolding first_refused
  first-refused i [] d k reason h p q = absurd (not-suc-le-zero h)
  first-refused i (x ∷ l) d zero reason h p q = rw q (ap (refused reason) (sym (add-zero i)))
  first-refused i (x ∷ l) d (suc k) reason h p q =
      rw (p 0 (omega arith))
      (first-refused (suc i) l d k reason (le_of_suc-le-suc h) (λ j b. p (suc j) (omega arith)) q ∙ ap (refused reason) (omega arith))

  -- a loop's invariant is `first_refused rule k (run f k (m - k)) ≡ x`, with x the whole answer
  module _ (f : ℕ → A) (k m : ℕ) where
    first-cons : k < m → first_refused rule k (run f k (m - k))
        ≡ result_and (indexed k (rule (f k))) (first_refused rule (k + 1) (run f (k + 1) (m - (k + 1))))
    unfolding first_refused
    first-cons h = ap (first_refused rule k) (run-cons f k m h) ∙ rw add-one

    pub first-turn : {x : Result (Unit {0}) Refusal} → k < m → rule (f k) ≡ Ok tt
        → first_refused rule k (run f k (m - k)) ≡ x → first_refused rule (k + 1) (run f (k + 1) (m - (k + 1))) ≡ x
    first-turn h e i = sym (first-cons h ∙ rw e) ∙ i

    pub first-hit : {reason : Reason} {x : Result (Unit {0}) Refusal} → k < m → rule (f k) ≡ Err reason
        → first_refused rule k (run f k (m - k)) ≡ x → refused reason k ≡ x
    first-hit h e i = sym (first-cons h ∙ rw e) ∙ i

    pub first-end : {x : Result (Unit {0}) Refusal} → m ≤ k → first_refused rule k (run f k (m - k)) ≡ x → Ok tt ≡ x
    unfolding first_refused
    first-end h i = sym (ap (first_refused rule k) (run-nil f k m h)) ∙ i
