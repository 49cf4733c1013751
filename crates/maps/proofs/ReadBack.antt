-- Rows that are written read back as they are, and what an accepted call wrote is a map that can be lent. Assumes
-- nothing.
use Rattle.std.proofs.Common.{◌≡◌, ℕ, ◌*◌, ◌<◌, ◌≤◌, List, [], ◌∷◌, ◌++◌, length, take, drop, ℤ, sym, ap, ◌∙◌, ap₂, arith, take_at, drop_at}
use Rattle.std.specs.Prelude.{Result, Ok, Err}
use Rattle.refusal.specs.declared.Refusal.{Refusal}
use Rattle.refusal.proofs.Chains.{ok-of, err-of}
use Rattle.slices.specs.Slices.{after}
use Rattle.rows.specs.declared.Row.{Row}
use Rattle.rows.specs.Rows.{total, WellFormed}
use Rattle.rows.proofs.Demanded.{demanded}
use Rattle.rows.specs.Lent.{rows, words_of, shifts_of}
use Rattle.maps.specs.Answers.{most_rows, Placed}
use Rattle.maps.specs.Laws.{Wrote, AsLent}
use Rattle.rows.proofs.Flat.{length-words, length-shifts, rows-flat}

-- an accepted call
module _ {x : Result (Unit {0}) Refusal} {m : List Row} {ou : List ℕ} {os : List ℤ} {k : ℕ} {ou' : List ℕ} {os' : List ℤ} (p : Placed x m ou os (Ok k) ou' os') where
  pub none : x ≡ Ok tt
  none = (ok-of x (length m) k (sym p.answer)).0

  pub count : k ≡ length m
  count = sym (ok-of x (length m) k (sym p.answer)).1

  words-n : length (words_of m) ≡ 5 * k
  words-n = length-words m ∙ ap (λ (n : ℕ). 5 * n) (sym count)

  shifts-n : length (shifts_of m) ≡ k
  shifts-n = length-shifts m ∙ sym count

  the-words : ou' ≡ words_of m ++ drop (length (words_of m)) ou
  the-words = p.words ∙ ap (λ (y : Result (Unit {0}) Refusal). after y (words_of m) ou) none

  the-shifts : os' ≡ shifts_of m ++ drop (length (shifts_of m)) os
  the-shifts = p.shifts ∙ ap (λ (y : Result (Unit {0}) Refusal). after y (shifts_of m) os) none

  pub words_are : take (5 * k) ou' ≡ words_of m
  words_are = ap (take (5 * k)) the-words ∙ take_at (words_of m) (drop (length (words_of m)) ou) (5 * k) words-n

  pub shifts-are : take k os' ≡ shifts_of m
  shifts-are = ap (take k) the-shifts ∙ take_at (shifts_of m) (drop (length (shifts_of m)) os) k shifts-n

  pub read-back : rows (take (5 * k) ou') (take k os') ≡ m
  read-back = ap₂ rows words_are shifts-are ∙ rows-flat m

  pub past_words : drop (5 * k) ou' ≡ drop (5 * k) ou
  past_words = ap (drop (5 * k)) the-words ∙ drop_at (words_of m) (drop (length (words_of m)) ou) (5 * k) words-n ∙ ap (λ (n : ℕ). drop n ou) words-n

  pub past-shifts : drop k os' ≡ drop k os
  past-shifts = ap (drop k) the-shifts ∙ drop_at (shifts_of m) (drop (length (shifts_of m)) os) k shifts-n ∙ ap (λ (n : ℕ). drop n os) shifts-n

  pub wrote : 0 < length m → length m ≤ most_rows → WellFormed m → Wrote k ou' os' m
  wrote some few well =
      let nu = ap length words_are ∙ length-words m in
      let ns = ap length shifts-are ∙ length-shifts m in
      record {
        lent = record { some = omega arith; sizes = omega arith; well = rw read-back well; few = omega arith };
        is = read-back;
      }

pub as_lent : {x : Result (Unit {0}) Refusal} {m : List Row} {ou : List ℕ} {os : List ℤ} (r : Result ℕ Refusal) {ou' : List ℕ} {os' : List ℤ}
    → Placed x m ou os r ou' os' → AsLent r ou os ou' os'
as_lent (Ok k) p = (past_words p, past-shifts p)
as_lent {x} {m} (Err e) p = let f = err-of x (length m) e (sym p.answer) in (rw f at p.words, rw f at p.shifts)

-- a map has rows exactly where it has frames
pub frames-rows : (m : List Row) → 0 < total m → 0 < length m
frames-rows [] h = absurd (omega arith)
frames-rows (r ∷ m) h = omega arith

pub rows-frames : (m : List Row) → WellFormed m → 0 < length m → 0 < total m
rows-frames [] w h = absurd (omega arith)
rows-frames (r ∷ m) w h = let t = (demanded.tiles (r ∷ m) w).0 in omega (arith, t.1)
