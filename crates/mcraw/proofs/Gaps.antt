-- The intervals of timestamps: how many, each, and the first that is below 0. Assumes nothing.
use mathlib.Core.Path.{◌≡◌, refl, sym, ap, ◌∙◌}
use mathlib.Core.Bool.{Bool, true, false, cond}
use mathlib.Core.List.{List, [], ◌∷◌}
use Prim.Native.Nat.{ℕ, zero, suc, ◌+◌, ◌-◌, ◌≤◌, ◌<◌}
use native.Mathlib.Nat.{not-suc-le-zero, le_of_suc-le-suc}
use native.Mathlib.Numerals.{add-one}
use native.Mathlib.Omega.{arith}
use borrow.Author.Tests.{lt-ltb, le-ltb}
use lib.Dec.{ltb, leb-suc-suc}
use lib.IntN.{ℤ, pos, negsuc, ◌-ℤ◌}
use lib.ListN.{length, get_or, drop, drop_of_length-le}
use lib.Seq.{drop-cons}
use lib.Signed.{le_z, lt_z}
use Rattle.std.specs.Prelude.{Result, Ok}
use Rattle.refusal.specs.declared.Reason.TheVariants as reason
use Rattle.refusal.specs.declared.Refusal.{Refusal}
use Rattle.refusal.specs.Refusals.{refused, first_refused}
use Rattle.conditions.proofs.Tests.{decide}
use Rattle.signed.specs.Fits.{I64}
use Rattle.signed.proofs.Bits.{read, lt-read}
use Rattle.signed.proofs.Order.{not-lt-le}
use Rattle.order.specs.Order.{Asc}
use Rattle.order.proofs.Sorted.{least-lower}
use Rattle.mcraw.specs.Mcraw.{falls, gaps}

pub length-gaps : (l : List ℤ) → length (gaps l) ≡ length l - 1
unfolding gaps
length-gaps [] = omega arith
length-gaps (x ∷ []) = omega arith
length-gaps (x ∷ (y ∷ l)) = ap suc (length-gaps (y ∷ l)) ∙ omega arith

gap-suc : (l : List ℤ) (i : ℕ) → suc i < length l
    → get_or (gaps l) i (pos 0) ≡ get_or l (suc i) (pos 0) -ℤ get_or l i (pos 0)
unfolding gaps
gap-suc [] i h = absurd (not-suc-le-zero h)
gap-suc (x ∷ []) i h = absurd (not-suc-le-zero (le_of_suc-le-suc h))
gap-suc (x ∷ (y ∷ l)) zero h = refl
gap-suc (x ∷ (y ∷ l)) (suc i) h = gap-suc (y ∷ l) i (le_of_suc-le-suc h)

-- the interval before timestamp i
pub gap_at : (l : List ℤ) (i : ℕ) → 0 < i → i < length l
    → get_or (gaps l) (i - 1) (pos 0) ≡ get_or l i (pos 0) -ℤ get_or l (i - 1) (pos 0)
gap_at l i from h =
    let e : suc (i - 1) ≡ i = omega arith in
    gap-suc l (i - 1) (omega arith) ∙ ap (λ n. get_or l n (pos 0) -ℤ get_or l (i - 1) (pos 0)) e

-- a difference is below 0 exactly where its first number is below the second
pub less-below : (y x : ℤ) → lt_z (y -ℤ x) (pos 0) ≡ lt_z y x
less-below (pos a) (pos zero) = le-ltb (a + 0) 0 (omega arith) ∙ sym (le-ltb a 0 (omega arith))
less-below (pos a) (pos (suc b)) = sign (ltb a (suc b))
  where
    sign : (t : Bool) → lt_z (cond t (negsuc (suc b - suc a)) (pos (a - suc b))) (pos 0) ≡ t
    sign true = refl
    sign false = le-ltb (a - suc b) 0 (omega arith)
less-below (pos a) (negsuc b) = le-ltb (a + suc b) 0 (omega arith)
less-below (negsuc a) (pos zero) = sign (ltb 0 (suc a)) ∙ lt-ltb 0 (suc a) (omega arith)
  where
    sign : (t : Bool) → lt_z (cond t (negsuc (suc a - 1)) (pos (0 - suc a))) (pos 0) ≡ t
    sign true = refl
    sign false = le-ltb (0 - suc a) 0 (omega arith)
less-below (negsuc a) (pos (suc b)) = refl
less-below (negsuc a) (negsuc b) = sign (ltb (suc b) (suc a)) ∙ leb-suc-suc (suc b) a
  where
    sign : (t : Bool) → lt_z (cond t (negsuc (suc a - suc (suc b))) (pos (suc b - suc a))) (pos 0) ≡ t
    sign true = refl
    sign false = le-ltb (suc b - suc a) 0 (omega arith)

-- the same, as the code tests the two by what is read back of them
below-read : (y x : ℤ) (v : Bool) → I64 y → I64 x → lt_z (read y) (read x) ≡ v → lt_z (y -ℤ x) (pos 0) ≡ v
below-read y x v p q t = less-below y x ∙ lt-read y x p q v t

-- ---- a loop over the timestamps: `first_refused falls i (drop (i - 1) (gaps timestamps)) ≡ r`, with r the whole answer
module _ (timestamps : List ℤ) (i : ℕ) (r : Result (Unit {0}) Refusal) where
  pub fall-end : length timestamps ≤ i → first_refused falls i (drop (i - 1) (gaps timestamps)) ≡ r → Ok tt ≡ r
  unfolding first_refused
  fall-end h e = sym (ap (first_refused falls i) (drop_of_length-le (gaps timestamps) {i = i - 1} (omega (arith, length-gaps timestamps)))) ∙ e

  module _ (from : 0 < i) (inside : i < length timestamps) where
    rest : first_refused falls i (drop (i - 1) (gaps timestamps))
        ≡ first_refused falls i ((get_or timestamps i (pos 0) -ℤ get_or timestamps (i - 1) (pos 0)) ∷ drop (i + 1 - 1) (gaps timestamps))
    rest =
        let e : suc (i - 1) ≡ i + 1 - 1 = omega arith in
        ap (first_refused falls i) (drop-cons (gaps timestamps) (i - 1) (pos 0) (omega (arith, length-gaps timestamps)))
        ∙ ap (λ g. first_refused falls i (g ∷ drop (suc (i - 1)) (gaps timestamps))) (gap_at timestamps i from inside)
        ∙ ap (λ n. first_refused falls i ((get_or timestamps i (pos 0) -ℤ get_or timestamps (i - 1) (pos 0)) ∷ drop n (gaps timestamps))) e

    module _ (fits : I64 (get_or timestamps i (pos 0))) (fits-before : I64 (get_or timestamps (i - 1) (pos 0))) where
      pub fall-turn : lt_z (read (get_or timestamps i (pos 0))) (read (get_or timestamps (i - 1) (pos 0))) ≡ false
          → first_refused falls i (drop (i - 1) (gaps timestamps)) ≡ r
          → first_refused falls (i + 1) (drop (i + 1 - 1) (gaps timestamps)) ≡ r
      unfolding first_refused
      fall-turn t e =
          ap (λ n. first_refused falls n (drop (i + 1 - 1) (gaps timestamps))) (add-one i)
          ∙ sym (rest ∙ rw (below-read (get_or timestamps i (pos 0)) (get_or timestamps (i - 1) (pos 0)) false fits fits-before t)) ∙ e

      pub fall-hit : lt_z (read (get_or timestamps i (pos 0))) (read (get_or timestamps (i - 1) (pos 0))) ≡ true
          → first_refused falls i (drop (i - 1) (gaps timestamps)) ≡ r
          → refused reason.Falling i ≡ r
      unfolding first_refused
      fall-hit t e = sym (rest ∙ rw (below-read (get_or timestamps i (pos 0)) (get_or timestamps (i - 1) (pos 0)) true fits fits-before t)) ∙ e

-- timestamps of which none falls ascend
pub no-fall : (timestamps : List ℤ) (i : ℕ) → first_refused falls i (gaps timestamps) ≡ Ok tt → Asc timestamps
unfolding gaps first_refused
no-fall [] i e = tt
no-fall (x ∷ []) i e = (tt, tt)
no-fall (x ∷ (y ∷ l)) i e =
    decide (lt_z (y -ℤ x) (pos 0))
    (λ t. let z : ◌≡◌ {A = Result (Unit {0}) Refusal} (refused reason.Falling i) (Ok tt) = sym (rw t) ∙ e in absurd (grind arith))
    (λ t.
    let up : le_z x y ≡ true = not-lt-le y x (sym (less-below y x) ∙ t) in
    let tail : Asc (y ∷ l) = no-fall (y ∷ l) (suc i) (sym (rw t) ∙ e) in
    ((up, least-lower x y l up tail.0), tail))

-- what the loop that looks for a fall takes from a turn
pub ruleset falling = (fall-turn, fall-hit, fall-end)
