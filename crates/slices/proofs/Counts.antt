-- How many elements pass a test, with one more in front, and where all that pass come first. Assumes nothing.
use Rattle.std.specs.List.{count_by}
use Rattle.std.proofs.lemmas.List.Sums.{sum_by-cons}
use mathlib.Core.Path.{◌≡◌, ap, ◌∙◌}
use mathlib.Core.Bool.{Bool, cond, true, false}
use mathlib.Core.List.{List, [], ◌∷◌}
use Prim.Native.Nat.{ℕ, zero, suc, ◌+◌, ◌≤◌, ◌<◌, zero-le, suc-le-suc}
use native.Mathlib.Nat.{le_of_suc-le-suc, not-suc-le-zero}
use native.Mathlib.Omega.{arith}
use lib.ListN.{length, get_or}

module _ {A : Type 0} (f : A → Bool) (x : A) (l : List A) where
  pub count-cons : count_by f (x ∷ l) ≡ cond (f x) 1 0 + count_by f l
  count-cons = sum_by-cons (λ y. cond (f y) 1 0) x l

  pub count-yes : f x ≡ true → count_by f (x ∷ l) ≡ suc (count_by f l)
  count-yes e = count-cons ∙ rw e (omega arith)

  pub count-no : f x ≡ false → count_by f (x ∷ l) ≡ count_by f l
  count-no e = count-cons ∙ rw e (omega arith)

-- n pass, and then none
pub count-split : {A : Type 0} (f : A → Bool) (l : List A) (d : A) (n : ℕ) → n ≤ length l
    → ((k : ℕ) → k < n → f (get_or l k d) ≡ true)
    → ((k : ℕ) → n ≤ k → k < length l → f (get_or l k d) ≡ false) → count_by f l ≡ n
count-split f [] d n h y z = omega arith
count-split f (x ∷ l) d zero h y z =
    count-no f x l (z 0 zero-le (suc-le-suc zero-le)) ∙ count-split f l d zero zero-le (λ k b. absurd (not-suc-le-zero b)) (λ k b c. z (suc k) zero-le (suc-le-suc c))
count-split f (x ∷ l) d (suc n) h y z =
    count-yes f x l (y 0 (suc-le-suc zero-le))
    ∙ ap suc (count-split f l d n (le_of_suc-le-suc h) (λ k b. y (suc k) (suc-le-suc b)) (λ k b c. z (suc k) (suc-le-suc b) (suc-le-suc c)))
