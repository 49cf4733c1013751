-- A fact of every element: at an index, of a longer list, of a part. Assumes nothing.
use mathlib.Core.List.{List, [], ◌∷◌, ◌++◌}
use Rattle.std.specs.List.{AllByRecursion}
use Prim.Native.Nat.{ℕ, zero, suc, ◌<◌, zero-le, suc-le-suc}
use native.Mathlib.Nat.{not-suc-le-zero, le_of_suc-le-suc}
use lib.ListN.{length, get_or, take, drop}

pub all-at : {A : Type 0} (P : A → Type 0) (l : List A) (k : ℕ) (d : A) → AllByRecursion P l → k < length l
    → P (get_or l k d)
all-at P [] k d h b = absurd (not-suc-le-zero b)
all-at P (x ∷ l) zero d h b = h.0
all-at P (x ∷ l) (suc k) d h b = all-at P l k d h.1 (le_of_suc-le-suc b)

pub all_of : {A : Type 0} (P : A → Type 0) (l : List A) (d : A) → ((k : ℕ) → k < length l → P (get_or l k d))
    → AllByRecursion P l
all_of P [] d h = tt
all_of P (x ∷ l) d h = (h zero (suc-le-suc zero-le), all_of P l d (λ k b. h (suc k) (suc-le-suc b)))

pub all-weaken : {A : Type 0} (P Q : A → Type 0) (l : List A) → ((x : A) → P x → Q x) → AllByRecursion P l
    → AllByRecursion Q l
all-weaken P Q [] f h = tt
all-weaken P Q (x ∷ l) f h = (f x h.0, all-weaken P Q l f h.1)

pub all_append : {A : Type 0} (P : A → Type 0) (a b : List A) → AllByRecursion P a → AllByRecursion P b
    → AllByRecursion P (a ++ b)
all_append P [] b h k = k
all_append P (x ∷ a) b h k = (h.0, all_append P a b h.1 k)

pub all_drop : {A : Type 0} (P : A → Type 0) (n : ℕ) (l : List A) → AllByRecursion P l → AllByRecursion P (drop n l)
all_drop P zero l h = h
all_drop P (suc n) [] h = h
all_drop P (suc n) (x ∷ l) h = all_drop P n l h.1

pub all_take : {A : Type 0} (P : A → Type 0) (n : ℕ) (l : List A) → AllByRecursion P l → AllByRecursion P (take n l)
all_take P zero l h = tt
all_take P (suc n) [] h = tt
all_take P (suc n) (x ∷ l) h = (h.0, all_take P n l h.1)
