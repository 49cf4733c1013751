-- Loops that copy over a slice from its start, over any element type, at the code's `i + 1`. Assumes nothing.
--     copy-     a store after i stores, and the end, where a slice is copied over
use mathlib.Core.Path.{◌≡◌, refl, ap}
use mathlib.Core.List.{List, [], ◌∷◌, ◌++◌}
use Prim.Native.Nat.{ℕ, zero, suc, ◌+◌, ◌<◌}
use native.Mathlib.Nat.{not-suc-le-zero, le_of_suc-le-suc}
use native.Mathlib.Numerals.{add-one}
use lib.ListN.{length, set, get_or, take, drop}
use lib.Seq.{take_all}

store-suc : {A : Type 0} (src dst : List A) (i : ℕ) (d : A) → i < length src → i < length dst
    → set (take i src ++ drop i dst) i (get_or src i d) ≡ take (suc i) src ++ drop (suc i) dst
store-suc [] dst i d h k = absurd (not-suc-le-zero h)
store-suc (x ∷ xs) [] i d h k = absurd (not-suc-le-zero k)
store-suc (x ∷ xs) (y ∷ ys) zero d h k = refl
store-suc (x ∷ xs) (y ∷ ys) (suc i) d h k = ap (λ l. x ∷ l) (store-suc xs ys i d (le_of_suc-le-suc h) (le_of_suc-le-suc k))

-- a store of src's element at i, after i such stores
pub copy_more : {A : Type 0} (src dst : List A) (i : ℕ) (d : A) → i < length src → i < length dst
    → set (take i src ++ drop i dst) i (get_or src i d) ≡ take (i + 1) src ++ drop (i + 1) dst
copy_more src dst i d h k = rw add-one (store-suc src dst i d h k)

pub copy-all : {A : Type 0} (src dst : List A) (i : ℕ) → i ≡ length src
    → take i src ++ drop i dst ≡ src ++ drop (length src) dst
copy-all src dst i e = rw (e, take_all (length src) src (native.Mathlib.Nat.le_refl (length src)))
