-- What a size and a header say, wherever they stand. Assumes nothing.
use mathlib.Core.Path.{◌≡◌, sym, subst}
use mathlib.Core.List.{List}
use Rattle.std.specs.Prelude.{Option, None, Some}
use Prim.Native.Nat.{ℕ, ◌+◌, ◌-◌, ◌%◌, ◌^◌, ◌≤◌, ◌<◌}
use native.Mathlib.Nat.{add-zero}
use native.Mathlib.Omega.{arith}
use lib.ListN.{length, take, drop, length-drop}
use lib.Seq.{get_or-drop}
use lib.Dec.{ltb, eqb}
use borrow.Author.Tests.{lt-ltb, le-ltb, ltb-false, ne_eqb}
use Rattle.conditions.proofs.Tests.{either}
use Rattle.boxes.specs.Bytes.{be32_at, be64_at}
use Rattle.boxes.specs.Boxes.{fitting_in, size_of, header_by, header_at}
use Rattle.boxes.specs.declared.BoxSize.{BoxSize}
use Rattle.boxes.specs.declared.Header.{Header}
use Rattle.boxes.specs.declared.Header.TheVariants.{Whole, Short, Bad}
use Rattle.std.proofs.lemmas.List.{take_rest}

-- a header has 8 bytes at least, and its box no fewer and no more than remain
abbrev pub Fitting : ℕ → Option BoxSize → Type 0
Fitting remaining None = Unit {0}
Fitting remaining (Some box) = (8 ≤ box.header) × (box.header ≤ box.size) × (box.size ≤ remaining)

fitting-in : (remaining header size : ℕ) → 8 ≤ header → Fitting remaining (fitting_in remaining header size)
fitting-in remaining header size h =
    either (Fitting remaining) (ltb size header) (λ a. tt)
    (λ a. either (Fitting remaining) (ltb remaining size) (λ b. tt)
    (λ b. (h, ltb-false size header a, ltb-false remaining size b)))

size-fitting : (s : List ℕ) (remaining : ℕ) → Fitting remaining (size_of s remaining)
unfolding size_of
size-fitting s remaining =
    let P = Fitting remaining in
    either P (ltb (length s) 4) (λ a. tt)
    (λ a. either P (eqb (be32_at s 0) 0) (λ b. fitting-in remaining 8 remaining (omega arith))
    (λ a. either P (eqb (be32_at s 0) 1)
    (λ b. either P (ltb (length s) 16) (λ d. tt) (λ d. fitting-in remaining 16 (be64_at s 8) (omega arith)))
    (λ b. fitting-in remaining 8 (be32_at s 0) (omega arith))))

-- the same from the equation that the code has of a size
pub fits : (s : List ℕ) (remaining : ℕ) {z : Option BoxSize} → z ≡ size_of s remaining → Fitting remaining z
fits s remaining e = subst (Fitting remaining) (sym e) (size-fitting s remaining)

-- a size of 32 bits
small : (s : List ℕ) (remaining : ℕ) → 4 ≤ length s → {n : ℕ} {r : Option BoxSize} → 2 ≤ be32_at s 0 → n ≡ be32_at s 0
    → r ≡ fitting_in remaining 8 n → r ≡ size_of s remaining
unfolding size_of
small s remaining h z n r = simp (le-ltb _ _ h, ne_eqb (be32_at s 0) 0 (omega arith), ne_eqb (be32_at s 0) 1 (omega arith), r, n)

module _ (s : List ℕ) (at : ℕ) where
  pub short : length s - at < 8 → Short ≡ header_at s at
  unfolding header_at
  short h = rw (lt-ltb _ _ h)

  -- the code has the bytes from `at` on as `&s[at..]`
  pub by_size : {k : ℕ} {z : Option BoxSize} → 8 ≤ length s - at → k ≡ be32_at s (at + 4)
      → z ≡ size_of (take (length s - at) (drop at s)) (length s - at) → header_by at k z ≡ header_at s at
  unfolding header_at
  by_size h k z = rw (le-ltb _ _ h, k, z, take_rest s at)

  -- a size of 32 bits that fits, by the one test that the code makes
  pub plain : {n k : ℕ} → 8 ≤ length s - at → length s < 2 ^ 64 → n ≡ be32_at s at → n < 2 ^ 32
      → (n + 18446744073709551608) % 2 ^ 64 ≤ length s - at - 8 → k ≡ be32_at s (at + 4)
      → Whole (record { kind = k; start = at + 8; len = (n + 18446744073709551608) % 2 ^ 64; next = at + n }) ≡ header_at s at
  unfolding header_at
  plain {n} h m e u t k =
      let b : 8 ≤ n = omega arith in
      let l : n ≤ length s - at = omega arith in
      let len : (n + 18446744073709551608) % 2 ^ 64 ≡ n - 8 = omega arith in
      let there : be32_at (drop at s) 0 ≡ n = rw (get_or-drop at s 0 0, get_or-drop at s 1 0, get_or-drop at s 2 0, get_or-drop at s 3 0, add-zero) (sym e) in
      let size : Some (record { size = n; header = 8 }) ≡ size_of (drop at s) (length s - at) =
      small (drop at s) (length s - at) (rw length-drop (omega arith)) (rw there (omega arith)) (sym there) (rw (le-ltb n 8 b, le-ltb (length s - at) n l)) in
      rw (le-ltb _ _ h, sym size, k, len)

-- what a whole header says: the payload starts 8 bytes further at least, ends where the next box starts, and that is
-- within the bytes; of a bad one 8 bytes are there
abbrev pub Lies : ℕ → ℕ → Header → Type 0
Lies at l Short = Unit {0}
Lies at l Bad = at + 8 ≤ l
Lies at l (Whole b) = (at + 8 ≤ b.start) × (b.start + b.len ≡ b.next) × (b.next ≤ l)

by-lies : (l at kind : ℕ) (z : Option BoxSize) → at + 8 ≤ l → Fitting (l - at) z → Lies at l (header_by at kind z)
by-lies l at kind None h f = h
by-lies l at kind (Some box) h f = (omega arith, omega arith, omega arith)

pub header-lies : (s : List ℕ) (at : ℕ) → Lies at (length s) (header_at s at)
unfolding header_at
header-lies s at =
    either (Lies at (length s)) (ltb (length s - at) 8) (λ a. tt)
    (λ a. let h = ltb-false (length s - at) 8 a in
    by-lies (length s) at (be32_at s (at + 4)) (size_of (drop at s) (length s - at)) (omega arith) (size-fitting (drop at s) (length s - at)))

-- the same from the equation that a walk has of the header
pub lies : (s : List ℕ) (at : ℕ) {h : Header} → h ≡ header_at s at → Lies at (length s) h
lies s at e = subst (Lies at (length s)) (sym e) (header-lies s at)
