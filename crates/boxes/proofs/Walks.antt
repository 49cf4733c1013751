-- The laws of a walk over the boxes of a list: what the boxes from `at` on are, by the header at `at`. Assumes nothing.
use mathlib.Core.Path.{◌≡◌, refl, ap, ◌∙◌}
use mathlib.Core.Bool.{Bool, true, false}
use mathlib.Core.List.{List}
use Prim.Native.Nat.{ℕ, zero, suc, ◌+◌, ◌-◌, ◌≤◌}
use native.Mathlib.Omega.{arith}
use lib.ListN.{length}
use Rattle.boxes.specs.Boxes.{Boxes, box, header_at, after_header, boxes_from, boxes_at, place, first_such}
use Rattle.boxes.specs.declared.BoxAt.{BoxAt}
use Rattle.boxes.specs.declared.Header.{Header}
use Rattle.boxes.specs.declared.Header.TheVariants.{Whole, Short, Bad}
use Rattle.boxes.specs.declared.Walk.TheVariants.{Found}
use Rattle.boxes.specs.Walks.{stop_at}
use Rattle.boxes.proofs.Sizes.{Lies, header-lies, short}

-- any count that is enough gives the same boxes
after_same : (at l : ℕ) (f g : ℕ → Boxes) (h : Header) → Lies at l h → ((k : ℕ) → at + 8 ≤ k → f k ≡ g k)
    → after_header h at f ≡ after_header h at g
after_same at l f g Short z e = refl
after_same at l f g Bad z e = refl
after_same at l f g (Whole b) z e = ap (box at b.kind b.start b.len) (e b.next (omega arith))

enough : (m n : ℕ) (s : List ℕ) (at : ℕ) → length s ≤ m + at → length s ≤ n + at → boxes_from m s at ≡ boxes_from n s at
unfolding boxes_from
enough zero zero s at p q = refl
enough zero (suc n) s at p q = rw (← short s at (omega arith))
enough (suc m) zero s at p q = rw (← short s at (omega arith))
enough (suc m) (suc n) s at p q =
    after_same at (length s) (boxes_from m s) (boxes_from n s) (header_at s at) (header-lies s at)
    (λ k a. enough m n s k (omega arith) (omega arith))

-- the boxes from `at` on, with no count
unrolled : (s : List ℕ) (at : ℕ) → boxes_at s at ≡ after_header (header_at s at) at (boxes_at s)
unfolding boxes_at boxes_from
unrolled s at =
    enough (length s - at) (suc (length s)) s at (omega arith) (omega arith)
    ∙ after_same at (length s) (boxes_from (length s) s) (boxes_at s) (header_at s at) (header-lies s at)
    (λ k a. enough (length s) (length s - k) s k (omega arith) (omega arith))

pub at-header : (s : List ℕ) (at : ℕ) {h : Header} → h ≡ header_at s at → boxes_at s at ≡ after_header h at (boxes_at s)
at-header s at e = rw (unrolled s at, ← e)

-- a header that is not whole, as an `else` knows it
abbrev pub Stops : Header → Type 0
Stops h = (b : BoxAt) → h ≡ Whole b → ⊥

-- the first box that passes a test from `at` on, by the header at `at`
module _ (test : ℕ → ℕ → ℕ → Bool) (s : List ℕ) (at : ℕ) where
  stop : (h : Header) → Stops h → first_such test (after_header h at (boxes_at s)) ≡ stop_at h at
  unfolding first_such
  stop Short t = refl
  stop Bad t = refl
  stop (Whole b) t = absurd (t b refl)

  pub first_stops : {h : Header} → h ≡ header_at s at → Stops h → first_such test (boxes_at s at) ≡ stop_at h at
  first_stops {h} e t = rw (at-header s at e) (stop h t)

  module _ {b : BoxAt} (e : Whole b ≡ header_at s at) where
    pub first_found : test b.kind b.start b.len ≡ true → first_such test (boxes_at s at) ≡ Found (place b.start b.len)
    unfolding first_such
    first_found t = rw (at-header s at e, t)

    pub first-passed : test b.kind b.start b.len ≡ false
        → first_such test (boxes_at s at) ≡ first_such test (boxes_at s b.next)
    unfolding first_such
    first-passed t = rw (at-header s at e, t)
