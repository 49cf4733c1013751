-- A walk that says it stopped at a broken header came to it, and it is there and broken. Assumes nothing.
use mathlib.Core.Path.{◌≡◌, refl, subst}
use mathlib.Core.Bool.{Bool, true, false}
use mathlib.Core.Logic.{inl, inr}
use mathlib.Core.List.{List}
use Prim.Native.Nat.{ℕ, zero, suc, ◌+◌, ◌-◌, ◌≤◌}
use native.Mathlib.Omega.{arith}
use lib.ListN.{length, drop}
use lib.Dec.{ltb}
use Rattle.std.specs.Prelude.{Option, None, Some}
use Rattle.conditions.proofs.Tests.{either}
use Rattle.boxes.specs.Bytes.{be32_at}
use Rattle.boxes.specs.Boxes.{Boxes, clean, bad, box, size_of, header_by, header_at, after_header, boxes_from, boxes_at, boxes_of, is_text, textual, searched, first_such}
use Rattle.boxes.specs.declared.BoxSize.{BoxSize}
use Rattle.boxes.specs.declared.Header.{Header}
use Rattle.boxes.specs.declared.Header.TheVariants.{Whole, Short, Bad}
use Rattle.boxes.specs.declared.Walk.{Walk}
use Rattle.boxes.specs.declared.Walk.TheVariants.{Found, End, Bad as BadAt}
use Rattle.boxes.proofs.Sizes.{Lies, header-lies}
use Rattle.stops.specs.Stops.{ending, Broken, StopsAt}

-- a whole header's type is in the four bytes after its size
abbrev Typed : ℕ → Header → Type 0
Typed k Short = Unit {0}
Typed k Bad = Unit {0}
Typed k (Whole b) = b.kind ≡ k

by-typed : (at k : ℕ) (z : Option BoxSize) → Typed k (header_by at k z)
by-typed at k None = tt
by-typed at k (Some b) = refl

header-typed : (s : List ℕ) (at : ℕ) → Typed (be32_at s (at + 4)) (header_at s at)
unfolding header_at
header-typed s at =
    let k = be32_at s (at + 4) in
    either (Typed k) (ltb (length s - at) 8) (λ a. tt) (λ a. by-typed at k (size_of (drop at s) (length s - at)))

-- of every header 8 bytes are there; a box has its type there, and the boxes end cleanly or at a header that is bad
abbrev Ends : List ℕ → Boxes → Type 0
Ends s clean = Unit {0}
Ends s (bad at) = (at + 8 ≤ length s) × (header_at s at ≡ Bad)
Ends s (box at kind start len rest) = (at + 8 ≤ length s) × (kind ≡ be32_at s (at + 4)) × Ends s rest

after-ends : (s : List ℕ) (at : ℕ) (f : ℕ → Boxes) (h : Header) → header_at s at ≡ h → Lies at (length s) h
    → Typed (be32_at s (at + 4)) h
    → ((k : ℕ) → Ends s (f k)) → Ends s (after_header h at f)
after-ends s at f Short e l t r = tt
after-ends s at f Bad e l t r = (l, e)
after-ends s at f (Whole b) e l t r = (omega arith, t, r b.next)

ends-from : (m : ℕ) (s : List ℕ) (at : ℕ) → Ends s (boxes_from m s at)
unfolding boxes_from
ends-from zero s at = tt
ends-from (suc m) s at = after-ends s at (boxes_from m s) (header_at s at) refl (header-lies s at) (header-typed s at) (λ k. ends-from m s k)

ends : (s : List ℕ) → Ends s (boxes_of s)
unfolding boxes_at
ends s = ends-from (length s - 0) s 0

-- so where the boxes end at a broken header it is broken, with text types or without
abbrev BrokenAt : Bool → List ℕ → Walk → Type 0
BrokenAt text s (Found p) = Unit {0}
BrokenAt text s End = Unit {0}
BrokenAt text s (BadAt at) = Broken text s at

ending-broken : (text : Bool) (s : List ℕ) (b : Boxes) → Ends s b → BrokenAt text s (ending (searched text b))
unfolding ending textual
ending-broken true s clean e = tt
ending-broken true s (bad at) e = (e.0, inl e.1)
ending-broken true s (box at k start len rest) e =
    either (λ (b : Boxes). BrokenAt true s (ending b)) (is_text k)
    (λ t. ending-broken true s rest e.2)
    (λ t. (e.0, inr (refl, subst (λ (k : ℕ). is_text k ≡ false) e.1 t)))
ending-broken false s clean e = tt
ending-broken false s (bad at) e = (e.0, inl e.1)
ending-broken false s (box at k start len rest) e = ending-broken false s rest e.2

-- a walk that finds nothing ends as the boxes do
abbrev Comes : Walk → Walk → Type 0
Comes end (Found p) = Unit {0}
Comes end End = end ≡ End
Comes end (BadAt at) = end ≡ BadAt at

first-comes : (test : ℕ → ℕ → ℕ → Bool) (b : Boxes) → Comes (ending b) (first_such test b)
unfolding ending first_such
first-comes test clean = refl
first-comes test (bad at) = refl
first-comes test (box at k start len rest) = either (Comes (ending rest)) (test k start len) (λ t. tt) (λ t. first-comes test rest)

pub walk_ends : (text : Bool) (test : ℕ → ℕ → ℕ → Bool) (s : List ℕ)
    → first_such test (searched text (boxes_of s)) ≡ End → ending (searched text (boxes_of s)) ≡ End
walk_ends text test s e = let b = searched text (boxes_of s) in subst (Comes (ending b)) e (first-comes test b)

pub stopped-at-bad : (text : Bool) (test : ℕ → ℕ → ℕ → Bool) (s : List ℕ) {at : ℕ}
    → first_such test (searched text (boxes_of s)) ≡ BadAt at → StopsAt text s at
stopped-at-bad text test s e =
    let b = searched text (boxes_of s) in
    let c = subst (Comes (ending b)) e (first-comes test b) in
    record { comes = c; broken = subst (BrokenAt text s) c (ending-broken text s (boxes_of s) (ends s)) }
