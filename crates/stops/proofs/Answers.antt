-- What is so of an answer where it is 36, and where it is 31. Assumes nothing.
use mathlib.Core.Path.{◌≡◌, refl}
use Prim.Native.Nat.{ℕ, ◌+◌}
use native.Mathlib.Omega.{arith}
use Rattle.std.specs.Prelude.{Result, Ok, Err}
use Rattle.refusal.specs.declared.Reason.{Reason}
use Rattle.refusal.specs.declared.Reason.TheVariants as reason
use Rattle.refusal.specs.declared.Refusal.{Refusal}
use Rattle.boxes.specs.Places.{place_of, moved_walk}
use Rattle.boxes.specs.declared.Walk.{Walk}
use Rattle.boxes.specs.declared.Walk.TheVariants.{Found, End, Bad as BadAt}

-- P holds of the index, where an answer is a refusal for a reason
abbrev pub Told : {A : Type 0} → Reason → (ℕ → Type 0) → Result A Refusal → Type 0
Told why P (Ok a) = Unit {0}
Told why P (Err refusal) = refusal.reason ≡ why → P refusal.index

-- the place of a walk is 36 where it stopped at a broken header; the same of a walk over a part
pub place-told : (P : ℕ → Type 0) (w : Walk) → ((at : ℕ) → w ≡ BadAt at → P at) → Told reason.Broken P (place_of w)
place-told P (Found p) f = tt
place-told P End f = λ e. absurd (grind arith)
place-told P (BadAt at) f = λ e. f at refl

pub moved_told : (P : ℕ → Type 0) (by : ℕ) (w : Walk) → ((at : ℕ) → w ≡ BadAt at → P (by + at))
    → Told reason.Broken P (place_of (moved_walk by w))
moved_told P by (Found p) f = tt
moved_told P by End f = λ e. absurd (grind arith)
moved_told P by (BadAt at) f = λ e. f at refl

-- and it is 31 where it came to a clean end
pub place-ended : (X : Type 0) (w : Walk) → (w ≡ End → X) → Told reason.Missing (λ i. X) (place_of w)
place-ended X (Found p) f = tt
place-ended X End f = λ e. f refl
place-ended X (BadAt at) f = λ e. absurd (grind arith)

pub moved-ended : (X : Type 0) (by : ℕ) (w : Walk) → (w ≡ End → X)
    → Told reason.Missing (λ i. X) (place_of (moved_walk by w))
moved-ended X by (Found p) f = tt
moved-ended X by End f = λ e. f refl
moved-ended X by (BadAt at) f = λ e. absurd (grind arith)

-- what follows from P is told too
pub told-weaker : {A : Type 0} (why : Reason) {P Q : ℕ → Type 0} (r : Result A Refusal) → ((i : ℕ) → P i → Q i)
    → Told why P r → Told why Q r
told-weaker why (Ok a) f h = tt
told-weaker why (Err refusal) f h = λ e. f refusal.index (h e)
