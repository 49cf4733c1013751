-- Walks over lists whose items are tested, and what is counted of them. Assumes nothing.
use Prim.Native.Nat.{ℕ}
use mathlib.Core.Path.{◌≡◌, refl, sym, ap, ◌∙◌}
use mathlib.Core.Bool.{Bool, true, false, ◌&&◌}
use mathlib.Core.List.{List, [], ◌∷◌}
use native.Mathlib.Omega.{arith}
use Rattle.std.specs.Prelude.{Option, Some, None, is_some}
use Rattle.std.specs.List.{list_all}
use Rattle.table_text.specs.Read.{counted_of}

-- the items that a test reads
abbrev pub all_some : {A : Type 0} → (ℕ → Option A) → List ℕ → Bool
all_some p l = list_all (λ i. is_some (p i)) l

module _ {A : Type 0} (p : ℕ → Option A) (all : List ℕ) where
  module _ {l rest : List ℕ} {at : ℕ} (q : l ≡ at ∷ rest) (inv : all_some p l ≡ all_some p all) where
    pub onward : (a : A) → Some a ≡ p at → all_some p rest ≡ all_some p all
    onward a h = ap (λ (o : Option A). is_some o && all_some p rest) h ∙ (sym (ap (all_some p) q) ∙ inv)

  pub counted : {B : Type 0} {l : List ℕ} (n m : B) → l ≡ [] → all_some p l ≡ all_some p all → n ≡ m → Some n ≡ counted_of (all_some p all) m
  counted n m q inv e = rw (← inv, q, e)

-- nothing counted
pub not-counted : {A : Type 0} (b : Bool) (m : A) → None ≡ counted_of b m → b ≡ false
not-counted true m h = absurd (grind arith)
not-counted false m h = refl
