-- What a sum or difference that an i64 may not hold says of its range. Assumes nothing.
use mathlib.Core.Path.{◌≡◌, sym, ap, ◌∙◌}
use Rattle.std.specs.Ordering.{int_eq}
use Rattle.std.specs.Option.{SomeIff}
use Rattle.std.specs.Prelude.{Option, Some, None}
use mathlib.Core.Bool.{true, false}
use mathlib.Core.List.{List}
use lib.IntN.{ℤ, pos, ◌+ℤ◌, ◌-ℤ◌}
use mir.Syntax.{w64}
use mir.Val.{SFits, of_z}
use Rattle.signed.specs.Signed.{as_i64, is_outside}
use Rattle.signed.specs.Fits.{I64}
use Rattle.signed.proofs.Bits.{read, reads, back}
use Rattle.signed.proofs.Order.{int_eq-no}
use Rattle.signed.proofs.Ranges.{checked_is, held, lost}
use Rattle.mcraw.specs.Mcraw.{first, last, span, nominal, end}

-- the span, the test of the nominal and the end, as the code makes them of numbers that are read back
pub span-held : (timestamps : List ℤ) (r : Option ℤ) (y : ℤ) → I64 (last timestamps) → I64 (first timestamps)
    → SomeIff r (SFits w64 (read (last timestamps) -ℤ read (first timestamps)))
    (read (last timestamps) -ℤ read (first timestamps))
    → r ≡ Some y
    → (is_outside (span timestamps) ≡ false) × (y ≡ span timestamps)
unfolding span
span-held timestamps r y p q e g = held (span timestamps) y (sym (rw (back (last timestamps) p, back (first timestamps) q) at (checked_is r _ e)) ∙ g)

pub moves : (timestamps : List ℤ) (m : ℤ) → m ≡ nominal timestamps → (of_z w64 m ≡ 0 → ⊥)
    → int_eq (nominal timestamps) (pos 0) ≡ false
moves timestamps m b e = int_eq-no (nominal timestamps) (pos 0) (λ z. e (ap (of_z w64) (b ∙ z)))

module _ (timestamps : List ℤ) (s m : ℤ) (f : SFits w64 s) (g : SFits w64 m) (a : s ≡ span timestamps) (b : m ≡ nominal timestamps) (r : Option ℤ) (e : SomeIff r (SFits w64 (read s +ℤ read m)) (read s +ℤ read m)) where
  is-end : r ≡ as_i64 (end timestamps)
  unfolding end
  is-end = checked_is r _ e ∙ (λ i. as_i64 ((reads f ∙ a) i +ℤ (reads g ∙ b) i))

  pub end-held : (y : ℤ) → r ≡ Some y → (is_outside (end timestamps) ≡ false) × (y ≡ end timestamps)
  end-held y k = held (end timestamps) y (sym is-end ∙ k)

  pub end-lost : r ≡ None → is_outside (end timestamps) ≡ true
  end-lost k = lost (end timestamps) (sym is-end ∙ k)
