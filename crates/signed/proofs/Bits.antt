-- A signed local is bits: each use of it reads back what was written. Assumes nothing.
--     read, reads, back      what is read back from the bits of z, which is z where an i64 holds it
--     lt-read                a test of what is read back is the test of the numbers
use mathlib.Core.Path.{◌≡◌, sym, ap, ◌∙◌}
use mathlib.Core.Bool.{Bool}
use lib.IntN.{ℤ}
use lib.Signed.{lt_z}
use mir.Syntax.{w64}
use mir.Val.{SFits, to_z, of_z}
use mir.Facts.{to_z-of_z}
use Rattle.signed.specs.Fits.{I64}

-- what the machine reads back from the bits of z
abbrev pub read : ℤ → ℤ
read z = to_z w64 (of_z w64 z)

pub reads : {z : ℤ} → SFits w64 z → read z ≡ z
reads f = to_z-of_z {w = w64} f

pub fits-of : {z : ℤ} → I64 z → SFits w64 z
fits-of h = record { sfits = h }

pub back : (z : ℤ) → I64 z → read z ≡ z
back z h = to_z-of_z {w = w64} (record { sfits = h })

module _ (a b : ℤ) (p : I64 a) (q : I64 b) (t : Bool) where
  pub lt-read : lt_z (read a) (read b) ≡ t → lt_z a b ≡ t
  lt-read e = ap (λ z. lt_z z b) (sym (back a p)) ∙ ap (lt_z (read a)) (sym (back b q)) ∙ e
