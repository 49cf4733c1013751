-- Room: what a text needs. Assumes nothing.
use Prim.Native.Nat.{ℕ, ◌*◌, ◌≤◌}
use native.Mathlib.Omega.{arith}
use mathlib.Core.Path.{◌≡◌, refl}
use mathlib.Core.Bool.{Bool, true, false}
use lib.Dec.{ltb}
use borrow.Author.Tests.{ltb-true, ltb-false}
use Rattle.std.specs.Prelude.{if◌then◌else◌}
use Rattle.table_text.specs.Layout.{least_work}
use Rattle.table_text.specs.Read.{work_for, work_needed}

-- what as many words as are needed are enough for
pub record Enough (bytes work : ℕ) : Type 0 where
  pub text : bytes ≤ 4 * work
  pub least : least_work ≤ work

enough_by : (bytes work : ℕ) (b : Bool) → ltb (work_for bytes) least_work ≡ b → (if b then least_work else work_for bytes) ≤ work → Enough bytes work
enough_by bytes work true e h = record { text = omega (arith, ltb-true (work_for bytes) least_work e); least = h }
enough_by bytes work false e h = record { text = omega arith; least = omega (arith, ltb-false (work_for bytes) least_work e) }

pub enough : (bytes work : ℕ) → work_needed bytes ≤ work → Enough bytes work
unfolding work_needed
enough bytes work h = enough_by bytes work (ltb (work_for bytes) least_work) refl h
