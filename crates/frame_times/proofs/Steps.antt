-- A fact of an answer, through the steps that may refuse it. Assumes nothing.
use mathlib.Core.Bool.{Bool, true, false}
use Rattle.std.specs.Prelude.{Option, None, Some, Result}
use Rattle.conditions.specs.Results.{◌>>=◌, ◌>>◌}
use Rattle.refusal.specs.declared.Reason.{Reason}
use Rattle.refusal.specs.declared.Reason.TheVariants as reason
use Rattle.refusal.specs.declared.Refusal.{Refusal}
use Rattle.refusal.specs.Refusals.{refused}
use Rattle.frame_times.specs.Times.{refuse_if, needed}

module _ {B : Type 0} (P : Result B Refusal → Type 0) where
  pub by-needed : {A : Type 0} (o : Option A) {next : A → Result B Refusal} → P (refused reason.Missing 0)
      → ((a : A) → P (next a)) → P (needed o >>= next)
  by-needed None m f = m
  by-needed (Some a) m f = f a

  pub by-test : (b : Bool) (why : Reason) {r : Result B Refusal} → P (refused why 0) → P r → P (refuse_if b why >> r)
  by-test true why m f = m
  by-test false why m f = f
