-- What an answer of the check says of the refusal behind it, and of a chain of tests that goes on after 1 to 17.
-- Assumes nothing.
use Prim.Native.Nat.{ℕ}
use mathlib.Core.Path.{◌≡◌}
use Rattle.std.specs.Prelude.{Result, Ok, Err}
use Rattle.std.specs.Result.{result_and}
use Rattle.refusal.specs.declared.Refusal.{Refusal}
use Rattle.refusal.proofs.Chains.{ok-of, err-of}
use Rattle.rules.specs.Records.{Table}
use Rattle.rules.specs.Rules.{refusal, check_of}

-- refusals 1 to 17 come first, and where they refuse nothing the rest decides
module _ (t : Table) {A : Type 0} (rest : Result A Refusal) where
  pub check-first : {r : Refusal} → check_of t ≡ Err r → result_and (refusal t) rest ≡ Err r
  unfolding check_of
  check-first e = rw (err-of (refusal t) _ _ e)

  pub then-rest : {N : ℕ} → check_of t ≡ Ok N → result_and (refusal t) rest ≡ rest
  unfolding check_of
  then-rest {N} e = rw (ok-of (refusal t) _ N e).0
