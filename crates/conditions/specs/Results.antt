-- Steps that may fail: `do` goes on from each, as `?` does in the code.
use Rattle.std.specs.Prelude.{Result, Ok, Err}
use Rattle.std.specs.Result.{result_and}

-- what comes next, from a value; a failure ends the steps
infixl 10 ◌>>=◌
abbrev pub ◌>>=◌ : {A B E : Type 0} → Result A E → (A → Result B E) → Result B E
Ok value >>= next = next value
Err failure >>= next = Err failure

-- the same after a step that has no value
infixl 10 ◌>>◌
abbrev pub ◌>>◌ : {A E : Type 0} → Result (Unit {0}) E → Result A E → Result A E
step >> next = result_and step next
