-- Refusals: for one reason, and the first among many records.
use Rattle.std.specs.Prelude.{ℕ, suc, List, [], ◌∷◌, Result, Ok, Err}
use Rattle.std.specs.Result.{result_and}
use Rattle.refusal.specs.declared.Reason.{Reason}
use Rattle.refusal.specs.declared.Refusal.{Refusal}

-- the refusal for a reason, of what stands at an index
abbrev pub refusal_at : Reason → ℕ → Refusal
refusal_at reason index = record { reason = reason; index = index }

-- the answer that is a refusal
abbrev pub refused : {A : Type 0} → Reason → ℕ → Result A Refusal
refused reason index = Err (refusal_at reason index)

-- a record's own answer, as one about many: its reason gets the record's index
abbrev pub indexed : {A : Type 0} → ℕ → Result A Reason → Result A Refusal
indexed index (Ok x) = Ok x
indexed index (Err reason) = refused reason index

-- the refusal of the first record of a list that a rule refuses, where the list's first is number i
unfoldable pub first_refused :
    {A : Type 0} → (A → Result (Unit {0}) Reason) → ℕ → List A → Result (Unit {0}) Refusal
first_refused rule i [] = Ok tt
first_refused rule i (x ∷ xs) = result_and (indexed i (rule x)) (first_refused rule (suc i) xs)
