-- What calls leave in lent slices.
use Rattle.std.specs.Prelude.{List, ◌++◌, ℤ, pos, length, drop, replicate, Result, Ok, Err}

-- what is written over the first elements of what was lent
abbrev pub laid : {A : Type 0} → List A → List A → List A
laid written lent = written ++ drop (length written) lent

-- a lent slice after an answer: with what is written, or as it was where that is a refusal
abbrev pub after : {A T E : Type 0} → Result T E → List A → List A → List A
after (Ok answer) written lent = laid written lent
after (Err refusal) written lent = lent

-- as many zeros as were lent
abbrev pub zeros : List ℤ → List ℤ
zeros lent = replicate (length lent) (pos 0)
