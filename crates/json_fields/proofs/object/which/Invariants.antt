use Rattle.json_tokens.specs.Strings.{string_at}
use Rattle.json_fields.specs.Sought.{told}
use Rattle.json_fields.proofs.Sought.{NoneBefore}
use Rattle.json_fields.proofs.object.which.Given as goal

-- the name is none of the keys before this one
abbrev pub invariant-loop-k : goal.invariant-loop-k
invariant-loop-k l = NoneBefore (told l.keys) (string_at l.text l.at) l.k
