use Rattle.std.proofs.Common.{◌≡◌, ◌-◌, ◌≤◌, length, drop}
use Rattle.json_tokens.specs.Strings.{chars_at, string_at}
use Rattle.json_fields.specs.Fields.{is_key}
use Rattle.json_fields.proofs.object.is_key.Given as goal

-- what is left of the string is what is left of the key exactly where the whole is
abbrev pub invariant-loop-i : goal.invariant-loop-i
invariant-loop-i l = (is_key (drop l.k l.key) (chars_at l.text l.i) ≡ is_key l.key (string_at l.text l.fn.at)) × (l.k ≤ length l.key)

abbrev pub decreases-loop-i : goal.decreases-loop-i
decreases-loop-i l = length l.text - l.i
