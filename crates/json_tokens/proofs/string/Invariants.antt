use Rattle.std.proofs.Common.{◌≡◌, ◌-◌, length}
use Rattle.json_tokens.specs.Text.{end_of}
use Rattle.json_tokens.specs.Strings.{chars_at, string_at}
use Rattle.json_tokens.proofs.string.Given as goal

-- the characters from i on end where the string does
abbrev pub invariant-loop-i : goal.invariant-loop-i
invariant-loop-i l = end_of (chars_at l.text l.i) ≡ end_of (string_at l.text l.fn.at)

abbrev pub decreases-loop-i : goal.decreases-loop-i
decreases-loop-i l = length l.text - l.i
