use Rattle.std.proofs.Common.{◌≡◌, ◌+◌, length}
use Rattle.json_strings.specs.Texts.{utf8_of, string_bytes}
use Rattle.json_strings.specs.Left.{chars_left}
use Rattle.json_strings.proofs.size.Given as goal

-- with the bytes of those that are left it is all
abbrev pub invariant-loop-c : goal.invariant-loop-c
invariant-loop-c l = l.size + length (utf8_of (chars_left l.c-iterator)) ≡ length (string_bytes l.text l.at)
