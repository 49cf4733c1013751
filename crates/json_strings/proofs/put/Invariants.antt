use Rattle.std.proofs.Common.{◌≡◌, ◌+◌, ◌++◌, length, take, drop}
use Rattle.slices.specs.Slices.{laid}
use Rattle.json_strings.specs.Texts.{utf8_of, string_bytes}
use Rattle.json_strings.specs.Left.{chars_left}
use Rattle.json_strings.proofs.put.Given as goal

-- with the bytes of those that are left they are all, and so is what is laid
abbrev pub invariant-loop-c : goal.invariant-loop-c
invariant-loop-c l =
    (l.n + length (utf8_of (chars_left l.c-iterator)) ≡ l.from + length (string_bytes l.text l.at))
    × (take l.n l.out ++ laid (utf8_of (chars_left l.c-iterator)) (drop l.n l.out) ≡ take l.from l.fn.out ++ laid (string_bytes l.text l.at)
    (drop l.from l.fn.out))
