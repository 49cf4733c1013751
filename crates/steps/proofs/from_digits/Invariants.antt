use Rattle.std.proofs.Common.{◌≡◌, take, ◌≤◌, ◌<◌, ◌^◌, length}
use Rattle.std.specs.Str.Parse.{digits_value}
use Rattle.steps.proofs.from_digits.Given as goal

abbrev pub invariant-loop-digit : goal.invariant-loop-digit
invariant-loop-digit l = (l.digit-index ≤ length l.digits) × (l.number < 2 ^ 64) × (l.number ≡ digits_value 10 (take l.digit-index l.digits))
