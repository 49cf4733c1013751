use Rattle.std.proofs.Common.{rules}
use Rattle.signed.proofs.Bits.{back}
use Rattle.maptext.proofs.write_origin.Goals as goal

pub returns-in-Ok : goal.returns-in-Ok
returns-in-Ok g c = search (rules, back)
