use Rattle.std.proofs.Common.{rules}
use Rattle.signed.proofs.Bits.{back}
use Rattle.maptext.proofs.write_row.Goals as goal

pub returns : goal.returns
returns g c = search (rules, back)
