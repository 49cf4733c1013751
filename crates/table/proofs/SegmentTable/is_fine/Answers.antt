use Rattle.std.proofs.Common.{sym, ap, ◌∙◌}
use Rattle.rules.specs.Records.{Table}
use Rattle.rules.proofs.Fine.{plain-source}
use Rattle.table.proofs.SegmentTable.is_fine.Goals as goal

pub returns : goal.returns
returns g c = λ e.
    let log = sym (ap (λ (t : Table). t.log) c.self.view_is) ∙ c.if-self.false in
    rw (← c.source-source.ensures) (plain-source _ _ _ c.if-source.false log c.if-source-eq0.false c.if-source-eq0-2.false e)
