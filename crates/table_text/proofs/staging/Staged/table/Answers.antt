use Rattle.std.proofs.Common.{◌∙◌}
use Rattle.table_text.proofs.Judged.{staged_is}
use Rattle.table_text.proofs.staging.Staged.table.Goals as goal

pub returns : goal.returns
returns c = staged_is c.args.text.now c.args.self.lists _ _ c.requires.words (c.places.ensures ∙ c.requires.at)
