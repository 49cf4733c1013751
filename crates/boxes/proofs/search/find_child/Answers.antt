use Rattle.std.proofs.Common.{false}
use Rattle.boxes.proofs.Within.{search-stays}
use Rattle.boxes.proofs.search.find_child.Goals as goal

pub returns-clause-stays : goal.returns-clause-stays
returns-clause-stays c = search-stays _ false _ c.find.ensures
