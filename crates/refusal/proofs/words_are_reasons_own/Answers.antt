use Rattle.refusal.proofs.Own.{own}
use Rattle.refusal.proofs.words_are_reasons_own.Goals as goal

pub returns-clause-own : goal.returns-clause-own
returns-clause-own c = own
