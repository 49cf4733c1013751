-- What the steps of a call know of the maps that they plan for. Assumes nothing.
use Rattle.conditions.proofs.Tests.{tests}
use Rattle.refusal.proofs.Chains.{ok-of, err-of}
use Rattle.maps.proofs.Chains.{sound, cut-unrefused, merge-unrefused, merge-roomy, origin-accepted}
use Rattle.maps.proofs.Spans.{span-length, taken-room, held_fits, held-found}
use Rattle.maps.proofs.Joined.{length-join, joins}

pub ruleset opening = (ok-of, err-of, tests)

pub ruleset planned = (sound, span-length, length-join, joins, cut-unrefused, merge-unrefused, merge-roomy, taken-room, origin-accepted, held_fits, held-found, tests)
