use Rattle.std.proofs.Common.{ap, ◌∙◌, arith}
use Rattle.conditions.proofs.Tests.{called}
use Rattle.lookup.proofs.Found.{chained}
use Rattle.lookups.specs.declared.Piece.{Piece}
use Rattle.lookups.specs.Pieces.{Covers}
use Rattle.lookups.proofs.Pieces.{covers, index-known, hit}
use Rattle.lookups.proofs.piece_after.Goals as goal

pub returns-then-has : goal.returns-then-has
returns-then-has g c =
    let p : Covers c.args.accepted.now.table.now c.piece_at-next.result = rw c.piece_at-next.ensures (covers _ (chained _ c.args.accepted.now.checked) _ (omega (arith, c.segment_count-count.ensures.is))) in
    (p, hit _ _ _ p (called c.has.ensures c.if-has.true))

pub piece_at-requires : goal.piece_at-requires
piece_at-requires g c = rw c.segment_of_frame.ensures (index-known _ (chained _ c.args.accepted.now.checked) _)

pub returns : goal.returns
returns g c =
    let k = c.segment_of_frame.ensures in
    (rw c.piece_at.ensures (covers _ (chained _ c.args.accepted.now.checked) _ (rw k (index-known _ (chained _ c.args.accepted.now.checked) _))), ap (λ (p : Piece). p.index) c.piece_at.ensures ∙ k)
