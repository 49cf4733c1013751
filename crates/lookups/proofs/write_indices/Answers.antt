use Rattle.std.proofs.Common.{◌≡◌, map, set, get_or, sym, ◌∙◌, arith}
use Rattle.std.proofs.lemmas.List.{length-map, get_or-map}
use Prim.Native.Nat.{zero-le}
use mathlib.Core.Path.{refl}
use Rattle.slices.proofs.Lists.{copy_more}
use Rattle.lookup.proofs.Found.{chained}
use Rattle.lookups.specs.Pieces.{index_in}
use Rattle.lookups.proofs.Pieces.{covers}
use Rattle.lookups.proofs.write_indices.Goals as goal

pub loop-k-init : goal.loop-k-init
loop-k-init g c = (zero-le, refl, rw c.piece_at-piece.ensures (covers _ (chained _ c.args.accepted.now.checked) 0 (chained _ c.args.accepted.now.checked).some))

pub loop-k-preserved : goal.loop-k-preserved
loop-k-preserved g c =
    let l = c.loop-k in
    let v = c.args in
    let index = index_in v.accepted.now.table.now in
    let n = length-map v.frames.now index in
    let r = c.piece_of-piece in
    let is : r.result.index ≡ get_or (map index v.frames.now) l.k 0 = r.ensures.1 ∙ sym (get_or-map index v.frames.now l.k 0 0 c.loop-k-test.true) in (
      omega arith,
      (λ i. set (l.invariant.1 i) l.k (is i)) ∙ copy_more (map index v.frames.now) v.out.now l.k 0 (omega (arith, n)) (omega (arith, c.requires)),
      r.ensures.0,
    )
