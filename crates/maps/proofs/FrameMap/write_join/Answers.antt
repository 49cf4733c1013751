use Rattle.std.proofs.Common.{arith}
use Rattle.maps.proofs.Chains.{kept}
use Rattle.maps.proofs.Joined.{join-words, join-shifts}
use Rattle.maps.proofs.FrameMap.write_join.Goals as goal

pub copy-requires : goal.copy-requires
copy-requires c = omega (arith, (kept c.args.self).sizes, c.requires.1.words)

pub returns : goal.returns
returns c =
    let a = c.args in
    let m = a.self in
    let n = a.second in (
      join-words m.words.now m.shifts.now n.words.now n.shifts.now a.out_words.now a.out_shifts.now
          c.requires.1 (kept m).sizes _ _ c.copy.ensures c.copy-2.ensures m.frames m.counted _ c.write_moved.ensures,
      join-shifts m.words.now m.shifts.now n.words.now n.shifts.now a.out_words.now a.out_shifts.now
          c.requires.1 (kept m).sizes _ _ c.copy.ensures c.copy-2.ensures m.frames m.counted _ c.copy-3.ensures,
    )
