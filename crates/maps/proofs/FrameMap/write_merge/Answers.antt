use Rattle.std.proofs.Common.{length, refl, sym, arith}
use Rattle.rows.specs.Lent.{row_at}
use Rattle.maps.proofs.Chains.{kept}
use Rattle.maps.proofs.Spans.{row-source}
use Rattle.maps.proofs.Written.{written_none, written_all, rows_all, put-room, put_step, merge-start, merge-glues, merge-parts, merge-end, merging}
use Rattle.maps.proofs.FrameMap.write_merge.Goals as goal

pub row-current-requires : goal.row-current-requires
row-current-requires c = (kept c.args.self).some

pub loop-i-init : goal.loop-i-init
loop-i-init c =
    let m = kept c.args.self in
    record {
      within = omega (arith, m.some);
      fewer = omega arith;
      fits = row-source m 0 c.row-current.result c.row-current.ensures m.some;
      written = written_none _ _ (merge-start c.args.self.words.now c.args.self.shifts.now c.row-current.result c.row-current.ensures m.some);
    }

pub glued-current-requires : goal.glued-current-requires
glued-current-requires c = grind (arith, merging)

pub loop-i-preserved-then-runs_on : goal.loop-i-preserved-then-runs_on
loop-i-preserved-then-runs_on c =
    let l = c.loop-i in
    let r = c.row-row.result in
    let e = c.row-row.ensures in
    let b = sym c.if-runs_on.ensures in
    record {
      within = omega arith;
      fewer = omega arith;
      fits = grind (arith, merging);
      written = rw c.glued-current.ensures (rw (merge-glues _ l.i (length c.args.self.shifts.now) l.current r e (omega arith) b) at l.invariant.written);
    }

pub put_row-requires : goal.put_row-requires
put_row-requires c =
    let l = c.loop-i in
    put-room c.requires l.invariant.written
    (merge-parts _ l.i _ l.current c.row-row.result c.row-row.ensures (omega arith) (sym c.if-runs_on.ensures))

pub loop-i-preserved : goal.loop-i-preserved
loop-i-preserved c =
    let l = c.loop-i in
    let r = c.row-row.result in
    let e = c.row-row.ensures in
    record {
      within = omega arith;
      fewer = omega arith;
      fits = row-source (kept c.args.self) l.i r e (omega arith);
      written =
          put_step c.requires l.invariant.written (merge-parts _ l.i _ l.current r e (omega arith) (sym c.if-runs_on.ensures)) _ _
          c.put_row.ensures.0 c.put_row.ensures.1;
    }

pub returns : goal.returns
returns c =
    let l = c.loop-i in
    let w =
    put_step c.requires l.invariant.written (merge-end (row_at c.args.self.words.now c.args.self.shifts.now) l.i _ l.current (omega arith)) _ _ c.put_row-2.ensures.0
    c.put_row-2.ensures.1 in
    let a = written_all w refl in
    (omega (arith, rows_all c.requires w), a.0, a.1)
