use Rattle.std.proofs.Common.{◌≡◌, ◌+◌, ◌/◌, ◌++◌, map, length, get_or, set, sym, ◌∙◌, ap, arith}
use Rattle.std.proofs.lemmas.List.{length-map}
use Rattle.slices.proofs.Lists.{copy_more, copy-all}
use Rattle.rows.specs.Rows.{cut}
use Rattle.rows.specs.Lent.{rows}
use Rattle.maps.proofs.Spans.{span-length}
use Rattle.maps.proofs.Written.{written_all, rows_all}
use Rattle.maps.specs.declared.Range.{Range}
use Rattle.cuts.specs.Answers.{range_at, ranges_of, cuts_of}
use Rattle.cuts.proofs.Refused.{length-cuts}
use Rattle.cuts.proofs.Rows.{rest, rest-next, rest-none, part_room, part-written, count_at}
use Rattle.cuts.proofs.Ranges.write.Goals as goal

pub write_cut-requires : goal.write_cut-requires
write_cut-requires c =
    let m = rows c.args.self.map.words.now c.args.self.map.shifts.now in
    let r = c.range_at-range.result in
    let later = rest m (range_at c.args.self.ranges.now) (c.loop-k.k + 1) (length c.args.self.ranges.now / 2) in
    let next =
    rest-next m (range_at c.args.self.ranges.now) c.loop-k.k (length c.args.self.ranges.now / 2) (omega arith)
    ∙ ap (λ (x : Range). cut x.from x.to m ++ later) (sym c.range_at-range.ensures) in (
      c.part-part.ensures,
      part_room (cut r.from r.to m) later c.requires.0 c.loop-k.invariant.written next (span-length c.part-part.ensures),
    )

pub loop-k-preserved : goal.loop-k-preserved
loop-k-preserved c =
    let m = rows c.args.self.map.words.now c.args.self.map.shifts.now in
    let r = c.range_at-range.result in
    let n = length c.args.self.ranges.now / 2 in
    let later = rest m (range_at c.args.self.ranges.now) (c.loop-k.k + 1) n in
    let next =
    rest-next m (range_at c.args.self.ranges.now) c.loop-k.k n (omega arith) ∙ ap (λ (x : Range). cut x.from x.to m ++ later) (sym c.range_at-range.ensures) in
    let long = span-length c.part-part.ensures in
    let lengths = map length (cuts_of m (ranges_of c.args.self.ranges.now)) in
    let many = length-map (cuts_of m (ranges_of c.args.self.ranges.now)) length ∙ length-cuts m c.args.self.ranges.now in
    let is : c.part-part.result.count ≡ get_or lengths c.loop-k.k 0 =
    sym long ∙ ap (λ (x : Range). length (cut x.from x.to m)) c.range_at-range.ensures
    ∙ sym (count_at m (range_at c.args.self.ranges.now) n c.loop-k.k (omega arith)) in
    record {
      within = omega arith;
      written = part-written (cut r.from r.to m) later c.requires.0 c.loop-k.invariant.written next _ _ long c.write_cut.ensures.0 c.write_cut.ensures.1;
      counted =
          (λ i. set (c.loop-k.invariant.counted i) c.loop-k.k (is i))
          ∙ copy_more lengths c.args.counts.now c.loop-k.k 0 (omega (arith, many)) (omega (arith, c.requires.1));
    }

pub returns : goal.returns
returns c =
    let m = rows c.args.self.map.words.now c.args.self.map.shifts.now in
    let l = c.loop-k in
    let none = rest-none m (range_at c.args.self.ranges.now) l.k (length c.args.self.ranges.now / 2) (omega arith) in
    let all = written_all l.invariant.written none in
    record {
      many = omega (arith, rows_all c.requires.0 l.invariant.written, ap length none);
      words = all.0;
      shifts = all.1;
      counted =
          l.invariant.counted
          ∙ copy-all (map length (cuts_of m (ranges_of c.args.self.ranges.now))) c.args.counts.now l.k
          (omega (arith, length-map (cuts_of m (ranges_of c.args.self.ranges.now)) length, length-cuts m c.args.self.ranges.now));
    }
