use Rattle.std.proofs.Common.{arith, ◌+◌, ◌∙◌, ap, map, get_or, drop, length}
use Rattle.std.proofs.lemmas.List.{drop_more, drop_all}
use Rattle.table_text.specs.Lists.{segment_in}
use Rattle.table_text.specs.Tables.{words_list, stamps_list, all_words, all_stamps}
use Rattle.table_text.proofs.Records.{lay-on, lay-last, words-more, words-none, stamps-more, stamps-none}
use Rattle.table_text.proofs.puts.put_segments.Goals as goal

pub loop-at-preserved : goal.loop-at-preserved
loop-at-preserved c =
    let text = c.args.text.now in
    let places = c.args.places.now in
    let k = c.loop-at.at-index in
    let s = drop_more places k 0 (omega arith) in
    let at = get_or places k 0 in
    let words = c.words_list.ensures ∙ ap (λ x. words_list x.words) c.segment_in-segment.ensures in
    let stamps = c.stamps_list.ensures ∙ ap (λ x. stamps_list x.stamps) c.segment_in-segment.ensures in (
      omega arith,
      omega (arith, c.loop-at.invariant.1, ap length words, c.write_at-n.ensures.end),
      rw c.write_at-n.ensures.end
          (lay-on c.loop-at.words _ (words_list (segment_in text at).words) (all_words (map (segment_in text) (drop (k + 1) places)))
          (all_words (map (segment_in text) (drop k places))) c.loop-at.n (words-more s (segment_in text)) words
          (omega (arith, c.loop-at.invariant.1, ap length words, c.requires.room)) c.write_at-n.ensures.written c.loop-at.invariant.2),
      omega (arith, c.loop-at.invariant.3, ap length stamps, c.write_at-m.ensures.end),
      rw c.write_at-m.ensures.end
          (lay-on c.loop-at.stamps _ (stamps_list (segment_in text at).stamps) (all_stamps (map (segment_in text) (drop (k + 1) places)))
          (all_stamps (map (segment_in text) (drop k places))) c.loop-at.m (stamps-more s (segment_in text)) stamps
          (omega (arith, c.loop-at.invariant.3, ap length stamps, c.requires.stamps_room)) c.write_at-m.ensures.written c.loop-at.invariant.4),
    )

pub returns-clause-words : goal.returns-clause-words
returns-clause-words c =
    let text = c.args.text.now in
    let none = drop_all c.loop-at.at-index c.args.places.now (omega arith) in
    lay-last c.loop-at.words _ c.loop-at.n (words-none none (segment_in text)) (omega (arith, c.loop-at.invariant.1, c.requires.room)) c.loop-at.invariant.2

pub returns-clause-stamps : goal.returns-clause-stamps
returns-clause-stamps c =
    let text = c.args.text.now in
    let none = drop_all c.loop-at.at-index c.args.places.now (omega arith) in
    lay-last c.loop-at.stamps _ c.loop-at.m (stamps-none none (segment_in text))
    (omega (arith, c.loop-at.invariant.3, c.requires.stamps_room)) c.loop-at.invariant.4
