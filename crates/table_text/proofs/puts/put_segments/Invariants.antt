use Rattle.std.proofs.Common.{◌≡◌, ◌≤◌, ◌*◌, ◌++◌, length, take, drop, map}
use Rattle.slices.specs.Slices.{laid}
use Rattle.table_text.specs.Lists.{segment_in}
use Rattle.table_text.specs.Tables.{all_words, all_stamps}
use Rattle.table_text.proofs.puts.put_segments.Given as goal

-- with those that are left they are all, and so is what is laid
abbrev pub invariant-loop-at : goal.invariant-loop-at
invariant-loop-at l =
    (l.at-index ≤ length l.places)
    × (l.n ≡ 5 * l.at-index)
    × (take l.n l.words ++ laid (all_words (map (segment_in l.text) (drop l.at-index l.places))) (drop l.n l.words) ≡ laid
    (all_words (map (segment_in l.text) l.places)) l.fn.words)
    × (l.m ≡ 7 * l.at-index)
    × (take l.m l.stamps ++ laid (all_stamps (map (segment_in l.text) (drop l.at-index l.places))) (drop l.m l.stamps) ≡ laid
    (all_stamps (map (segment_in l.text) l.places)) l.fn.stamps)
