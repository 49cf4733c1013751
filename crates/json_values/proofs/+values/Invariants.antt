use Rattle.std.proofs.Common.{◌≡◌, ◌+◌, length}
use Rattle.json_tokens.specs.Text.{end_of}
use Rattle.json_values.specs.Grammar.{items, item_at, member_at, value_at, values_at, members_at, rank}
use Rattle.json_values.proofs.+values.Given as goal

-- each list and object leaves one less; a value comes after what holds it
abbrev pub decreases-value : goal.decreases-value
decreases-value l = l.left + l.left

abbrev pub decreases-list : goal.decreases-list
decreases-list l = l.left + l.left + 1

abbrev pub decreases-object : goal.decreases-object
decreases-object l = l.left + l.left + 1

-- from turn to turn the rest ends where the whole does
abbrev pub invariant-list-loop-turn : goal.invariant-list-loop-turn
invariant-list-loop-turn l = end_of (items (item_at (value_at l.left l.text)) 0x5d l.text l.turn) ≡ end_of (values_at l.fn.left l.text l.fn.at)

abbrev pub decreases-list-loop-turn : goal.decreases-list-loop-turn
decreases-list-loop-turn l = rank (length l.text) l.turn

abbrev pub invariant-object-loop-turn : goal.invariant-object-loop-turn
invariant-object-loop-turn l = end_of (items (member_at (value_at l.left l.text) l.text) 0x7d l.text l.turn) ≡ end_of (members_at l.fn.left l.text l.fn.at)

abbrev pub decreases-object-loop-turn : goal.decreases-object-loop-turn
decreases-object-loop-turn l = rank (length l.text) l.turn
