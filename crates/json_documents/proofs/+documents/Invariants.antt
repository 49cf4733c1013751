use Rattle.std.proofs.Common.{◌≡◌, ◌+◌, ◌-◌, ◌≤◌, length, take, drop, map}
use Rattle.json_values.specs.Grammar.{values_at, members_at, rank}
use Rattle.sorted_names.specs.Sorted.{name_at}
use Rattle.json_documents.specs.Seen.{seen_values, seen_members}
use Rattle.json_documents.proofs.Loops.{items_on, members_on, Below}
use Rattle.json_documents.proofs.Members.{also, finish}
use Rattle.json_documents.proofs.+documents.Given as goal

-- each list and object leaves one less; a value comes after what holds it
abbrev pub decreases-value : goal.decreases-value
decreases-value l = l.left + l.left

abbrev pub decreases-list : goal.decreases-list
decreases-list l = l.left + l.left + 1

abbrev pub decreases-object : goal.decreases-object
decreases-object l = l.left + l.left + 1

-- what was read of the list, and then what is left, is the whole
abbrev pub invariant-list-loop-turn : goal.invariant-list-loop-turn
invariant-list-loop-turn l = record {
  below : Below l.top l.turn;
  kept : take l.top l.work ≡ take l.top l.fn.work;
  whole : also l.repeats (items_on l.text l.left l.turn) ≡ seen_values (values_at l.fn.left l.text l.fn.at);
}

abbrev pub decreases-list-loop-turn : goal.decreases-list-loop-turn
decreases-list-loop-turn l = rank (length l.text) l.turn

-- and so of the object, whose names that were read are on the stack
abbrev pub invariant-object-loop-turn : goal.invariant-object-loop-turn
invariant-object-loop-turn l = record {
  ordered : l.bottom ≤ l.top;
  within : l.top ≤ length l.work;
  below : Below l.top l.turn;
  kept : take l.bottom l.work ≡ take l.bottom l.fn.work;
  whole : finish (map (name_at l.text) (take (l.top - l.bottom) (drop l.bottom l.work))) l.repeats (members_on l.text l.left l.turn)
      ≡ seen_members (members_at l.fn.left l.text l.fn.at);
}

abbrev pub decreases-object-loop-turn : goal.decreases-object-loop-turn
decreases-object-loop-turn l = rank (length l.text) l.turn
