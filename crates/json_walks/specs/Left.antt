-- What a walk over a list or an object has left. No call's promise names these.
use Rattle.std.specs.Prelude.{ℕ, List}
use Rattle.json_walks.specs.declared.Member.{Member}
use Rattle.json_walks.specs.declared.Items.{Items}
use Rattle.json_walks.specs.declared.Members.{Members}
use Rattle.json_walks.specs.Walks.{items_from_turn, members_from_turn}

abbrev pub items_left : Items → List ℕ
items_left walk = items_from_turn walk.left walk.text.now walk.turn

abbrev pub members_left : Members → List Member
members_left walk = members_from_turn walk.left walk.text.now walk.turn
