-- Where the items of a list and the members of an object stand: those before the closing bracket, or before the first
-- that can't be read. In a text that is JSON they are all there.
use Rattle.std.specs.Prelude.{ℕ, zero, suc, List, [], ◌∷◌, length, Some, None, option_map, option_and_then}
use Rattle.json_tokens.specs.Text.{Got, end_of}
use Rattle.json_values.specs.declared.Turn.{Turn}
use Rattle.json_values.specs.declared.Turn.TheVariants.{Done, Next, Bad}
use Rattle.json_values.specs.Grammar.{value_at, named_at, opened_at, after_at, rank}
use Rattle.json_walks.specs.declared.Member.{Member}

-- what was read, and then what follows it
unfoldable pub listed_then : {A : Type 0} → Got A → (ℕ → List A) → List A
listed_then None f = []
listed_then (Some (a, e)) f = a ∷ f e

-- what is read from a turn on, so many at most
unfoldable pub listed_from : {A : Type 0} → ℕ → (ℕ → Got A) → (ℕ → Turn) → Turn → List A
listed_from zero v next turn = []
listed_from (suc n) v next Bad = []
listed_from (suc n) v next (Done k) = []
listed_from (suc n) v next (Next i) = listed_then (v i) (λ e. listed_from n v next (next e))

unfoldable pub listed : {A : Type 0} → (ℕ → Got A) → ℕ → List ℕ → Turn → List A
listed v c text turn = listed_from (rank (length text) turn) v (after_at c text) turn

-- an item's place; a member's name's and its value's
unfoldable pub item_place : ℕ → List ℕ → ℕ → Got ℕ
item_place left text i = option_map (λ e. (i, e)) (end_of (value_at left text i))

unfoldable pub member_place : ℕ → List ℕ → ℕ → Got Member
member_place left text i =
    option_and_then
    (λ p. option_map (λ e. (record { name = i; value = p }, e)) (end_of (value_at left text p)))
    (end_of (named_at text i))

abbrev pub items_from_turn : ℕ → List ℕ → Turn → List ℕ
items_from_turn left text turn = listed (item_place left text) 0x5d text turn

abbrev pub members_from_turn : ℕ → List ℕ → Turn → List Member
members_from_turn left text turn = listed (member_place left text) 0x7d text turn

-- those of the list whose [, and of the object whose {, ends at an offset
abbrev pub items_in : ℕ → List ℕ → ℕ → List ℕ
items_in left text at = items_from_turn left text (opened_at 0x5d text at)

abbrev pub members_in : ℕ → List ℕ → ℕ → List Member
members_in left text at = members_from_turn left text (opened_at 0x7d text at)
