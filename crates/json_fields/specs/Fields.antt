-- A member of an object by its name, by where it stands.
use Rattle.std.specs.Cmp.Lexicographic.{pointwise}
use Rattle.std.specs.Prelude.{nat_eq, if◌then◌else◌, Option, Some, None, option_and_then, ℕ, ◌+◌, ◌==◌, Bool, false, List, [], ◌∷◌}
use Rattle.json_tokens.specs.Text.{Got, byte_at}
use Rattle.json_tokens.specs.Strings.{string_at}
use Rattle.json_walks.specs.declared.Member.{Member}
use Rattle.json_walks.specs.Walks.{items_in, members_in}
use Rattle.json_fields.specs.Whole.{u64_at}

-- two names are the same
abbrev pub same : List ℕ → List ℕ → Bool
same = pointwise nat_eq

-- a name that was read is a key
unfoldable pub is_key : List ℕ → Got (List ℕ) → Bool
is_key key None = false
is_key key (Some (n, e)) = same n key

-- where the value of the first member of that name stands
unfoldable pub place_of : List ℕ → List ℕ → List Member → Option ℕ
place_of text key [] = None
place_of text key (m ∷ rest) = if is_key key (string_at text m.name) then Some m.value else place_of text key rest

-- the same of the object at an offset, in whose members so many lists and objects may stand one in the other
unfoldable pub member_at : ℕ → List ℕ → ℕ → List ℕ → Option ℕ
member_at left text at key = if byte_at text at == 0x7b then place_of text key (members_in left text (at + 1)) else None

-- two whole numbers, which are all that stands in a list
unfoldable pub pair_of : List ℕ → List ℕ → Option (ℕ × ℕ)
pair_of text [] = None
pair_of text (a ∷ []) = None
pair_of text (a ∷ b ∷ []) = option_and_then (λ x. option_and_then (λ y. Some (x, y)) (u64_at text b)) (u64_at text a)
pair_of text (a ∷ b ∷ c ∷ rest) = None

unfoldable pub pair_at : ℕ → List ℕ → ℕ → Option (ℕ × ℕ)
pair_at left text at = if byte_at text at == 0x5b then pair_of text (items_in left text (at + 1)) else None
