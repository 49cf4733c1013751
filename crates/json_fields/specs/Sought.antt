-- Keys that are looked for together.
use Rattle.std.specs.Prelude.{ℕ, ◌+◌, ◌<◌, ◌≡◌, Bool, true, not, ◌&&◌, List, [], ◌∷◌, length, map, get_or, eqb, nat_lt, ◌==◌}
use Rattle.std.specs.Borrow.{Bor}
use Rattle.std.specs.List.{list_all}
use Rattle.json_tokens.specs.Text.{byte_at, Got}
use Rattle.json_tokens.specs.Chars.{is_plain}
use Rattle.json_fields.specs.Whole.{span}
use Rattle.json_fields.specs.Fields.{same, is_key}

-- no two are the same
abbrev pub differ : List (List ℕ) → Bool
differ [] = true
differ (key ∷ rest) = list_all (λ other. not (same key other)) rest && differ rest

-- keys that stand in a text as they are, each another
abbrev pub are_keys : List (List ℕ) → Bool
are_keys keys = list_all (list_all is_plain) keys && differ keys

-- a key stands at an offset byte by byte, and then a quotation mark
unfoldable pub stands_at : List ℕ → List ℕ → ℕ → Bool
stands_at key text at =
    nat_lt (at + length key) (length text)
    && (byte_at text (at + length key) == 0x22 && same (span text at (at + length key)) key)

-- a name that was read is the key of that number and no other; past the last number it is none
abbrev pub OnlyAt : List (List ℕ) → Got (List ℕ) → ℕ → Type 0
OnlyAt keys name r = (k : ℕ) → k < length keys → is_key (get_or keys k []) name ≡ eqb k r

-- keys that are lent
abbrev pub told : List (Bor (List ℕ)) → List (List ℕ)
told keys = map (λ key. key.now) keys
