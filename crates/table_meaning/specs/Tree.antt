-- A value of RFC 8259 as the Rust's parse asks for it. Its `Value::get`, `as_array`, `as_u64`, `as_i64`, `as_str` and
-- `as_object` are here `member_of`, `as_list`, `as_u64`, `as_i64`, `as_text` and `is_object`.
use Rattle.std.specs.Prelude.{ℕ, Bool, true, false, ◌||◌, List, [], ◌∷◌, Option, Some, None, option_and_then, is_some, ℤ, if◌then◌else◌}
use Rattle.json_values.specs.Grammar.{Json, null, number, string, list, object, Values, no_values, value, Members, no_members, member}
use Rattle.json_fields.specs.Whole.{whole_of, u64_of, i64_of}
use Rattle.json_fields.specs.Fields.{same}

-- the member of that name: the first, of which there is only one where no name is repeated
unfoldable pub first_named : List ℕ → Members → Option Json
first_named key no_members = None
first_named key (member name at j rest) = if same name key then Some j else first_named key rest

unfoldable pub member_of : Json → List ℕ → Option Json
member_of (object members) key = first_named key members
member_of j key = None

-- where its value stands in the text
unfoldable pub first_place : List ℕ → Members → Option ℕ
first_place key no_members = None
first_place key (member name at j rest) = if same name key then Some at else first_place key rest

unfoldable pub place_in : Json → List ℕ → Option ℕ
place_in (object members) key = first_place key members
place_in j key = None

-- a list's values
unfoldable pub to_list : Values → List Json
to_list no_values = []
to_list (value at j rest) = j ∷ to_list rest

unfoldable pub as_list : Json → Option (List Json)
as_list (list values) = Some (to_list values)
as_list j = None

-- a whole number: written without fraction and exponent, of 64 bits, and -0 isn't one
unfoldable pub as_u64 : Json → Option ℕ
as_u64 (number figure) = option_and_then u64_of (whole_of figure)
as_u64 j = None

unfoldable pub as_i64 : Json → Option ℤ
as_i64 (number figure) = option_and_then i64_of (whole_of figure)
as_i64 j = None

-- a string's characters
unfoldable pub as_text : Json → Option (List ℕ)
as_text (string characters) = Some characters
as_text j = None

unfoldable pub is_null : Json → Bool
is_null null = true
is_null j = false

unfoldable pub is_object : Json → Bool
is_object (object _) = true
is_object j = false

abbrev pub is_text : Json → Bool
is_text j = is_some (as_text j)

-- two whole numbers, which are all that stands in a list
unfoldable pub two_numbers : List Json → Option (ℕ × ℕ)
two_numbers (a ∷ b ∷ []) = option_and_then (λ x. option_and_then (λ y. Some (x, y)) (as_u64 b)) (as_u64 a)
two_numbers values = None

abbrev pub as_pair : Json → Option (ℕ × ℕ)
as_pair j = option_and_then two_numbers (as_list j)

-- a member that is there passes a test
unfoldable pub passes : (Json → Bool) → Option Json → Bool
passes test None = false
passes test (Some j) = test j

-- members by their names and types
abbrev pub u64_in : Json → List ℕ → Option ℕ
u64_in j key = option_and_then as_u64 (member_of j key)

abbrev pub i64_in : Json → List ℕ → Option ℤ
i64_in j key = option_and_then as_i64 (member_of j key)

abbrev pub characters_in : Json → List ℕ → Option (List ℕ)
characters_in j key = option_and_then as_text (member_of j key)

abbrev pub list_in : Json → List ℕ → Option (List Json)
list_in j key = option_and_then as_list (member_of j key)

abbrev pub pair_in : Json → List ℕ → Option (ℕ × ℕ)
pair_in j key = option_and_then as_pair (member_of j key)

abbrev pub text_in : Json → List ℕ → Bool
text_in j key = passes is_text (member_of j key)

abbrev pub object_or_null_in : Json → List ℕ → Bool
object_or_null_in j key = passes (λ v. is_null v || is_object v) (member_of j key)

abbrev pub text_or_null_in : Json → List ℕ → Bool
text_or_null_in j key = passes (λ v. is_null v || is_text v) (member_of j key)
