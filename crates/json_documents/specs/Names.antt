-- Names that an object repeats. RFC 8259, 4: "The names within an object SHOULD be unique."; 8.3: they are compared
-- by their characters, escapes resolved.
use Rattle.std.specs.Prelude.{ℕ, nat_eq, Bool, false, ◌||◌, List}
use Rattle.std.specs.Cmp.Lexicographic.{pointwise}
use Rattle.json_values.specs.Grammar.{Json, null, bool, number, string, list, object, Values, no_values, value, Members, no_members, member}

-- a member has that name
unfoldable pub has : List ℕ → Members → Bool
has n no_members = false
has n (member m at j l) = pointwise nat_eq n m || has n l

-- some object, at any depth, repeats a name
unfoldable mutual
  pub repeats : Json → Bool
  repeats null = false
  repeats (bool b) = false
  repeats (number f) = false
  repeats (string s) = false
  repeats (list l) = in_values l
  repeats (object l) = in_members l

  pub in_values : Values → Bool
  in_values no_values = false
  in_values (value at j l) = repeats j || in_values l

  pub in_members : Members → Bool
  in_members no_members = false
  in_members (member n at j l) = (has n l || repeats j) || in_members l
