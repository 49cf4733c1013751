-- Bytes of a text by offset, and runs of them.
use Rattle.std.specs.Prelude.{option_and_then, if◌then◌else◌, ℕ, Option, Some, None, suc, ◌+◌, Bool, ◌||◌, ◌&&◌, List, [], ◌∷◌, get_or, drop, eqb, leb}

-- the most bytes that a text has: 1 MiB
abbrev pub most_text : ℕ
most_text = 1048576

-- the byte at an offset; 0, which stands nowhere in the grammar, past the end
abbrev pub byte_at : List ℕ → ℕ → ℕ
byte_at text i = get_or text i 0

-- how many bytes at the front pass a test
unfoldable pub lead : (ℕ → Bool) → List ℕ → ℕ
lead p [] = 0
lead p (b ∷ s) = if p b then suc (lead p s) else 0

-- the offset after the bytes from i on that pass a test
unfoldable pub past : (ℕ → Bool) → List ℕ → ℕ → ℕ
past p text i = i + lead p (drop i text)

-- RFC 8259, 2: ws = *( %x20 / %x09 / %x0A / %x0D ), space, tab, line feed or carriage return
abbrev pub is_blank : ℕ → Bool
is_blank b = ((eqb b 0x20) || (eqb b 0x09)) || ((eqb b 0x0a) || (eqb b 0x0d))

abbrev pub blanks : List ℕ → ℕ → ℕ
blanks = past is_blank

-- RFC 5234, B.1: DIGIT = %x30-39
abbrev pub is_digit : ℕ → Bool
is_digit b = leb 0x30 b && leb b 0x39

-- *DIGIT
abbrev pub digits : List ℕ → ℕ → ℕ
digits = past is_digit

-- something read, with the offset after it; None where nothing stands that the grammar takes
abbrev pub Got : Type 0 → Type 0
Got A = Option (A × ℕ)

unfoldable pub end_of : {A : Type 0} → Got A → Option ℕ
end_of None = None
end_of (Some (a, e)) = Some e

-- what follows where something ends
infixl 10 ◌>>=◌
abbrev pub ◌>>=◌ : {A B : Type 0} → Option A → (A → Option B) → Option B
o >>= f = option_and_then f o

-- one thing and then another
unfoldable pub and_then : {A B : Type 0} → Got A → (A → ℕ → Got B) → Got B
and_then None f = None
and_then (Some (a, e)) f = f a e
