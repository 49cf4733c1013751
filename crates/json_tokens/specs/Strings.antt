-- A string: RFC 8259, 7, as the code points of its characters.
use Rattle.std.specs.Prelude.{if◌then◌else◌, ℕ, Option, Some, None, zero, suc, ◌+◌, ◌-◌, List, [], ◌∷◌, length, eqb}
use Rattle.json_tokens.specs.Text.{byte_at, Got}
use Rattle.json_tokens.specs.Chars.{char_at}

-- a character and those after it
unfoldable pub cons : {A : Type 0} → A → Got (List A) → Got (List A)
cons a None = None
cons a (Some (l, e)) = Some (a ∷ l, e)

unfoldable pub char_then : Option (ℕ × ℕ) → (ℕ → Got (List ℕ)) → Got (List ℕ)
char_then None f = None
char_then (Some (u, e)) f = cons u (f e)

-- *char quotation-mark, so many characters at most; quotation-mark = %x22
unfoldable pub chars_from : ℕ → List ℕ → ℕ → Got (List ℕ)
chars_from zero text i = None
chars_from (suc n) text i = if eqb (byte_at text i) 0x22 then Some ([], i + 1) else char_then (char_at text i) (chars_from n text)

-- the same; from i on there are no more characters than bytes
unfoldable pub chars_at : List ℕ → ℕ → Got (List ℕ)
chars_at text i = chars_from (length text - i) text i

-- string = quotation-mark *char quotation-mark
unfoldable pub string_at : List ℕ → ℕ → Got (List ℕ)
string_at text i = if eqb (byte_at text i) 0x22 then chars_at text (i + 1) else None
