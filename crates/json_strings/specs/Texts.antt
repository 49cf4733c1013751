-- The characters of a string (RFC 8259, 7), escapes resolved, and their bytes in UTF-8.
use Rattle.std.specs.Prelude.{if◌then◌else◌, ℕ, zero, suc, ◌+◌, ◌-◌, List, [], ◌∷◌, ◌++◌, length, eqb, encode_utf8}
use Rattle.json_tokens.specs.Text.{byte_at}
use Rattle.json_tokens.specs.Chars.{char_at}
use Rattle.json_walks.specs.Walks.{listed_then}

-- the characters from an offset on, up to the quotation mark, or to what is no character; so many at most
unfoldable pub lead_from : ℕ → List ℕ → ℕ → List ℕ
lead_from zero text i = []
lead_from (suc n) text i = if eqb (byte_at text i) 0x22 then [] else listed_then (char_at text i) (lead_from n text)

-- the same; there are no more characters than bytes
unfoldable pub lead_chars : List ℕ → ℕ → List ℕ
lead_chars text i = lead_from (length text - i) text i

-- some characters in UTF-8
unfoldable pub utf8_of : List ℕ → List ℕ
utf8_of [] = []
utf8_of (u ∷ rest) = encode_utf8 u ++ utf8_of rest

-- the bytes of the string whose opening quotation mark stands at an offset
abbrev pub string_bytes : List ℕ → ℕ → List ℕ
string_bytes text at = utf8_of (lead_chars text (at + 1))
