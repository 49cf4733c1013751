-- A character of a string: RFC 8259, 7, over RFC 3629's UTF-8. A character is its code point.
--     char = unescaped / escape ( %x22 / %x5C / %x2F / %x62 / %x66 / %x6E / %x72 / %x74 / %x75 4HEXDIG )
--     unescaped = %x20-21 / %x23-5B / %x5D-10FFFF, escape = %x5C
use Rattle.std.specs.Prelude.{if◌then◌else◌, ℕ, Option, Some, None, ◌+◌, ◌*◌, ◌/◌, ◌%◌, Bool, not, ◌||◌, ◌&&◌, List, eqb, ltb, leb}
use Rattle.json_tokens.specs.Text.{byte_at, is_digit}

-- HEXDIG: what it stands for, in either case; 16 for any other byte
unfoldable pub hex_of : ℕ → ℕ
hex_of b =
    if is_digit b then b % 16
    else if leb 0x41 b && leb b 0x46 then b % 16 + 9
    else if leb 0x61 b && leb b 0x66 then b % 16 + 9
    else 16

-- 4HEXDIG: what they stand for; 10000 hex where one of them isn't any
unfoldable pub unit_of : ℕ → ℕ → ℕ → ℕ → ℕ
unit_of a b c d =
    if (ltb 15 a || ltb 15 b) || (ltb 15 c || ltb 15 d) then 0x10000
    else ((a * 16 + b) * 16 + c) * 16 + d

abbrev pub unit_at : List ℕ → ℕ → ℕ
unit_at text i = unit_of (hex_of (byte_at text i)) (hex_of (byte_at text (i + 1))) (hex_of (byte_at text (i + 2))) (hex_of (byte_at text (i + 3)))

-- what the byte after a \ stands for, u aside: \" \\ \/ \b \f \n \r \t; 0 for none
unfoldable pub escape_of : ℕ → ℕ
escape_of b =
    if ((eqb b 0x22) || (eqb b 0x5c)) || (eqb b 0x2f) then b
    else if eqb b 0x62 then 8
    else if eqb b 0x66 then 12
    else if eqb b 0x6e then 10
    else if eqb b 0x72 then 13
    else if eqb b 0x74 then 9
    else 0

-- a character past FFFF is two of them, \uD83D\uDE00 say, in UTF-16 (RFC 2781, 2.2): u is the first half, and
-- the bytes b and c from i on are to be \u, with the second half after them
unfoldable pub pair_of : ℕ → ℕ → ℕ → ℕ → ℕ → Option (ℕ × ℕ)
pair_of u b c low i =
    if ((not (eqb b 0x5c)) || (not (eqb c 0x75))) || ((ltb low 0xdc00) || (ltb 0xdfff low)) then None
    else Some (u % 0x400 * 0x400 + low % 0x400 + 0x10000, i + 6)

-- %x75 4HEXDIG, which ends at i, by what it stands for; half a pair is no character
unfoldable pub unit_by : List ℕ → ℕ → ℕ → Option (ℕ × ℕ)
unit_by text u i =
    if ltb 0xffff u then None
    else if ltb u 0xd800 then Some (u, i)
    else if ltb u 0xdc00 then pair_of u (byte_at text i) (byte_at text (i + 1)) (unit_at text (i + 2)) i
    else if ltb u 0xe000 then None
    else Some (u, i)

-- what follows an escape, by the byte b at i
unfoldable pub escape_by : List ℕ → ℕ → ℕ → Option (ℕ × ℕ)
escape_by text i b =
    if eqb b 0x75 then unit_by text (unit_at text (i + 1)) (i + 5)
    else if eqb (escape_of b) 0 then None
    else Some (escape_of b, i + 1)

-- RFC 3629, 4: UTF8-tail = %x80-BF
abbrev pub is_tail : ℕ → Bool
is_tail b = eqb (b / 64) 2

-- UTF8-2 = %xC2-DF UTF8-tail
unfoldable pub two_of : ℕ → ℕ → ℕ → Option (ℕ × ℕ)
two_of b c i = if is_tail c then Some (b % 32 * 64 + c % 64, i + 2) else None

-- UTF8-3 = %xE0 %xA0-BF UTF8-tail / %xE1-EC 2( UTF8-tail ) / %xED %x80-9F UTF8-tail / %xEE-EF 2( UTF8-tail ): three
-- bytes whose code point needs them all, and is none of D800 to DFFF, the halves of pairs
unfoldable pub three_by : ℕ → ℕ → Option (ℕ × ℕ)
three_by u i = if ltb u 0x800 || eqb (u / 0x800) 27 then None else Some (u, i + 3)

unfoldable pub three_of : ℕ → ℕ → ℕ → ℕ → Option (ℕ × ℕ)
three_of b c d i = if is_tail c && is_tail d then three_by ((b % 16 * 64 + c % 64) * 64 + d % 64) i else None

-- UTF8-4 = %xF0 %x90-BF 2( UTF8-tail ) / %xF1-F3 3( UTF8-tail ) / %xF4 %x80-8F 2( UTF8-tail ): four bytes whose code
-- point needs them all, and is at most 10FFFF
unfoldable pub four_by : ℕ → ℕ → Option (ℕ × ℕ)
four_by u i = if ltb u 0x10000 || ltb 0x10ffff u then None else Some (u, i + 4)

unfoldable pub four_of : ℕ → ℕ → ℕ → ℕ → ℕ → Option (ℕ × ℕ)
four_of b c d e i = if is_tail c && (is_tail d && is_tail e) then four_by (((b % 8 * 64 + c % 64) * 64 + d % 64) * 64 + e % 64) i else None

-- a character of several bytes, by the first: UTF8-2 / UTF8-3 / UTF8-4
unfoldable pub many_by : List ℕ → ℕ → ℕ → Option (ℕ × ℕ)
many_by text i b =
    if ltb b 0xc2 then None
    else if ltb b 0xe0 then two_of b (byte_at text (i + 1)) i
    else if ltb b 0xf0 then three_of b (byte_at text (i + 1)) (byte_at text (i + 2)) i
    else if ltb b 0xf5 then four_of b (byte_at text (i + 1)) (byte_at text (i + 2)) (byte_at text (i + 3)) i
    else None

-- the character at i, by the byte there, which is no quotation mark, and the offset after it
unfoldable pub char_by : List ℕ → ℕ → ℕ → Option (ℕ × ℕ)
char_by text i b =
    if ltb b 0x20 then None
    else if eqb b 0x5c then escape_by text (i + 1) (byte_at text (i + 1))
    else if ltb b 0x80 then Some (b, i + 1)
    else many_by text i b

-- a byte that is an unescaped character by itself: %x20-21 / %x23-5B / %x5D-7F
abbrev pub is_plain : ℕ → Bool
is_plain b = (leb 0x20 b && ltb b 0x80) && (not (eqb b 0x22) && not (eqb b 0x5c))

abbrev pub char_at : List ℕ → ℕ → Option (ℕ × ℕ)
char_at text i = char_by text i (byte_at text i)
