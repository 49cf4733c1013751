-- Big-endian numbers in a list of bytes, and the types of boxes that are looked for.
use Rattle.std.specs.Prelude.{ℕ, ◌+◌, ◌*◌, List, get_or}

-- the four bytes at `at`, the first the most significant
abbrev pub be32_at : List ℕ → ℕ → ℕ
be32_at bytes at =
    ((get_or bytes at 0 * 256 + get_or bytes (at + 1) 0) * 256 + get_or bytes (at + 2) 0) * 256
    + get_or bytes (at + 3) 0

-- the eight bytes at `at`
abbrev pub be64_at : List ℕ → ℕ → ℕ
be64_at bytes at = be32_at bytes at * 4294967296 + be32_at bytes (at + 4)

-- `moov`, `udta`, `MTRM`, `trak`, `mdia`, `hdlr` and `vide`, their four letters as a number
abbrev pub moov : ℕ
moov = 0x6d6f6f76

abbrev pub udta : ℕ
udta = 0x75647461

abbrev pub mtrm : ℕ
mtrm = 0x4d54524d

abbrev pub trak : ℕ
trak = 0x7472616b

abbrev pub mdia : ℕ
mdia = 0x6d646961

abbrev pub hdlr : ℕ
hdlr = 0x68646c72

abbrev pub vide : ℕ
vide = 0x76696465
