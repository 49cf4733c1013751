-- The timescales and the tables of a track: RULES 8.2 to 8.4, of ISO/IEC 14496-12, 8.2.2, 8.4.2 and 8.6.1.
use Rattle.std.specs.Prelude.{Option, Some, None, ℕ, zero, suc, ◌+◌, ◌*◌, List, [], ◌∷◌, map, length, get_or, replicate, ℤ, pos, Bool, true, false, ◌&&◌, if◌then◌else◌, ◌==◌, nat_lt}
use Rattle.std.specs.List.{sum_by, flat_map}
use Rattle.std.specs.Int.{cast_signed, w32}
use Rattle.boxes.specs.Bytes.{be32_at}
use Rattle.tracks.specs.declared.entries.Run.{Run}

-- the timescale of a mvhd or mdhd: after version and flags, at 16 for version 1, else at 8; none where it isn't whole
abbrev pub timescale : List ℕ → Option ℕ
timescale payload =
    if nat_lt (length payload) 16 then None
    else if get_or payload 0 0 == 1 then
    (if nat_lt (length payload) 24 then None else Some (be32_at payload (4 + 16)))
    else Some (be32_at payload (4 + 8))

-- how many entries a stts or ctts has: after version and flags four bytes say, and so many entries of 8 bytes follow;
-- none where they don't
abbrev pub table_entries : List ℕ → Option ℕ
table_entries payload =
    if nat_lt (length payload) 8 then None
    else if nat_lt (length payload) (be32_at payload 4 * 8 + 8) then None
    else Some (be32_at payload 4)

-- the same of a table that may be absent, as one under 4 bytes is
abbrev pub optional_entries : List ℕ → Option ℕ
optional_entries payload =
    if nat_lt (length payload) 4 then Some 0
    else table_entries payload

-- so many entries from `at` on
unfoldable pub entries_from : ℕ → List ℕ → ℕ → List Run
entries_from zero payload at = []
entries_from (suc n) payload at =
    record { count = be32_at payload at; value = be32_at payload (at + 4) } ∷ entries_from n payload (at + 8)

-- how many frames they are for
abbrev pub entry_total : List Run → ℕ
entry_total runs = sum_by (λ (run : Run). run.count) runs

-- a value for each of these frames
abbrev pub per_frame : List Run → List ℕ
per_frame runs = flat_map (λ (run : Run). replicate run.count run.value) runs

-- so many entries of a table
abbrev pub entries_of : ℕ → List ℕ → List Run
entries_of n payload = entries_from n payload 8

-- the durations of the frames, in decode order
abbrev pub durations : ℕ → List ℕ → List ℕ
durations entries stts = per_frame (entries_of entries stts)

-- whether the offsets of a ctts are unsigned: by the standard in version 0 alone, by the Rust never (RULES 8.4)
abbrev pub is_unsigned : Bool → List ℕ → Bool
is_unsigned standard ctts = standard && get_or ctts 0 0 == 0

-- an offset, of its four bytes, unsigned or signed
abbrev pub offset_of : Bool → ℕ → ℤ
offset_of true word = pos word
offset_of false word = cast_signed w32 word

-- the offsets that a ctts has, by the standard or by the Rust
abbrev pub offsets : Bool → ℕ → List ℕ → List ℤ
offsets standard entries ctts = map (offset_of (is_unsigned standard ctts)) (per_frame (entries_of entries ctts))
