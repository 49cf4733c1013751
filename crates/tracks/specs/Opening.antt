-- What the functions promise each other of a table that is opened or laid, and of an offset.
use Rattle.std.specs.Prelude.{Option, Some, None, ℕ, ◌+◌, ◌≤◌, ◌^◌, min, ◌≡◌, List, map, length, ℤ, pos, ◌-ℤ◌, Bool, true, false, if◌then◌else◌, nat_lt}
use Rattle.slices.specs.Slices.{laid}
use Rattle.tracks.specs.declared.entries.EntryTable.{EntryTable}
use Rattle.tracks.specs.Tables.{entries_of, entry_total, durations}

-- a payload of so many entries is opened as a table, or isn't one
abbrev pub Opened : List ℕ → Option ℕ → Option EntryTable → Type 0
Opened payload entries None = entries ≡ None
Opened payload entries (Some table) = (entries ≡ Some table.entries) × (table.payload.now ≡ payload)

-- total is how many frames a table's entries are for, but no more than most + 1; where a slice has room for them, their
-- values are laid over it
pub record Spread (payload : List ℕ) (entries most total : ℕ) (before after : List ℤ) : Type 0 where
  pub frames : total ≡ min (entry_total (entries_of entries payload)) (most + 1)
  pub laid : total ≤ most → total ≤ length before → after ≡ laid (map pos (durations entries payload)) before

-- what is taken off an offset whose top bit is set: nothing where offsets are unsigned, 2^32 where they are signed
abbrev pub offset_wrap : Bool → ℕ
offset_wrap true = 0
offset_wrap false = 2 ^ 32

-- an offset, of its four bytes and of what is taken off
abbrev pub wrapped : ℕ → ℕ → ℤ
wrapped wrap word =
    if nat_lt word (2 ^ 31) then pos word
    else pos word -ℤ pos wrap
