-- The edit list: none, one edit of the media, or an empty edit and then one. RULES 8.5, of ISO/IEC 14496-12, 8.6.6.
use Rattle.std.specs.Prelude.{Option, Some, None, ℕ, ◌+◌, ◌*◌, ◌^◌, Bool, true, false, List, length, get_or, ℤ, pos, negsuc, if◌then◌else◌, ◌==◌, nat_lt}
use Rattle.std.specs.Ordering.{int_eq}
use Rattle.std.specs.Int.{cast_signed, w32, w64}
use Rattle.ticks.specs.Ticks.{media_ticks}
use Rattle.boxes.specs.Bytes.{be32_at, be64_at}
use Rattle.boxes.specs.Places.{bytes_at, child_in}
use Rattle.boxes.specs.declared.Place.{Place}
use Rattle.tracks.specs.declared.EditEntry.{EditEntry}
use Rattle.tracks.specs.declared.Edit.{Edit}

-- `elst`, its four letters as a number
abbrev pub elst : ℕ
elst = 0x656c7374

-- the rate of an edit that is played as it is
abbrev pub rate_one : ℕ
rate_one = 0x10000

-- the entry at `at`, in version 1 (`true`) or another
abbrev pub entry_at : Bool → List ℕ → ℕ → EditEntry
entry_at true payload at = record {
  duration = be64_at payload at;
  time = cast_signed w64 (be64_at payload (at + 8));
  rate = be32_at payload (at + 16);
}
entry_at false payload at = record {
  duration = be32_at payload at;
  time = cast_signed w32 (be32_at payload (at + 4));
  rate = be32_at payload (at + 8);
}

-- 20-byte entries for version 1, else 12
abbrev pub entry_bytes : Bool → ℕ
entry_bytes true = 20
entry_bytes false = 12

-- no edit: time 0, open end
abbrev pub no_edit : Edit
no_edit = record { edited = false; time = pos 0; end = None; empty = pos 0 }

-- an edit from `time` on that ends so many ticks later, where an i64 holds that
abbrev pub ending_after : Option ℕ → ℕ → ℤ → Option Edit
ending_after None time empty = None
ending_after (Some span) time empty =
    if nat_lt (time + span) (2 ^ 63) then
    Some (record { edited = true; time = pos time; end = Some (pos (time + span)); empty = empty })
    else None

-- an edit from a time on, which isn't below 0; duration 0 is open, and any other is converted to the media's ticks
abbrev pub from_time : ℤ → ℕ → ℕ → ℕ → ℤ → Option Edit
from_time (negsuc below) duration scale movie empty = None
from_time (pos time) duration scale movie empty =
    if duration == 0 then Some (record { edited = true; time = pos time; end = None; empty = empty })
    else ending_after (media_ticks duration scale movie) time empty

-- the entry that is kept, after so many empty ticks: its rate is 1
abbrev pub kept_entry : EditEntry → ℕ → ℕ → ℤ → Option Edit
kept_entry entry scale movie empty =
    if entry.rate == rate_one then from_time entry.time entry.duration scale movie empty
    else None

-- the same after an empty edit, whose ticks an i64 holds
abbrev pub after_empty : Option ℕ → EditEntry → ℕ → ℕ → Option Edit
after_empty None entry scale movie = None
after_empty (Some empty) entry scale movie = kept_entry entry scale movie (pos empty)

-- two entries: the first has the time -1 and a duration that an i64 holds, and its rate isn't looked at
abbrev pub two_entries : EditEntry → EditEntry → ℕ → ℕ → Option Edit
two_entries first second scale movie =
    if int_eq first.time (negsuc 0) then
    (if nat_lt first.duration (2 ^ 63) then after_empty (media_ticks first.duration scale movie) second scale movie
    else None)
    else None

-- so many entries; more than two are refused, and so is one that isn't whole
abbrev pub edit_of_entries : ℕ → Bool → List ℕ → ℕ → ℕ → Option Edit
edit_of_entries entries long payload scale movie =
    if entries == 0 then Some no_edit
    else if nat_lt 2 entries then None
    else if nat_lt (length payload) (8 + entries * entry_bytes long) then None
    else if entries == 1 then kept_entry (entry_at long payload 8) scale movie (pos 0)
    else two_entries (entry_at long payload 8) (entry_at long payload (8 + entry_bytes long)) scale movie

-- an elst's payload: version and flags, then how many entries there are
abbrev pub elst_of : List ℕ → ℕ → ℕ → Option Edit
elst_of payload scale movie =
    if nat_lt (length payload) 8 then None
    else edit_of_entries (be32_at payload 4) (get_or payload 0 0 == 1) payload scale movie

-- the edit of an elst at a place; no edit where there is none
abbrev pub found_edit : Option Place → List ℕ → ℕ → ℕ → Option Edit
found_edit (Some place) edts scale movie = elst_of (bytes_at edts place) scale movie
found_edit None edts scale movie = Some no_edit

-- the edit of an edts' payload, with the media's timescale and the movie's
abbrev pub edit_of : List ℕ → ℕ → ℕ → Option Edit
edit_of edts scale movie = found_edit (child_in elst edts) edts scale movie
