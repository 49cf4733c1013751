-- How many bytes of a room are held.
use Rattle.std.specs.Prelude.{◌≡◌, ℕ, ◌≤◌, List, length, take}

-- n bytes are held at the start of the room: no more than it has. The second part follows from the first, and spares a
-- caller's `&room[..n]` a proof file.
abbrev pub IsPrefixLen : ℕ → List ℕ → Type 0
IsPrefixLen n room = (n ≤ length room) × (n ≡ length (take n room))
