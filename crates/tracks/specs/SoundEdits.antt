-- How large an edit's numbers are.
use Rattle.std.specs.Prelude.{IfSome, ℤ, pos, ◌^◌, ◌≤ℤ◌, ◌<ℤ◌}
use Rattle.tracks.specs.declared.Edit.{Edit}

-- ticks that aren't below 0, and that an i64 holds
abbrev pub EditTicks : ℤ → Type 0
EditTicks ticks = (pos 0 ≤ℤ ticks) × (ticks <ℤ pos (2 ^ 63))

-- an edit as an edit list gives it: of its end, where it has one, and of its empty ticks the same holds
pub record Sound (edit : Edit) : Type 0 where
  pub end : IfSome edit.end EditTicks
  pub empty : EditTicks edit.empty
