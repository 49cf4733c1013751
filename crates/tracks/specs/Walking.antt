-- What is left of a walk over a table's entries, or over the frames that they are for. No call's promise names these.
use Rattle.std.specs.Prelude.{ℕ, ◌-◌, ◌/◌, List, ◌++◌, replicate}
use Rattle.tracks.specs.declared.entries.Run.{Run}
use Rattle.tracks.specs.declared.entries.Runs.{Runs}
use Rattle.tracks.specs.declared.entries.Frames.{Frames}
use Rattle.tracks.specs.Tables.{entries_from, per_frame}

-- the entries
abbrev pub runs_left : Runs → List Run
runs_left runs = entries_from ((runs.end - runs.at) / 8) runs.payload.now runs.at

-- the values of the frames
abbrev pub frames_left : Frames → List ℕ
frames_left frames = replicate frames.run.count frames.run.value ++ per_frame (runs_left frames.after)
