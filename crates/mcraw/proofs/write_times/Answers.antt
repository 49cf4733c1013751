use Rattle.std.proofs.Common.{length, sym}
use Rattle.mcraw.specs.Mcraw.{fall_of}
use Rattle.mcraw.proofs.Gaps.{no-fall}
use Rattle.mcraw.proofs.Spans.{starts_fit}
use Rattle.mcraw.proofs.Answers.{accepted}
use Rattle.mcraw.proofs.write_times.Goals as goal

pub write_starts-requires : goal.write_starts-requires
unfolding fall_of
write_starts-requires c =
    let timestamps = c.args.timestamps.now in
    let a = accepted timestamps (length c.args.starts.now) (length c.args.work.now) c.in_ok-times.times (sym c.in_ok-times.ensures) in
    (a.room, starts_fit timestamps (no-fall timestamps 1 a.rise) a.near)
