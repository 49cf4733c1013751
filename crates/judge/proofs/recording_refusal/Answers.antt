use Rattle.std.proofs.Common.{◌≡◌, sym, rules}
use Rattle.std.specs.Prelude.{Ok}
use borrow.Author.Tests.{ne_eqb}
use lib.Seq.{length-take-le}
use Rattle.signed.proofs.Bits.{reads, fits-of}
use Rattle.judge.specs.Judge.{times_refusal, recording_refusal}
use Rattle.judge.proofs.Recordings.{times-are, starts-room, starts-are}
use Rattle.judge.proofs.recording_refusal.Goals as goal

pub slice_bounds-starts-end : goal.slice_bounds-starts-end
slice_bounds-starts-end g c =
    let k : c.mcraw_times-answer.result ≡ Ok c.in_ok-times.times = search rules in
    starts-room c.mcraw_times-answer.ensures k

pub slice_bounds-starts-end-2 : goal.slice_bounds-starts-end-2
slice_bounds-starts-end-2 g c =
    let k : c.mcraw_times-answer.result ≡ Ok c.in_ok-times.times = search rules in
    sym (length-take-le _ _ (starts-room c.mcraw_times-answer.ensures k))

pub returns : goal.returns
unfolding recording_refusal times_refusal
returns g c =
    let k : c.mcraw_times-answer.result ≡ Ok c.in_ok-times.times = search rules in
    let m = c.mcraw_times-answer.ensures in
    let times = c.in_ok-times.times in
    let end = reads (fits-of {z = times.end} (search rules)) in
    let nominal = reads (fits-of {z = times.nominal} (search rules)) in
    rw (c.timed_refusal.ensures, starts-are m k, end, nominal, ne_eqb _ 1 c.if-timestamps-eq1.false, times-are m k)
