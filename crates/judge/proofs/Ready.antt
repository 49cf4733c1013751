-- What an accepted table gives to its judge. Assumes nothing.
use mathlib.Core.Path.{◌≡◌, sym, subst}
use Prim.Native.Nat.{ℕ, ◌-◌, ◌<◌}
use native.Mathlib.Omega.{arith}
use lib.ListN.{length}
use Rattle.std.specs.Prelude.{Ok}
use Rattle.signed.specs.Fits.{I64}
use Rattle.rules.specs.Records.{Table, segment, out_end, out_end_us}
use Rattle.rules.specs.Rules.{check_of}
use Rattle.rules.proofs.Accepted.{Accepted, accepted}
use Rattle.judge.specs.Judge.{last_segment}

-- some segments, of which the first one's source is there; the last one ends at the frame total, and at a time that an i64 holds
pub record Ready (table : Table) (total : ℕ) : Type 0 where
  pub some : 0 < length table.segments
  pub named : (segment table 0).words.source < length table.sources
  pub frames : out_end (last_segment table.segments) ≡ total
  pub end : I64 (out_end_us (last_segment table.segments))

-- the end time of the last segment of an accepted table
end-fits : (t : Table) (N : ℕ) → Accepted t N → I64 (out_end_us (last_segment t.segments))
end-fits t N g =
    let e = (g.segments (length t.segments - 1) (omega (arith, g.some-segments))).out-time in
    subst I64 (sym e.sum) (omega (arith, e.fits))

pub ready : (t : Table) {N : ℕ} → check_of t ≡ Ok N → Ready t N
ready t {N} e =
    let g = accepted t N e in
    record { some = g.some-segments; named = (g.segments 0 g.some-segments).named; frames = g.last; end = end-fits t N g }
