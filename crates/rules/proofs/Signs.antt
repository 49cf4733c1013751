-- Where no time of a segment is negative, none of the six is. Assumes nothing.
use mathlib.Core.Path.{◌≡◌}
use Rattle.std.proofs.lemmas.Bool.{or_parts}
use mathlib.Core.Bool.{false}
use Rattle.rules.specs.declared.Stamps.{Stamps}
use Rattle.rules.specs.Rules.{negative, stamp_times}

pub record Plain (e : Stamps) : Type 0 where
  pub source_start : negative e.source_start ≡ false
  pub out_start : negative e.out_start ≡ false
  pub duration : negative e.duration ≡ false
  pub source_capture_start : negative e.source_capture_start ≡ false
  pub out_capture_start : negative e.out_capture_start ≡ false
  pub capture_duration : negative e.capture_duration ≡ false

pub plain : (e : Stamps) → (stamp_times e).negative ≡ false → Plain e
unfolding stamp_times
plain e h =
    let x = or_parts _ _ h in
    let y = or_parts _ _ x.0 in
    let a = or_parts _ _ y.0 in
    let b = or_parts _ _ y.1 in
    let c = or_parts _ _ x.1 in
    record { source_start = a.0; out_start = a.1; duration = b.0; source_capture_start = b.1; out_capture_start = c.0; capture_duration = c.1 }
