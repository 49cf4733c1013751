use Rattle.std.proofs.Common.{◌≡◌, true, ◌≤◌, ◌<◌, ◌^◌, ◌⊎◌, inl, inr, ⊎_elim, ℤ, pos, ◌+ℤ◌, ◌-ℤ◌, arith}
use Rattle.std.specs.Int.Signed.{le_z, lt_z, shr_z}
use Rattle.signed.specs.Fits.{I64}
use Rattle.signed.proofs.Bits.{back}
use Rattle.signed.proofs.Up.{up, up_top, lt_up, gt-up, ge-up, up_le, up_lt, up-half, in-half, Sum, sum, Difference, difference}
use Rattle.selection.proofs.middle.Goals.{then-low-lt0+else-high-ge0, else-low-lt0}
use Rattle.selection.proofs.middle.Goals as goal

-- the two are on one side of 0: the difference is in range
module _ (lo hi : ℤ) (l : I64 lo) (h : I64 hi) (lt : lt_z lo hi ≡ true) (side : (2 ^ 63 ≤ up lo) ⊎ (up hi < 2 ^ 63)) where
  apart : Difference hi lo (hi -ℤ lo)
  apart =
      let k = lt_up lo hi l lt in
      difference hi lo h l (omega arith) (⊎_elim (λ s. omega (arith, up_top hi h)) (λ s. omega arith) side)

  moved : Sum lo (shr_z (hi -ℤ lo) 2) (lo +ℤ shr_z (hi -ℤ lo) 2)
  moved =
      let d = apart in
      let e = up-half (hi -ℤ lo) d.inside in
      let k = lt_up lo hi l lt in
      sum lo (shr_z (hi -ℤ lo) 2) l (in-half (hi -ℤ lo) d.inside) (omega arith) (omega (arith, up_top hi h))

  between : (le_z lo (lo +ℤ shr_z (hi -ℤ lo) 2) ≡ true) × (lt_z (lo +ℤ shr_z (hi -ℤ lo) 2) hi ≡ true)
  between =
      let d = apart in
      let m = moved in
      let e = up-half (hi -ℤ lo) d.inside in
      let k = lt_up lo hi l lt in
      (up_le lo (lo +ℤ shr_z (hi -ℤ lo) 2) m.inside (omega arith), up_lt (lo +ℤ shr_z (hi -ℤ lo) 2) hi (omega arith))

pub returns : goal.returns
returns c =
    let lo = c.args.low in
    let hi = c.args.high in
    let l = c.ranges.low.sfits in
    let h = c.ranges.high.sfits in
    let side : (2 ^ 63 ≤ up lo) ⊎ (up hi < 2 ^ 63) = elim c.if-low-lt0.branch [
      | then-low-lt0+else-high-ge0 w ↦ inr (gt-up (pos 0) hi h (rw (back hi h) at w.if-high-ge0.false))
      | else-low-lt0 w ↦ inl (ge-up lo (pos 0) (rw (back lo l) at w.if-low-lt0.false))
    ] in
    let d = (apart lo hi l h c.requires side).inside in
    let m = (moved lo hi l h c.requires side).inside in
    let z = hi -ℤ lo in
    rw (back lo l, back hi h, back z d, back (shr_z z 2) (in-half z d), back (lo +ℤ shr_z z 2) m)
    (between lo hi l h c.requires side)
