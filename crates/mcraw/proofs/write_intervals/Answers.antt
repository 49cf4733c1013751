use Rattle.std.proofs.Common.{◌≡◌, ℕ, ◌+◌, ◌-◌, ◌≤◌, ◌<◌, ◌++◌, List, ℤ, length, get_or, set, take, drop, pos, ◌-ℤ◌, arith, sym, ap, ◌∙◌}
use Rattle.std.specs.List.{AllByRecursion}
use Rattle.std.proofs.Math.Seq.{take_all}
use Rattle.std.proofs.Math.ListN.{drop_of_length-le}
use mathlib.Core.List.{append-nil}
use Rattle.signed.specs.Fits.{I64}
use Rattle.signed.proofs.Bits.{back}
use Rattle.slices.proofs.Every.{all-at}
use Rattle.slices.proofs.Lists.{copy_more}
use Rattle.mcraw.specs.Mcraw.{gaps}
use Rattle.mcraw.proofs.Gaps.{length-gaps, gap_at}
use Rattle.mcraw.proofs.write_intervals.Goals as goal

-- the interval before timestamp i fits, where all do
fits : (timestamps : List ℤ) (i : ℕ) → 0 < i → i < length timestamps → AllByRecursion I64 (gaps timestamps)
    → I64 (get_or timestamps i (pos 0) -ℤ get_or timestamps (i - 1) (pos 0))
fits timestamps i from inside all = rw (gap_at timestamps i from inside) at (all-at I64 (gaps timestamps) (i - 1) (pos 0) all (omega (arith, length-gaps timestamps)))

-- one more is written
next : (timestamps out₀ out : List ℤ) (i : ℕ) → 0 < i → i < length timestamps → length out₀ ≡ length timestamps - 1
    → out ≡ take (i - 1) (gaps timestamps) ++ drop (i - 1) out₀
    → set out (i - 1) (get_or timestamps i (pos 0) -ℤ get_or timestamps (i - 1) (pos 0)) ≡ take (i + 1 - 1) (gaps timestamps) ++ drop (i + 1 - 1) out₀
next timestamps out₀ out i from inside room is =
    let e : i - 1 + 1 ≡ i + 1 - 1 = omega arith in
    ap (set out (i - 1)) (sym (gap_at timestamps i from inside))
    ∙ ap (λ t. set t (i - 1) (get_or (gaps timestamps) (i - 1) (pos 0))) is
    ∙ copy_more (gaps timestamps) out₀ (i - 1) (pos 0) (omega (arith, length-gaps timestamps)) (omega arith)
    ∙ ap (λ n. take n (gaps timestamps) ++ drop n out₀) e

whole : (src dst : List ℤ) (n : ℕ) → length src ≤ n → length dst ≤ n → take n src ++ drop n dst ≡ src
whole src dst n p q = rw (take_all n src p, drop_of_length-le dst {i = n} q, append-nil)

pub overflow_sub-out-in-loop-i : goal.overflow_sub-out-in-loop-i
overflow_sub-out-in-loop-i c =
    let l = c.loop-i in
    let timestamps = c.args.timestamps.now in
    let in-range = fits timestamps l.i (omega arith) c.loop-i-test.true c.requires.1 in
    rw (back (get_or timestamps l.i (pos 0)) (omega arith), back (get_or timestamps (l.i - 1) (pos 0)) (omega arith)) (record { sfits = in-range })

pub loop-i-preserved : goal.loop-i-preserved
loop-i-preserved c =
    let l = c.loop-i in
    let timestamps = c.args.timestamps.now in
    let x = get_or timestamps l.i (pos 0) in
    let y = get_or timestamps (l.i - 1) (pos 0) in
    let in-range = fits timestamps l.i (omega arith) c.loop-i-test.true c.requires.1 in
    rw (back x (omega arith), back y (omega arith), back (x -ℤ y) in-range)
    (next timestamps c.args.out.now l.out l.i (omega arith) c.loop-i-test.true c.requires.0 l.invariant)

pub returns : goal.returns
returns c =
    let l = c.loop-i in
    let timestamps = c.args.timestamps.now in
    l.invariant ∙ whole (gaps timestamps) c.args.out.now (l.i - 1) (omega (arith, length-gaps timestamps)) (omega arith)
