-- The segment that is looked up for a frame of an accepted table is the one that has it. Assumes nothing.
use Prim.Native.Nat.{ℕ, zero, suc, ◌-◌, ◌≤◌, ◌<◌, min}
use Rattle.std.specs.List.{count_by}
use native.Mathlib.Omega.{arith}
use mathlib.Core.Path.{◌≡◌, refl, sym, ap, ◌∙◌, subst}
use lib.ListN.{length}
use lib.Dec.{leb}
use borrow.Author.Tests.{leb-true, leb-false}
use Rattle.conditions.specs.Conditions.{max_u64}
use Rattle.conditions.proofs.Tests.{decide}
use Rattle.rules.specs.Records.{Table, no_segment, segment, out_end}
use Rattle.rules.specs.Lookups.{ended, over_by}
use Rattle.rules.specs.Walks.{Ordered}
use Rattle.rules.proofs.Accepted.{Accepted}
use Rattle.rules.proofs.Exact.{as-run}
use Rattle.rules.proofs.Search.{Bracket, bracket-end, count-ended, frames-ordered}

-- ordered ends are split by a number
split : (e : ℕ → ℕ) (n top v : ℕ) → Ordered e n top → (j : ℕ) → j ≤ n → ((k : ℕ) → j ≤ k → k < n → v < e k)
    → (c : ℕ) × Bracket e n v c c
split e n top v o zero h f = (0, record { lo-le = omega arith; hi-le = h; below = λ k l. absurd (omega arith); above = f })
split e n top v o (suc j) h f =
    decide (leb (e j) v)
    (λ q. (suc j, record { lo-le = omega arith; hi-le = h; below = λ k l. omega (arith, o.rising k j (omega arith) h, leb-true (e j) v q); above = f }))
    (λ q. split e n top v o j (omega arith) (λ k l b. omega (arith, o.rising j k l b, leb-false (e j) v q)))

-- segment k has the frame
pub record Holds (t : Table) (frame k : ℕ) : Type 0 where
  pub exists : k < length t.segments
  pub from : (segment t k).words.out ≤ frame
  pub to : frame < out_end (segment t k)

-- a number that splits the ends is that of the holder
holds : {t : Table} {N : ℕ} → Accepted t N → (frame c : ℕ) → c < length t.segments
    → Bracket (λ k. out_end (segment t k)) (length t.segments) frame c c → Holds t frame c
holds a frame zero h b = record { exists = h; from = omega (arith, a.first); to = b.above 0 (omega arith) h }
holds a frame (suc c) h b = record {
  exists = h;
  from = omega (arith, (a.follows c h).frame, b.below c (omega arith));
  to = b.above (suc c) (omega arith) h;
}

pub holder : {t : Table} {N : ℕ} → Accepted t N → (frame : ℕ) → frame < N
    → Holds t frame (ended (over_by frame) t.segments)
unfolding ended
holder {t} {N} a frame inside =
    let n = length t.segments in
    let s = split (λ k. out_end (segment t k)) n max_u64 frame (frames-ordered a) n (omega arith) (λ k l q. absurd (omega arith)) in
    let some = a.some-segments in
    let within : s.0 < n = decide (leb n s.0) (λ q. absurd (omega (arith, leb-true n s.0 q, s.1.below (n - 1) (omega (arith, leb-true n s.0 q)), a.last))) (leb-false n s.0) in
    let frames-are : count_by (over_by frame) t.segments ≡ s.0 =
    ap (count_by (over_by frame)) (sym (as-run no_segment t.segments))
    ∙ count-ended (over_by frame) (segment t) (λ k. out_end (segment t k)) n frame (λ k h. refl)
    ∙ sym (bracket-end (λ k. out_end (segment t k)) n frame s.0 s.0 s.1 (omega arith)) in
    let e : s.0 ≡ min (count_by (over_by frame) t.segments) (n - 1) = omega arith in
    subst (Holds t frame) e (holds a frame s.0 within s.1)
