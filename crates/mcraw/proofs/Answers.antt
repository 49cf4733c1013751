-- The answers to the test of the end, and what an answer with times says of the tests. Assumes nothing.
use mathlib.Core.Path.{◌≡◌}
use Rattle.std.proofs.lemmas.Bool.{or_parts}
use Rattle.std.specs.Ordering.{int_eq}
use mathlib.Core.Bool.{true, false, ◌||◌}
use mathlib.Core.List.{List}
use Prim.Native.Nat.{ℕ, ◌≤◌}
use borrow.Author.Tests.{le-ltb, ltb-false}
use lib.Dec.{ltb}
use lib.IntN.{ℤ, pos}
use lib.ListN.{length}
use Rattle.std.specs.Prelude.{Ok}
use Rattle.refusal.specs.declared.Reason.TheVariants as reason
use Rattle.refusal.specs.Refusals.{refused}
use Rattle.refusal.proofs.Chains.{if-ok, and-ok, ok-of}
use Rattle.signed.specs.Signed.{is_outside}
use Rattle.signed.specs.Fits.{I64}
use Rattle.signed.proofs.Ranges.{inside}
use Rattle.ticks.specs.declared.FrameTimes.{FrameTimes}
use Rattle.mcraw.specs.Mcraw.{most_timestamps, span, nominal, end, fall_of, refusal_of, times_of, mcraw_times}

-- the tests before the end's, none of which held
module _ (timestamps : List ℤ) (s w : ℕ) (few : length timestamps ≤ most_timestamps) (two : 2 ≤ length timestamps) (rise : fall_of timestamps ≡ Ok tt) (near : is_outside (span timestamps) ≡ false)
    (room : ltb s (length timestamps) || ltb w (length timestamps) ≡ false) (moves : int_eq (nominal timestamps) (pos 0) ≡ false)
  where
    pub late : is_outside (end timestamps) ≡ true → refused reason.Outside 0 ≡ mcraw_times timestamps s w
    unfolding mcraw_times refusal_of
    late ends = rw (le-ltb most_timestamps (length timestamps) few, le-ltb (length timestamps) 2 two, rise, near, room, moves, ends)

    pub timed : is_outside (end timestamps) ≡ false → Ok (times_of timestamps) ≡ mcraw_times timestamps s w
    unfolding mcraw_times refusal_of
    timed ends = rw (le-ltb most_timestamps (length timestamps) few, le-ltb (length timestamps) 2 two, rise, near, room, moves, ends)

-- what an answer with times says of the tests, and that it has them
pub record Accepted (timestamps : List ℤ) (starts work : ℕ) (times : FrameTimes) : Type 0 where
  pub rise : fall_of timestamps ≡ Ok tt
  pub near : I64 (span timestamps)
  pub room : length timestamps ≤ starts
  pub is : times_of timestamps ≡ times

pub accepted : (timestamps : List ℤ) (s w : ℕ) (times : FrameTimes) → mcraw_times timestamps s w ≡ Ok times
    → Accepted timestamps s w times
unfolding mcraw_times refusal_of
accepted timestamps s w times h =
    let r = ok-of (refusal_of timestamps s w) (times_of timestamps) times h in
    let many = if-ok (ltb most_timestamps (length timestamps)) _ _ _ r.0 in
    let few = if-ok (ltb (length timestamps) 2) _ _ _ many.1 in
    let falls = and-ok (fall_of timestamps) _ _ few.1 in
    let far = if-ok (is_outside (span timestamps)) _ _ _ falls.1 in
    let tight = if-ok (ltb s (length timestamps) || ltb w (length timestamps)) _ _ _ far.1 in
    record {
      rise = falls.0;
      near = inside (span timestamps) far.0;
      room = ltb-false s (length timestamps) (or_parts (ltb s (length timestamps)) (ltb w (length timestamps)) tight.0).0;
      is = r.1;
    }
