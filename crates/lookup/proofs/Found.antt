-- What the lookups and `continues` take from a table that is accepted, whatever its layout. Assumes nothing.
use Prim.Native.Nat.{ℕ, suc, ◌+◌, ◌≤◌, ◌<◌}
use native.Mathlib.Omega.{arith}
use mathlib.Core.Path.{◌≡◌, ap, ◌∙◌}
use lib.IntN.{nat_abs}
use lib.ListN.{length}
use Rattle.std.specs.Prelude.{Ok}
use Rattle.conditions.specs.Conditions.{max_u64}
use Rattle.rules.specs.Records.{Table, segment}
use Rattle.rules.specs.Rules.{check_of}
use Rattle.rules.proofs.Accepted.{Accepted, accepted}
use Rattle.rules.proofs.Search.{frames-ordered, times-ordered}
use Rattle.lookup.proofs.Searchable.{Chained, Timed}

module _ (t : Table) {N : ℕ} (e : check_of t ≡ Ok N) where
  given : Accepted t N
  given = accepted t N e

  pub chained : Chained t
  chained = record {
    some = given.some-segments;
    ends = frames-ordered given;
    chained = λ k h. let z : k + 1 ≡ suc k = omega arith in ap (λ (j : ℕ). (segment t j).words.out) z ∙ (given.follows k (omega arith)).frame;
  }

  pub timed : Timed t
  timed = record {
    ends = times-ordered given;
    plain = λ k h. (given.segments k h).out-time.start;
    sum = λ k h. (given.segments k h).out-time.sum;
    chained = λ k h.
        let z : k + 1 ≡ suc k = omega arith in
        ap (λ (j : ℕ). nat_abs (segment t j).stamps.out_start) z ∙ ap nat_abs ((given.follows k (omega arith)).time ∙ (given.segments k (omega arith)).out-time.sum);
  }

  pub source_sum : (k : ℕ) → k < length t.segments → (segment t k).words.first + (segment t k).words.count ≤ max_u64
  source_sum k h = (given.segments k h).src-fits
