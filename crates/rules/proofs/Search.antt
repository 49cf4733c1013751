-- How many ends are at most a value, and the ends of an accepted table, which never fall. Assumes nothing.
use Prim.Native.Nat.{ℕ, zero, suc, ◌+◌, ◌-◌, ◌≤◌, ◌<◌, zero-le, suc-le-suc}
use Rattle.slices.proofs.Ranges.{run}
use Rattle.slices.proofs.Counts.{count-cons, count-split}
use Rattle.std.specs.List.{count_by}
use Rattle.std.proofs.lemmas.List.FromFn.{length-map-range_with_len, get_or-map-range_with_len}
use native.Mathlib.Nat.{add-zero, zero-add}
use native.Mathlib.Omega.{arith}
use mathlib.Core.Path.{◌≡◌, refl, sym, ap, ◌∙◌, subst}
use mathlib.Core.Bool.{Bool, cond}
use lib.ListN.{length, get_or}
use lib.Dec.{leb}
use lib.IntN.{nat_abs}
use borrow.Author.Tests.{le-leb, lt-leb}
use Rattle.conditions.specs.Conditions.{max_u64}
use Rattle.rules.specs.Limits.{max_i64}
use Rattle.rules.specs.Records.{Table, segment, out_end}
use Rattle.rules.specs.Walks.{ended_by, Ordered}
use Rattle.rules.proofs.Accepted.{Accepted}

-- two counts of as many records, where each passes as its twin does
count_same : {A B : Type 0} (p : A → Bool) (f : ℕ → A) (q : B → Bool) (g : ℕ → B) (m i : ℕ)
    → ((k : ℕ) → k < m → p (f (i + k)) ≡ q (g (i + k))) → count_by p (run f i m) ≡ count_by q (run g i m)
count_same p f q g zero i h = refl
count_same p f q g (suc m) i h =
    let e : p (f i) ≡ q (g i) = subst (λ (j : ℕ). p (f j) ≡ q (g j)) (add-zero i) (h 0 (suc-le-suc zero-le)) in
    let r : count_by p (run f (i + 1) m) ≡ count_by q (run g (i + 1) m) = count_same p f q g m (i + 1) (λ k l. subst (λ (j : ℕ). p (f j) ≡ q (g j)) (omega arith) (h (suc k) (suc-le-suc l))) in
    omega (arith, count-cons p (f i) (run f (i + 1) m), count-cons q (g i) (run g (i + 1) m), ap {B = ℕ} (λ b. cond b 1 0) e, r)

-- records that pass exactly where their end is at most v
pub count-ended : {A : Type 0} (p : A → Bool) (f : ℕ → A) (e : ℕ → ℕ) (n v : ℕ)
    → ((k : ℕ) → k < n → p (f k) ≡ leb (e k) v) → count_by p (run f 0 n) ≡ ended_by e n v
unfolding ended_by
count-ended p f e n v h = count_same p f (λ k. leb (e k) v) (λ k. k) n 0 (λ k l. subst (λ (j : ℕ). p (f j) ≡ leb (e j) v) (sym (zero-add k)) (h k l))

-- lo and hi bracket the number of ends that are at most v
pub record Bracket (e : ℕ → ℕ) (n v lo hi : ℕ) : Type 0 where
  pub lo-le : lo ≤ hi
  pub hi-le : hi ≤ n
  pub below : (k : ℕ) → k < lo → e k ≤ v
  pub above : (k : ℕ) → hi ≤ k → k < n → v < e k

-- lo and hi have met
pub bracket-end : (e : ℕ → ℕ) (n v lo hi : ℕ) → Bracket e n v lo hi → hi ≤ lo → lo ≡ ended_by e n v
unfolding ended_by
bracket-end e n v lo hi b h =
    sym (count-split (λ k. leb (e k) v) (run (λ k. k) 0 n) 0 lo (omega (arith, long, b.lo-le, b.hi-le))
    (λ k l. rw (is k (omega (arith, b.lo-le, b.hi-le))) (le-leb (e k) v (b.below k l)))
    (λ k l q. rw (is k (omega (arith, long))) (lt-leb (e k) v (b.above k (omega arith) (omega (arith, long))))))
  where
    long : length (run (λ j. j) 0 n) ≡ n
    long = length-map-range_with_len (λ j. j) 0 n

    is : (k : ℕ) → k < n → get_or (run (λ j. j) 0 n) k 0 ≡ k
    is k l = get_or-map-range_with_len (λ j. j) 0 n k k 0 l (zero-add k)

-- each end is at most the next
steps : (e : ℕ → ℕ) (n : ℕ) → ((k : ℕ) → suc k < n → e k ≤ e (suc k)) → (i j : ℕ) → i ≤ j → j < n → e i ≤ e j
steps e n h i j q l = subst (λ (x : ℕ). e i ≤ e x) (omega arith) (go (j - i) (omega arith))
  where
    go : (d : ℕ) → i + d < n → e i ≤ e (i + d)
    go zero b = rw add-zero (omega arith)
    go (suc d) b =
        let s : i + suc d ≡ suc (i + d) = omega arith in
        rw s (omega (arith, go d (omega arith), h (i + d) (omega arith)))

-- where segment k ends, as a number: its times are not negative
abbrev pub end_us : Table → ℕ → ℕ
end_us t k = nat_abs (segment t k).stamps.out_start + nat_abs (segment t k).stamps.duration

module _ {t : Table} {N : ℕ} (a : Accepted t N) where
  pub frames-ordered : Ordered (λ k. out_end (segment t k)) (length t.segments) max_u64
  frames-ordered = record {
    fits = λ k l. (a.segments k l).out-fits;
    rising = steps (λ k. out_end (segment t k)) _ (λ k l. omega (arith, (a.follows k l).frame));
  }

  pub times-ordered : Ordered (end_us t) (length t.segments) max_i64
  times-ordered = record {
    fits = λ k l. (a.segments k l).out-time.fits;
    rising = steps (end_us t) _ (λ k l. omega (arith, begins k l));
  }
    where
      begins : (k : ℕ) → suc k < length t.segments → nat_abs (segment t (suc k)).stamps.out_start ≡ end_us t k
      begins k l = ap nat_abs ((a.follows k l).time ∙ (a.segments k (omega arith)).out-time.sum)
