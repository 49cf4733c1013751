-- Timestamps that ascend, and whose span an i64 holds: so it holds every interval and every start. Over ℤ, whatever the
-- timestamps. Assumes nothing.
use mathlib.Core.Path.{◌≡◌, refl, sym, ap, ◌∙◌, subst}
use Rattle.std.proofs.lemmas.List.{get_or-map}
use Rattle.std.specs.List.{AllByRecursion}
use mathlib.Core.Bool.{true, false}
use mathlib.Core.List.{List}
use Prim.Native.Nat.{ℕ, ◌+◌, ◌-◌, ◌≤◌, ◌<◌, ◌^◌}
use native.Mathlib.Omega.{arith}
use lib.IntN.{ℤ, pos, negsuc, neg_ℤ, nat_abs, ◌+ℤ◌, ◌-ℤ◌, +ℤ_assoc, -ℤ-+ℤ_cancel}
use lib.ListN.{length, get_or, length-map}
use lib.Signed.{le_z, lt_z}
use Rattle.signed.specs.Fits.{I64}
use Rattle.conditions.proofs.Tests.{decide, tf}
use Rattle.signed.proofs.Order.{lt_not_le}
use Rattle.slices.proofs.Every.{all-at, all_of}
use Rattle.order.specs.Order.{Asc}
use Rattle.order.proofs.Sorted.{asc-le}
use Rattle.mcraw.specs.Mcraw.{gaps, first, last, starts_of, span}
use Rattle.mcraw.proofs.Gaps.{length-gaps, gap_at, less-below}

-- a number that isn't below 0
whole : (z : ℤ) → lt_z z (pos 0) ≡ false → z ≡ pos (nat_abs z)
whole (pos n) e = refl
whole (negsuc n) e = tf e

le_not_lt : (a b : ℤ) → le_z a b ≡ true → lt_z b a ≡ false
le_not_lt a b h = decide (lt_z b a) (λ t. tf (sym h ∙ lt_not_le b a t)) (λ f. f)

-- from a to b, which is no lower, and on to c
later : (a b : ℤ) → le_z a b ≡ true → b -ℤ a ≡ pos (nat_abs (b -ℤ a))
later a b h = whole (b -ℤ a) (less-below b a ∙ le_not_lt a b h)

chain : (a b c : ℤ) (m n : ℕ) → b -ℤ a ≡ pos m → c -ℤ b ≡ pos n → c -ℤ a ≡ pos (n + m)
chain a b c m n p q =
    sym (ap (λ (z : ℤ). z +ℤ neg_ℤ a) (-ℤ-+ℤ_cancel c b)) ∙ +ℤ_assoc (c -ℤ b) b (neg_ℤ a) ∙ (λ i. q i +ℤ p i)

-- what lies between lies no farther apart
inner : (a b c d : ℤ) → le_z a b ≡ true → le_z b c ≡ true → le_z c d ≡ true → I64 (d -ℤ a) → I64 (c -ℤ b)
inner a b c d x y z h =
    let k = nat_abs (b -ℤ a) in
    let m = nat_abs (c -ℤ b) in
    let n = nat_abs (d -ℤ c) in
    let e : d -ℤ a ≡ pos (n + (m + k)) = chain a c d (m + k) n (chain a b c k m (later a b x) (later b c y)) (later c d z) in
    let f : n + (m + k) < 2 ^ 63 = subst I64 e h in
    subst I64 (sym (later b c y)) (omega arith)

pub length-starts : (timestamps : List ℤ) → length (starts_of timestamps) ≡ length timestamps
unfolding starts_of
length-starts timestamps = length-map timestamps (λ t. t -ℤ first timestamps)

pub start-at : (timestamps : List ℤ) (i : ℕ) → i < length timestamps
    → get_or (starts_of timestamps) i (pos 0) ≡ get_or timestamps i (pos 0) -ℤ first timestamps
unfolding starts_of
start-at timestamps i h = get_or-map (λ t. t -ℤ first timestamps) timestamps i (pos 0) (pos 0) h

pub start_fits : (timestamps : List ℤ) (i : ℕ) → i < length timestamps → AllByRecursion I64 (starts_of timestamps)
    → I64 (get_or timestamps i (pos 0) -ℤ first timestamps)
start_fits timestamps i h all = rw (start-at timestamps i h) at (all-at I64 (starts_of timestamps) i (pos 0) all (omega (arith, length-starts timestamps)))

module _ (timestamps : List ℤ) (asc : Asc timestamps) (h : I64 (span timestamps)) where
  -- from a timestamp to a later one
  between : (i j : ℕ) → i ≤ j → j < length timestamps → I64 (get_or timestamps j (pos 0) -ℤ get_or timestamps i (pos 0))
  unfolding span
  between i j le b =
      inner (first timestamps) (get_or timestamps i (pos 0)) (get_or timestamps j (pos 0)) (last timestamps)
      (asc-le timestamps 0 i (pos 0) asc (omega arith) (omega arith)) (asc-le timestamps i j (pos 0) asc le b) (asc-le timestamps j (length timestamps - 1) (pos 0) asc (omega arith) (omega arith)) h

  pub gaps-fit : AllByRecursion I64 (gaps timestamps)
  gaps-fit = all_of I64 (gaps timestamps) (pos 0) (λ k b.
      let n = length-gaps timestamps in
      let e : k + 1 - 1 ≡ k = omega arith in
      let g : get_or (gaps timestamps) k (pos 0) ≡ get_or timestamps (k + 1) (pos 0) -ℤ get_or timestamps k (pos 0) = rw e at (gap_at timestamps (k + 1) (omega arith) (omega arith)) in
      rw g (between k (k + 1) (omega arith) (omega arith)))

  pub starts_fit : AllByRecursion I64 (starts_of timestamps)
  starts_fit = all_of I64 (starts_of timestamps) (pos 0) (λ k b.
      let n = length-starts timestamps in
      let inside : k < length timestamps = omega arith in
      rw (start-at timestamps k inside) (between 0 k (omega arith) inside))
