-- Distances of numbers, and of two ends that are both near a third. Assumes nothing.
use mathlib.Core.Path.{◌≡◌, sym, ap, ◌∙◌, subst}
use mathlib.Core.Logic.{⊎_elim}
use Prim.Native.Nat.{ℕ, ◌+◌, ◌*◌, ◌/◌, ◌≤◌, ◌<◌}
use native.Mathlib.Nat.{div-eq_of_lt, mul-le-mul_right, le_of_mul-le-mul_right}
use native.Mathlib.Omega.{arith}
use lib.Dec.{leb→le, le→leb}
use lib.IntN.{ℤ, pos, negsuc, nat_abs, ◌+ℤ◌, ◌-ℤ◌, ◌*ℤ◌, +ℤ_comm, +ℤ-neg_ℤ_cancel, pos-ne-negsuc}
use lib.Signed.{◌≤ℤ◌}
use Rattle.conditions.proofs.Tests.{le-or-lt}
use Rattle.signed.specs.Rounded.{nearest, rounded}
use Rattle.ticks.proofs.Nearness.{above}
use Rattle.rules.proofs.Accepted.{Timely}

at_most : (n c : ℕ) → pos n ≤ℤ pos c → n ≤ c
at_most n c h = leb→le n c h.le

-- two numbers, each within c of x
both-near : (p q c : ℕ) (x : ℤ) → nat_abs (pos p -ℤ x) ≤ c → nat_abs (pos q -ℤ x) ≤ c
    → (p ≤ q + (c + c)) × (q ≤ p + (c + c))
both-near p q c (pos n) h k = (omega (arith, above p n, above q n), omega (arith, above p n, above q n))
both-near p q c (negsuc n) h k = (omega arith, omega arith)

-- twice two ends, apart by at most 2c, times s
lasts : (a d e s c : ℕ) → 2 * (a + d) * s ≤ 2 * (a + e) * s + (c + c) → 2 * (a + e) * s ≤ 2 * (a + d) * s + (c + c)
    → nat_abs (pos d -ℤ pos e) * s ≤ c
lasts a d e s c h k =
    ⊎_elim
    (λ (o : d ≤ e). go (nat_abs (pos d -ℤ pos e)) (omega (arith, above d e)))
    (λ (o : e < d). back (nat_abs (pos d -ℤ pos e)) (omega (arith, above d e)))
    (le-or-lt d e)
  where
    go : (w : ℕ) → e ≡ d + w → w * s ≤ c
    go w q = let z : 2 * (a + e) * s ≡ 2 * (a + (d + w)) * s = ap (λ (x : ℕ). 2 * (a + x) * s) q in omega arith

    back : (w : ℕ) → d ≡ e + w → w * s ≤ c
    back w q = let z : 2 * (a + d) * s ≡ 2 * (a + (e + w)) * s = ap (λ (x : ℕ). 2 * (a + x) * s) q in omega arith

-- two ends near x, from one start: their durations
pub last-near : (a b d e x c : ℤ) (s : ℕ) → a ≡ b → Timely a d → Timely b e
    → pos (nat_abs (pos 2 *ℤ (a +ℤ d) *ℤ pos s -ℤ x)) ≤ℤ c
    → pos (nat_abs (pos 2 *ℤ (b +ℤ e) *ℤ pos s -ℤ x)) ≤ℤ c
    → (pos (nat_abs (d -ℤ e)) *ℤ pos s) ≤ℤ c
last-near a b d e x c s z f g h k =
    go a d e c f (subst (λ (y : ℤ). Timely y e) (sym z) g) h
    (subst (λ (y : ℤ). pos (nat_abs (pos 2 *ℤ (y +ℤ e) *ℤ pos s -ℤ x)) ≤ℤ c) (sym z) k)
  where
    go : (a d e c : ℤ) → Timely a d → Timely a e
        → pos (nat_abs (pos 2 *ℤ (a +ℤ d) *ℤ pos s -ℤ x)) ≤ℤ c
        → pos (nat_abs (pos 2 *ℤ (a +ℤ e) *ℤ pos s -ℤ x)) ≤ℤ c
        → (pos (nat_abs (d -ℤ e)) *ℤ pos s) ≤ℤ c
    go (pos a) (pos d) (pos e) (pos c) f g h k =
        let b = both-near (2 * (a + d) * s) (2 * (a + e) * s) c x (at_most _ _ h) (at_most _ _ k) in
        record { le = le→leb _ _ (lasts a d e s c b.0 b.1) }
    go (pos a) (pos d) (pos e) (negsuc c) f g h k = absurd h.le
    go (pos a) (pos d) (negsuc e) c f g h k = absurd (pos-ne-negsuc _ _ (sym g.duration))
    go (pos a) (negsuc d) e c f g h k = absurd (pos-ne-negsuc _ _ (sym f.duration))
    go (negsuc a) d e c f g h k = absurd (pos-ne-negsuc _ _ (sym f.start))

-- a duration is the distance of its ends
pub duration-is : (a d b : ℤ) → b ≡ a +ℤ d → d ≡ b -ℤ a
duration-is a d b e = sym (+ℤ-neg_ℤ_cancel d a) ∙ ap (λ (z : ℤ). z -ℤ a) (+ℤ_comm d a ∙ sym e)

-- ---- one frame, at a rate
-- frame 0 lies at 0
pub time-0 : (o denominator numerator : ℕ) → o ≡ 0 → 0 < numerator
    → rounded (pos (o * denominator) *ℤ pos 1000000) numerator ≡ pos 0
time-0 o denominator numerator e h =
    ap (λ (x : ℕ). pos (nearest (x * denominator * 1000000) numerator)) e
    ∙ ap pos (ap (λ (x : ℕ). x / (2 * numerator)) (omega arith) ∙ div-eq_of_lt {n = numerator} {m = 2 * numerator} (omega arith))

-- near at one rate is near at the same rate in other numbers
near-rate : (m n d n' d' : ℕ) → 0 < d' → n * d' ≡ n' * d
    → nat_abs (pos (2 * m * n') -ℤ pos (2 * (1 * d') * 1000000)) ≤ 2 * d' * 1000000 + n'
    → nat_abs (pos (2 * m * n) -ℤ pos (2 * (1 * d) * 1000000)) ≤ 2 * d * 1000000 + n
near-rate m n d n' d' z e h =
    let r : m * (n * d') ≡ m * (n' * d) = ap (λ (x : ℕ). m * x) e in
    let a : 2 * m * n' ≤ 2 * (1 * d') * 1000000 + (2 * d' * 1000000 + n') = omega (arith, above (2 * m * n') (2 * (1 * d') * 1000000)) in
    let b : 2 * (1 * d') * 1000000 ≤ 2 * m * n' + (2 * d' * 1000000 + n') = omega (arith, above (2 * m * n') (2 * (1 * d') * 1000000)) in
    let a' = mul-le-mul_right d a in
    let b' = mul-le-mul_right d b in
    let x : 2 * m * n ≤ 2 * (1 * d) * 1000000 + (2 * d * 1000000 + n) = le_of_mul-le-mul_right {k = d'} (omega (arith, a', r, e)) z in
    let y : 2 * (1 * d) * 1000000 ≤ 2 * m * n + (2 * d * 1000000 + n) = le_of_mul-le-mul_right {k = d'} (omega (arith, b', r, e)) z in
    omega (arith, above (2 * m * n) (2 * (1 * d) * 1000000))

pub near-rates : (z : ℤ) (m n d n' d' : ℕ) → z ≡ pos m → 0 < d' → n * d' ≡ n' * d
    → pos (nat_abs (pos 2 *ℤ z *ℤ pos n' -ℤ pos 2 *ℤ pos (1 * d') *ℤ pos 1000000)) ≤ℤ (pos 2 *ℤ pos d' *ℤ pos 1000000 +ℤ pos n')
    → pos (nat_abs (pos 2 *ℤ z *ℤ pos n -ℤ pos 2 *ℤ pos (1 * d) *ℤ pos 1000000)) ≤ℤ (pos 2 *ℤ pos d *ℤ pos 1000000 +ℤ pos n)
near-rates (pos m') m n d n' d' q z e h = record { le = le→leb _ _ (near-rate m' n d n' d' z e (at_most _ _ h)) }
near-rates (negsuc m') m n d n' d' q z e h = absurd (pos-ne-negsuc _ _ (sym q))
