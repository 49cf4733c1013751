-- Why `nearest` and `rounded` say "to the nearest whole number; halves go away from zero". Assumes nothing.
use Rattle.std.specs.Prelude.{◌≡◌, refl, ℕ, zero, suc, ◌+◌, ◌*◌, ◌-◌, ◌/◌, ◌%◌, ◌≤◌, ◌<◌, ℤ, pos, negsuc, neg_ℤ}
use Rattle.std.proofs.Common.{sym, ap, ◌∙◌, div-add-mod', mod-lt, arith}
use Rattle.std.proofs.Math.Nat.{div-eq_of_lt}
use Rattle.std.proofs.Math.Arith.{digits_div}
use Rattle.std.proofs.Math.IntN.{neg_ℤ-neg_ℤ}
use Rattle.signed.specs.Rounded.{nearest, rounded}

-- n / d is at most a half below it and less than a half above it, so that a half goes up,
pub nearest-near : (n d : ℕ) → 0 < d → (2 * (nearest n d * d) ≤ 2 * n + d) × (2 * n < 2 * (nearest n d * d) + d)
nearest-near n d h =
    let e : (2 * n + d) / (2 * d) * (2 * d) + (2 * n + d) % (2 * d) ≡ 2 * n + d = div-add-mod' (2 * n + d) (2 * d) in
    let b : (2 * n + d) % (2 * d) < 2 * d = mod-lt (2 * n + d) (omega arith) in
    (omega arith, omega arith)

-- and of no other number is that true
pub nearest-only : (n d q : ℕ) → 2 * (q * d) ≤ 2 * n + d → 2 * n < 2 * (q * d) + d → q ≡ nearest n d
nearest-only n d q h k =
    let r = 2 * n + d - 2 * (q * d) in
    let e : 2 * n + d ≡ q * (2 * d) + r = omega arith in
    sym (ap (λ (m : ℕ). m / (2 * d)) e ∙ digits_div q {m = 2 * d} {r = r} (omega arith))

-- below zero it is the same, with the sign
pub rounded-neg : (n d : ℕ) → 0 < d → rounded (neg_ℤ (pos n)) d ≡ neg_ℤ (pos (nearest n d))
rounded-neg zero d h =
    let none : nearest 0 d ≡ 0 = div-eq_of_lt (omega arith) in
    ap pos none ∙ sym (ap (λ (m : ℕ). neg_ℤ (pos m)) none)
rounded-neg (suc n) d h = refl

pub rounded-negated : (z : ℤ) (d : ℕ) → 0 < d → rounded (neg_ℤ z) d ≡ neg_ℤ (rounded z d)
rounded-negated (pos n) d h = rounded-neg n d h
rounded-negated (negsuc n) d h = sym (neg_ℤ-neg_ℤ (pos (nearest (suc n) d)))
