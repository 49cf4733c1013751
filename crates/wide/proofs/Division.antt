-- Long division, the upper word first. Assumes nothing.
use Rattle.std.proofs.Common.{◌≡◌, ℕ, ◌+◌, ◌*◌, ◌/◌, ◌<◌, ap, arith}

-- the upper word, then the lower one after its remainder, in any base P
pub both_words : (P hi lo d q₁ r₁ q₀ r₀ : ℕ) → q₁ * d + r₁ ≡ 0 * P + hi → q₀ * d + r₀ ≡ r₁ * P + lo
    → (q₁ * P + q₀) * d + r₀ ≡ hi * P + lo
both_words P hi lo d q₁ r₁ q₀ r₀ e₁ e₀ = omega (arith, ap (λ (x : ℕ). x * P) e₁)

-- where q times d leaves less than d, q is the quotient
pub quotient_is : {n d : ℕ} (q r : ℕ) → q * d + r ≡ n → r < d → q ≡ n / d
quotient_is q r e h = grind arith
