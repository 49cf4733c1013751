-- Rounding by signed negation and division. Each step of the program is an integer that is written out, and fits.
-- Assumes nothing.
use mathlib.Core.Path.{◌≡◌, sym, ap, ◌∙◌, subst}
use mathlib.Core.Bool.{true, false}
use Prim.Native.Nat.{ℕ, zero, suc, ◌+◌, ◌*◌, ◌/◌, ◌%◌, ◌^◌, ◌≤◌, ◌<◌}
use native.Mathlib.Nat.{div-le_self, lt_of_le_of_lt, div-add-mod', mod-lt}
use lib.Arith.{digits_div}
use native.Mathlib.Omega.{arith}
use lib.IntN.{ℤ, pos, negsuc, neg_ℤ, nat_abs, ◌+ℤ◌, ◌-ℤ◌, +ℤ_idl}
use lib.Dec.{leb→le}
use lib.Signed.{◌≤ℤ◌, lt_z, quot_z}
use mir.Syntax.{w64}
use mir.Val.{SFits, of_z}
use mir.Facts.{to_z-of_z}
use borrow.Author.Tests.{ltb-true}
use Rattle.signed.specs.Rounded.{rounded}
use Rattle.signed.proofs.Bits.{read}

-- the nearest whole number by adding half the divisor
pub halves : (n d : ℕ) → 0 < d → (n + d / 2) / d ≡ (2 * n + d) / (2 * d)
halves n d h =
    let q = (n + d / 2) / d in
    let r = (n + d / 2) % d in
    let e : q * d + r ≡ n + d / 2 = div-add-mod' (n + d / 2) d in
    let b : r < d = mod-lt (n + d / 2) h in
    let x : 2 * n + d ≡ q * (2 * d) + (2 * r + d % 2) = omega arith in
    sym (ap (λ (k : ℕ). k / (2 * d)) x ∙ digits_div q {m = 2 * d} {r = 2 * r + d % 2} (omega arith))

-- a step that comes to y, which fits, fits, and is read back as y
fit : {z y : ℤ} → z ≡ y → SFits w64 y → SFits w64 z
fit e f = subst (λ (z : ℤ). SFits w64 z) (sym e) f

back : {z y : ℤ} → z ≡ y → SFits w64 y → read z ≡ y
back e f = to_z-of_z (fit e f) ∙ e

-- (x + d / 2) / d, for an x that is read as m, not below 0
pub record Divided (x d : ℤ) (m n : ℕ) : Type 0 where
  pub half : SFits w64 (quot_z (read d) (pos 2))
  pub sum : SFits w64 (x +ℤ read (quot_z (read d) (pos 2)))
  pub some : 0 < of_z w64 d
  pub quotient : SFits w64 (quot_z (read (x +ℤ read (quot_z (read d) (pos 2)))) (read d))
  pub is : read (quot_z (read (x +ℤ read (quot_z (read d) (pos 2)))) (read d)) ≡ pos ((m + n / 2) / n)
  pub small : (m + n / 2) / n < 2 ^ 63

pub divided : (x : ℤ) (m n : ℕ) → x ≡ pos m → m ≤ 2 ^ 62 → 0 < n → n < 2 ^ 62 → Divided x (pos n) m n
divided x m n e hm p hn =
    let rd : read (pos n) ≡ pos n = to_z-of_z {w = w64} {z = pos n} (record { sfits = omega arith }) in
    let e₂ : quot_z (read (pos n)) (pos 2) ≡ pos (n / 2) = ap (λ (z : ℤ). quot_z z (pos 2)) rd in
    let f₂ : SFits w64 (pos (n / 2)) = record { sfits = omega arith } in
    let e₃ : x +ℤ read (quot_z (read (pos n)) (pos 2)) ≡ pos (m + n / 2) = λ i. e i +ℤ back e₂ f₂ i in
    let f₃ : SFits w64 (pos (m + n / 2)) = record { sfits = omega arith } in
    let e₄ : quot_z (read (x +ℤ read (quot_z (read (pos n)) (pos 2)))) (read (pos n)) ≡ pos ((m + n / 2) / n) = λ i. quot_z (back e₃ f₃ i) (rd i) in
    let h : (m + n / 2) / n < 2 ^ 63 = lt_of_le_of_lt (div-le_self (m + n / 2) n) (omega arith) in
    let f₄ : SFits w64 (pos ((m + n / 2) / n)) = record { sfits = h } in
    record { half = fit e₂ f₂; sum = fit e₃ f₃; some = p; quotient = fit e₄ f₄; is = back e₄ f₄; small = h }

negate : (k : ℕ) → k < 2 ^ 63 → SFits w64 (neg_ℤ (pos k))
negate zero h = record { sfits = omega arith }
negate (suc k) h = record { sfits = omega arith }

-- what is known where n is below 0, and where it is not
pub record Below (n d : ℤ) : Type 0 where
  pub first : SFits w64 (pos 0 -ℤ read n)
  pub then : Divided (read (pos 0 -ℤ read n)) d (nat_abs n) (nat_abs d)
  pub last : SFits w64 (pos 0 -ℤ read (quot_z (read (read (pos 0 -ℤ read n) +ℤ read (quot_z (read d) (pos 2)))) (read d)))
  pub is : read (pos 0 -ℤ read (quot_z (read (read (pos 0 -ℤ read n) +ℤ read (quot_z (read d) (pos 2)))) (read d))) ≡ rounded n (nat_abs d)

pub record Above (n d : ℤ) : Type 0 where
  pub then : Divided (read n) d (nat_abs n) (nat_abs d)
  pub is : read (quot_z (read (read n +ℤ read (quot_z (read d) (pos 2)))) (read d)) ≡ rounded n (nat_abs d)

below_at : (k n : ℕ) → k < 2 ^ 62 → 0 < n → n < 2 ^ 62 → Below (negsuc k) (pos n)
below_at k n hk p hn =
    let e₁ : pos 0 -ℤ read (negsuc k) ≡ pos (suc k) = ap (λ (z : ℤ). pos 0 -ℤ z) (to_z-of_z {w = w64} {z = negsuc k} (record { sfits = omega arith })) ∙ +ℤ_idl (pos (suc k)) in
    let f₁ : SFits w64 (pos (suc k)) = record { sfits = omega arith } in
    let D : Divided (read (pos 0 -ℤ read (negsuc k))) (pos n) (suc k) n = divided _ (suc k) n (back e₁ f₁) (omega arith) p hn in
    let q : ℕ = (suc k + n / 2) / n in
    let e₅ : pos 0 -ℤ read (quot_z (read (read (pos 0 -ℤ read (negsuc k)) +ℤ read (quot_z (read (pos n)) (pos 2)))) (read (pos n))) ≡ neg_ℤ (pos q) = ap (λ (z : ℤ). pos 0 -ℤ z) D.is ∙ +ℤ_idl (neg_ℤ (pos q)) in
    let f₅ : SFits w64 (neg_ℤ (pos q)) = negate q D.small in
    record { first = fit e₁ f₁; then = D; last = fit e₅ f₅; is = back e₅ f₅ ∙ ap (λ (m : ℕ). neg_ℤ (pos m)) (halves (suc k) n p) }

pub below : (n d : ℤ) → nat_abs n ≤ 2 ^ 62 → pos 1 ≤ℤ d → nat_abs d < 2 ^ 62 → SFits w64 n
    → lt_z (read n) (pos 0) ≡ true → Below n d
below n d hn pd hd f t = at n d hn pd hd (rw (to_z-of_z f) at t)
  where
    at : (n d : ℤ) → nat_abs n ≤ 2 ^ 62 → pos 1 ≤ℤ d → nat_abs d < 2 ^ 62 → lt_z n (pos 0) ≡ true → Below n d
    at (pos k) d hn pd hd t = let h : k < 0 = ltb-true k 0 t in absurd (omega arith)
    at (negsuc k) (pos m) hn pd hd t = below_at k m (omega arith) (leb→le 1 m pd.le) hd
    at (negsuc k) (negsuc m) hn pd hd t = absurd pd.le

pub above : (n d : ℤ) → nat_abs n ≤ 2 ^ 62 → pos 1 ≤ℤ d → nat_abs d < 2 ^ 62 → SFits w64 n
    → lt_z (read n) (pos 0) ≡ false → Above n d
above n d hn pd hd f t = at n d hn pd hd (rw (to_z-of_z f) at t)
  where
    at : (n d : ℤ) → nat_abs n ≤ 2 ^ 62 → pos 1 ≤ℤ d → nat_abs d < 2 ^ 62 → lt_z n (pos 0) ≡ false → Above n d
    at (negsuc k) d hn pd hd t = let z : ◌≡◌ {A = ℕ} 0 1 = cc in absurd (omega arith)
    at (pos k) (negsuc m) hn pd hd t = absurd pd.le
    at (pos k) (pos m) hn pd hd t =
        let p : 0 < m = leb→le 1 m pd.le in
        let D : Divided (read (pos k)) (pos m) k m = divided _ k m (to_z-of_z {w = w64} {z = pos k} (record { sfits = omega arith })) hn p hd in
        record { then = D; is = D.is ∙ ap pos (halves k m p) }
