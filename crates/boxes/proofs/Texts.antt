-- The four bytes of a type are text where neither the type less 20202020 hex nor the type plus 01010101 hex has the top
-- bit of a byte. Assumes nothing.
use mathlib.Core.Path.{◌≡◌, sym, ap, ◌∙◌}
use Prim.Native.Nat.{ℕ, ◌+◌, ◌*◌, ◌/◌, ◌%◌, ◌≤◌, ◌<◌, max}
use native.Mathlib.Omega.{arith}
use lib.Bits.{bit_and, bit_or, and_zero_r}
use lib.Dec.{eqb}
use Rattle.std.specs.Int.{bit_at}
use Rattle.std.proofs.lemmas.Nat.{and_block, shr_split}
use Rattle.std.proofs.lemmas.Nat.Bits.{bit_at_or, and_pow}
use Rattle.std.proofs.lemmas.Bool.Decides.{nat_tests}
use Rattle.boxes.specs.Boxes.{is_text}

-- a mask whose low byte is 80 hex takes the top bit of the low byte
low : (n mask : ℕ) → bit_and n (mask * 256 + 128) ≡ bit_and (n / 256) mask * 256 + bit_at n 7 * 128
low n mask =
    ap (λ x. bit_and x (mask * 256 + 128)) (sym (shr_split n 8))
    ∙ and_block 8 (n / 256) mask (n % 256) 128 (omega arith) (omega arith)
    ∙ ap (λ x. bit_and (n / 256) mask * 256 + x) (and_pow (n % 256) 7 ∙ ap (λ x. x * 128) (omega arith))

-- so 80808080 hex takes the four top bits, here those that either number has
tops : (a b : ℕ)
    → bit_and (bit_or a b) 0x80808080
    ≡ max (bit_at a 31) (bit_at b 31) * 0x80000000 + max (bit_at a 23) (bit_at b 23) * 0x800000
    + max (bit_at a 15) (bit_at b 15) * 0x8000 + max (bit_at a 7) (bit_at b 7) * 0x80
tops a b =
    let n = bit_or a b in
    rw (low n 0x808080, low (n / 256) 0x8080, low (n / 256 / 256) 0x80, low (n / 256 / 256 / 256) 0, and_zero_r)
    (rw (← (bit_at_or a b 31), ← (bit_at_or a b 23), ← (bit_at_or a b 15), ← (bit_at_or a b 7)) (omega arith))

-- `is_text` as orders, which arithmetic reads
abbrev Text : ℕ → Type 0
Text byte = (0x20 ≤ byte) × (byte ≤ 0x7e)

abbrev Texts : ℕ → Type 0
Texts kind = Text (kind / 16777216) × Text (kind / 65536 % 256) × Text (kind / 256 % 256) × Text (kind % 256)

tested : (n kind : ℕ) → (n ≡ 0 → Texts kind) → (Texts kind → n ≡ 0) → eqb n 0 ≡ is_text kind
unfolding is_text
tested n kind f g = grind (arith, nat_tests)

pub text_is : (kind : ℕ) → kind < 0x100000000
    → eqb (bit_and (bit_or ((kind + 0xdfdfdfe0) % 0x100000000) ((kind + 0x01010101) % 0x100000000)) 0x80808080) 0
    ≡ is_text kind
text_is kind h =
    let t = tops ((kind + 0xdfdfdfe0) % 0x100000000) ((kind + 0x01010101) % 0x100000000) in
    tested _ kind (λ e. search (arith, t)) (λ e. grind (arith, t))
