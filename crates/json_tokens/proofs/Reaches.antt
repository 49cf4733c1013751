-- Where the parts of a number end. Assumes nothing.
use Rattle.std.specs.Prelude.{Option, Some, None}
use mathlib.Core.Path.{◌≡◌}
use mathlib.Core.Bool.{not, ◌||◌, ◌&&◌}
use mathlib.Core.Logic.{⊎_elim}
use mathlib.Core.List.{List}
use Prim.Native.Nat.{ℕ, ◌+◌, ◌≤◌}
use native.Mathlib.Omega.{arith}
use lib.ListN.{length}
use lib.Dec.{eqb}
use borrow.Author.Tests.{eqb-false}
use Rattle.conditions.proofs.Tests.{either, le-or-lt}
use Rattle.json_tokens.specs.Text.{Got, ◌>>=◌, byte_at, digits, is_digit}
use Rattle.json_tokens.specs.Numbers.{some, int_end, frac_end, signed, exp_end, after_minus}
use Rattle.json_tokens.proofs.Texts.{past_from, past_to, past_out}

-- a part and what follows it: laws go by cases on where the part ends
abbrev pub end_then : {A : Type 0} → Option ℕ → (ℕ → Got A) → Got A
end_then x f = x >>= f

-- it ends at or after i, and within the text
unfoldable pub Reach : ℕ → ℕ → Option ℕ → Type 0
Reach len i None = Unit
Reach len i (Some d) = (i ≤ d) × (d ≤ len)

pub reached : (len i d : ℕ) (x : Option ℕ) → Reach len i x → Some d ≡ x → (i ≤ d) × (d ≤ len)
unfolding Reach
reached len i d None r e = let z : ◌≡◌ {A = ℕ} 0 1 = cc in absurd (omega arith)
reached len i d (Some f) r e = let z : f ≡ d = cc in (omega (arith, r.0, z), omega (arith, r.1, z))

module _ (text : List ℕ) where
  -- digits that are there lie in the text
  some-reach : (i : ℕ) → Reach (length text) (i + 1) (some i (digits text i))
  unfolding Reach some
  some-reach i =
      either (Reach (length text) (i + 1)) (eqb (digits text i) i) (λ _. tt)
      (λ e. let ne = eqb-false (digits text i) i e in
      ⊎_elim (λ h. absurd (ne (past_out is_digit text i h)))
      (λ h. let f = past_from is_digit text i in (strict i (digits text i) f ne, past_to is_digit text i (omega arith))) (le-or-lt (length text) i))
    where
      strict : (a b : ℕ) → a ≤ b → (b ≡ a → ⊥) → a + 1 ≤ b
      strict a b p q = ⊎_elim (λ h. absurd (q (omega arith))) (λ h. omega arith) (le-or-lt b a)

  weaker : (i j : ℕ) (x : Option ℕ) → i ≤ j → Reach (length text) j x → Reach (length text) i x
  unfolding Reach
  weaker i j None h r = tt
  weaker i j (Some d) h r = (omega arith, r.1)

  pub int-reach : (i : ℕ) → Reach (length text) (i + 1) (int_end text i)
  unfolding Reach int_end
  int-reach i = either (Reach (length text) (i + 1)) (eqb (byte_at text i) 0x30 && not (eqb (digits text i) (i + 1))) (λ _. tt) (λ _. some-reach i)

  pub frac-reach : (i : ℕ) → i ≤ length text → Reach (length text) i (frac_end text i)
  unfolding Reach frac_end
  frac-reach i h = either (Reach (length text) i) (eqb (byte_at text i) 0x2e)
      (λ _. weaker i (i + 1 + 1) (some (i + 1) (digits text (i + 1))) (omega arith) (some-reach (i + 1))) (λ _. (omega arith, h))

  signed-from : (i : ℕ) → i ≤ signed text i
  unfolding signed
  signed-from i = either (λ x. i ≤ x) (eqb (byte_at text i) 0x2b || eqb (byte_at text i) 0x2d) (λ _. omega arith) (λ _. omega arith)

  pub exp-reach : (i : ℕ) → i ≤ length text → Reach (length text) i (exp_end text i)
  unfolding Reach exp_end
  exp-reach i h =
      either (Reach (length text) i) (eqb (byte_at text i) 0x65 || eqb (byte_at text i) 0x45)
      (λ _. let f = signed-from (i + 1) in
      weaker i (signed text (i + 1) + 1) (some (signed text (i + 1)) (digits text (signed text (i + 1)))) (omega arith)
      (some-reach (signed text (i + 1)))) (λ _. (omega arith, h))

  pub minus-to : (i : ℕ) → after_minus text i ≤ i + 1
  minus-to i = either (λ x. x ≤ i + 1) (eqb (byte_at text i) 0x2d) (λ _. omega arith) (λ _. omega arith)

  pub minus-from : (i : ℕ) → i ≤ after_minus text i
  minus-from i = either (λ x. i ≤ x) (eqb (byte_at text i) 0x2d) (λ _. omega arith) (λ _. omega arith)
