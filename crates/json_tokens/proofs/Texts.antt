-- Bytes by offset, and the offset after a run of bytes. Assumes nothing.
use mathlib.Core.Path.{◌≡◌, refl, sym, ap, ◌∙◌}
use mathlib.Core.Bool.{Bool, true, false, true≢false, ◌||◌, ◌&&◌}
use mathlib.Core.List.{List, [], ◌∷◌}
use Prim.Native.Nat.{ℕ, ◌+◌, ◌≤◌, ◌<◌}
use native.Mathlib.Numerals.{add-one}
use native.Mathlib.Omega.{arith}
use lib.ListN.{length, drop, get_or-eq_default, drop_of_length-le, length-drop}
use lib.Seq.{drop-cons}
use Rattle.conditions.proofs.Tests.{le-or-lt, decide}
use mathlib.Core.Logic.{⊎_elim}
use Rattle.json_tokens.specs.Text.{byte_at, lead, past}

-- what a disjunction that fails says of its parts, and a conjunction that holds of its second
pub or-false : (a b : Bool) → a || b ≡ false → (a ≡ false) × (b ≡ false)
or-false true b e = absurd (true≢false e)
or-false false b e = (refl, e)

pub and_right : (a b : Bool) → a && b ≡ true → b ≡ true
and_right true b e = e
and_right false b e = absurd (true≢false (sym e))

pub past_end : (text : List ℕ) (i : ℕ) → length text ≤ i → byte_at text i ≡ 0
past_end text i h = get_or-eq_default text 0 h

-- a byte that is no 0 lies in the text
pub lies : (text : List ℕ) (i : ℕ) → (byte_at text i ≡ 0 → ⊥) → i < length text
lies text i h = ⊎_elim (λ a. absurd (h (past_end text i a))) (λ a. a) (le-or-lt (length text) i)

module _ (p : ℕ → Bool) (text : List ℕ) where
  pub past_turn : (k : ℕ) → k < length text → p (byte_at text k) ≡ true → past p text k ≡ past p text (k + 1)
  unfolding past lead
  past_turn k h e = ap (λ (s : List ℕ). k + lead p s) (drop-cons text k 0 h) ∙ rw (e, add-one) (omega arith)

  pub past_stop : (k : ℕ) → k < length text → p (byte_at text k) ≡ false → past p text k ≡ k
  unfolding past lead
  past_stop k h e = ap (λ (s : List ℕ). k + lead p s) (drop-cons text k 0 h) ∙ rw e (omega arith)

  pub past_out : (k : ℕ) → length text ≤ k → past p text k ≡ k
  unfolding past lead
  past_out k h = ap (λ (s : List ℕ). k + lead p s) (drop_of_length-le text h) ∙ omega arith

  pub past_from : (k : ℕ) → k ≤ past p text k
  unfolding past
  past_from k = omega arith

lead-len : (p : ℕ → Bool) (s : List ℕ) → lead p s ≤ length s
unfolding lead
lead-len p [] = omega arith
lead-len p (b ∷ s) = let h = lead-len p s in decide (p b) (λ e. rw e (omega arith)) (λ e. rw e (omega arith))

pub past_to : (p : ℕ → Bool) (text : List ℕ) (k : ℕ) → k ≤ length text → past p text k ≤ length text
unfolding past
past_to p text k h = omega (arith, lead-len p (drop k text), length-drop k text)

-- the same, of a byte that was read
pub stands : (text : List ℕ) (i b : ℕ) → b ≡ byte_at text i → 0 < b → i < length text
stands text i b e h = lies text i (λ z. omega arith)
