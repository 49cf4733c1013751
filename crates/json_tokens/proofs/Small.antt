-- Escapes, and numbers by their parts. Assumes nothing.
use Rattle.std.specs.Prelude.{Option, Some, None}
use mathlib.Core.Path.{◌≡◌, refl, sym, ap, ◌∙◌}
use mathlib.Core.List.{List}
use mathlib.Core.Bool.{false, ◌||◌}
use Prim.Native.Nat.{ℕ, ◌+◌, ◌≤◌}
use lib.Dec.{ltb}
use borrow.Author.Tests.{ltb-false, eq-eqb, ne_eqb}
use Rattle.json_tokens.proofs.Texts.{or-false}
use Rattle.json_tokens.specs.Text.{end_of}
use Rattle.json_tokens.specs.Chars.{escape_of, escape_by}
use Rattle.json_tokens.proofs.Reaches.{end_then}
use Rattle.json_tokens.specs.Numbers.{int_end, frac_end, exp_end, number_at, after_minus}

pub record Small (a b c d : ℕ) : Type 0 where
  pub first : a ≤ 15
  pub second : b ≤ 15
  pub third : c ≤ 15
  pub fourth : d ≤ 15

pub small : (a b c d : ℕ) → (ltb 15 a || ltb 15 b) || (ltb 15 c || ltb 15 d) ≡ false → Small a b c d
small a b c d e =
    let p = or-false (ltb 15 a || ltb 15 b) (ltb 15 c || ltb 15 d) e in
    let q = or-false (ltb 15 a) (ltb 15 b) p.0 in
    let r = or-false (ltb 15 c) (ltb 15 d) p.1 in
    record { first = ltb-false 15 a q.0; second = ltb-false 15 b q.1; third = ltb-false 15 c r.0; fourth = ltb-false 15 d r.1 }

module _ (text : List ℕ) (i b e : ℕ) (p : b ≡ 0x75 → ⊥) (q : e ≡ escape_of b) where
  pub escape-none : e ≡ 0 → None ≡ escape_by text i b
  unfolding escape_by
  escape-none r = rw (ne_eqb b 0x75 p, eq-eqb (escape_of b) 0 (sym q ∙ r))

  pub escape-is : (e ≡ 0 → ⊥) → (Some (e, i + 1)) ≡ escape_by text i b
  unfolding escape_by
  escape-is r = rw (ne_eqb b 0x75 p, ne_eqb (escape_of b) 0 (λ z. r (q ∙ z))) (ap (λ (x : ℕ). (Some (x, i + 1))) q)

-- a number, by where its parts end
module _ (text : List ℕ) (i : ℕ) where
  pub number-no-int : None ≡ int_end text (after_minus text i) → None ≡ end_of (number_at text i)
  unfolding number_at end_of
  number-no-int h = rw (← h)

  pub number-no-frac : (d : ℕ) → Some d ≡ int_end text (after_minus text i) → None ≡ frac_end text d → None ≡ end_of (number_at text i)
  unfolding number_at end_of
  number-no-frac d h g = rw (← h, ← g)

  exp-same : {A : Type 0} (x : Option ℕ) (f : ℕ → A) → x ≡ end_of (end_then x (λ e. Some (f e, e)))
  unfolding end_of
  exp-same None f = refl
  exp-same (Some e) f = refl

  pub number-exp : (d f : ℕ) → Some d ≡ int_end text (after_minus text i) → Some f ≡ frac_end text d → exp_end text f ≡ end_of (number_at text i)
  unfolding number_at
  number-exp d f h g = rw (← h, ← g) (exp-same (exp_end text f) _)
