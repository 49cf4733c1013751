-- A number that was read, by its sign, its end and its digits. Assumes nothing.
use Rattle.std.specs.Prelude.{Option, Some, None}
use mathlib.Core.Path.{◌≡◌, refl, sym, ap, ◌∙◌}
use mathlib.Core.Bool.{Bool, not, ◌&&◌}
use mathlib.Core.List.{List}
use Prim.Native.Nat.{ℕ, ◌+◌, ◌≤◌, ◌<◌}
use native.Mathlib.Omega.{arith}
use lib.ListN.{length}
use lib.Dec.{eqb}
use borrow.Author.Tests.{eq-eqb, ne_eqb}
use Rattle.conditions.proofs.Tests.{either}
use Rattle.json_tokens.specs.Text.{byte_at, digits, Got, end_of, is_digit}
use Rattle.json_tokens.specs.Numbers.{Figure, some, int_end, frac_end, exp_end, decimal, number_at, after_minus}
use Rattle.json_tokens.proofs.Reaches.{end_then}
use Rattle.json_tokens.proofs.Texts.{past_from}
use Rattle.json_values.proofs.Values.{number-ends}
use Rattle.json_values.proofs.Series.{Ends}
use Rattle.json_values.proofs.Loops.{ends_at}
use Rattle.json_fields.specs.Whole.{fitting, span, whole_of, whole_in}

-- an int ends where its digits do
unfoldable EndsAt : ℕ → Option ℕ → Type 0
EndsAt d None = Unit
EndsAt d (Some e) = e ≡ d

int-digits : (text : List ℕ) (i : ℕ) → EndsAt (digits text i) (int_end text i)
unfolding EndsAt int_end some
int-digits text i =
    either (EndsAt (digits text i)) (eqb (byte_at text i) 0x30 && not (eqb (digits text i) (i + 1))) (λ _. tt)
    (λ _. either (EndsAt (digits text i)) (eqb (digits text i) i) (λ _. tt) (λ _. refl))

module _ (text : List ℕ) (i : ℕ) where
  -- what was read of a number that ends at e
  abbrev pub figure : ℕ → Figure
  figure e = record {
    minus = eqb (byte_at text i) 0x2d;
    plain = eqb e (digits text (after_minus text i));
    int = decimal 0 (span text (after_minus text i) (digits text (after_minus text i)));
  }

  abbrev by : ℕ → ℕ → Figure
  by d e = record { minus = eqb (byte_at text i) 0x2d; plain = eqb e d; int = decimal 0 (span text (after_minus text i) d) }

  module _ (e : ℕ) where
    exp-is : (d : ℕ) (y : Option ℕ) → Some e ≡ end_of {A = Figure} (end_then y (λ e. Some (by d e, e))) → end_then {A = Figure} y (λ e. Some (by d e, e)) ≡ Some (by d e, e)
    unfolding end_of
    exp-is d None h = let z : ◌≡◌ {A = ℕ} 0 1 = cc in absurd (omega arith)
    exp-is d (Some f) h = let z : f ≡ e = cc in rw z

    frac-is : (d : ℕ) (y : Option ℕ) → Some e ≡ end_of {A = Figure} (end_then y (λ f. end_then (exp_end text f) (λ e. Some (by d e, e))))
        → end_then {A = Figure} y (λ f. end_then (exp_end text f) (λ e. Some (by d e, e))) ≡ Some (by d e, e)
    unfolding end_of
    frac-is d None h = let z : ◌≡◌ {A = ℕ} 0 1 = cc in absurd (omega arith)
    frac-is d (Some f) h = exp-is d (exp_end text f) h

    int_is : (x : Option ℕ) → EndsAt (digits text (after_minus text i)) x
        → Some e ≡ end_of {A = Figure} (end_then x (λ d. end_then (frac_end text d) (λ f. end_then (exp_end text f) (λ e. Some (by d e, e)))))
        → end_then {A = Figure} x (λ d. end_then (frac_end text d) (λ f. end_then (exp_end text f) (λ e. Some (by d e, e)))) ≡ Some (figure e, e)
    unfolding EndsAt end_of
    int_is None s h = let z : ◌≡◌ {A = ℕ} 0 1 = cc in absurd (omega arith)
    int_is (Some d) s h = rw (← s) (frac-is d (frac_end text d) h)

    pub number-is : Some e ≡ end_of (number_at text i) → number_at text i ≡ Some (figure e, e)
    unfolding number_at
    number-is h = int_is (int_end text (after_minus text i)) (int-digits text (after_minus text i)) h

    -- digits that end where the number does
    pub digits-within : (from d : ℕ) → from ≡ after_minus text i → d ≡ digits text from → e ≡ d → Some e ≡ end_of (number_at text i) → (from ≤ d) × (d ≤ length text)
    digits-within from d p q r h =
        let b = ends_at (length text) i e (number_at text i) (number-ends text i) h in
        let a = past_from is_digit text from in (omega arith, omega (arith, b.1))

    pub whole-other : (from d : ℕ) → from ≡ after_minus text i → d ≡ digits text from → Some e ≡ end_of (number_at text i) → (e ≡ d → ⊥) → None ≡ whole_in (number_at text i)
    unfolding whole_in whole_of
    whole-other from d p q h n = rw (number-is h, ne_eqb e (digits text (after_minus text i)) (λ z. n (z ∙ sym (q ∙ ap (digits text) p))))

    module _ (from d : ℕ) (p : from ≡ after_minus text i) (q : d ≡ digits text from) (h : Some e ≡ end_of (number_at text i)) (r : e ≡ d) where
      span-is : span text (after_minus text i) (digits text (after_minus text i)) ≡ span text from d
      span-is = rw (q, p)

      pub whole-large : None ≡ fitting (decimal 0 (span text from d)) → None ≡ whole_in (number_at text i)
      unfolding whole_in whole_of
      whole-large f = rw (number-is h, eq-eqb e (digits text (after_minus text i)) (r ∙ q ∙ ap (digits text) p), span-is, ← f)

      pub whole-fits : (n b : ℕ) (m : Bool) → Some n ≡ fitting (decimal 0 (span text from d)) → m ≡ eqb b 0x2d → b ≡ byte_at text i → Some (record { negative = m; size = n }) ≡ whole_in (number_at text i)
      unfolding whole_in whole_of
      whole-fits n b m f s t = rw (number-is h, eq-eqb e (digits text (after_minus text i)) (r ∙ q ∙ ap (digits text) p), span-is, ← f, s, t)

none-not : (g : Got Figure) → None ≡ end_of g → None ≡ whole_in g
unfolding end_of whole_in
none-not None q = refl
none-not (Some (f, e)) q = let z : ◌≡◌ {A = ℕ} 0 1 = cc in absurd (omega arith)

-- nothing stands past the end
none-past : (len i : ℕ) (g : Got Figure) → Ends len i g → len ≤ i → None ≡ whole_in g
unfolding Ends whole_in
none-past len i None x h = refl
none-past len i (Some (f, e)) x h = absurd (omega (arith, x.0, x.1))

pub whole-none : (text : List ℕ) (i : ℕ) → None ≡ end_of (number_at text i) → None ≡ whole_in (number_at text i)
whole-none text i h = none-not (number_at text i) h

pub whole-past : (text : List ℕ) (i : ℕ) → length text < i → None ≡ whole_in (number_at text i)
whole-past text i h = none-past (length text) i (number_at text i) (number-ends text i) (omega arith)

pub ruleset wholes = (whole-past, whole-none, whole-other, whole-large, whole-fits, digits-within)
