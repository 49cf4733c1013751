-- What the readers of single things meet at each return. Assumes nothing.
use Rattle.std.specs.Prelude.{Some, None}
use mathlib.Core.Path.{◌≡◌, refl, sym, ap, ◌∙◌}
use mathlib.Core.List.{List}
use Prim.Native.Nat.{ℕ, ◌+◌}
use borrow.Author.Tests.{eq-eqb, ne_eqb}
use Rattle.json_values.specs.declared.Turn.TheVariants.{Done, Next, Bad}
use Rattle.json_tokens.specs.Text.{Got, end_of, and_then, byte_at, blanks}
use Rattle.json_values.specs.Grammar.{Json, string, number, opened_at, after_at, plain_by, colon_at, named_at}
use Rattle.json_tokens.specs.Strings.{string_at}
use Rattle.json_tokens.specs.Numbers.{number_at}
use Rattle.json_values.proofs.Series.{then-end, then-torn}

module _ (c : ℕ) (text : List ℕ) (i k b : ℕ) (p : k ≡ blanks text i) (q : b ≡ byte_at text k) where
  here : byte_at text (blanks text i) ≡ b
  here = sym (q ∙ ap (byte_at text) p)

  pub opened-done : b ≡ c → Done (k + 1) ≡ opened_at c text i
  unfolding opened_at
  opened-done r = rw (eq-eqb (byte_at text (blanks text i)) c (here ∙ r)) (ap (λ (x : ℕ). Done (x + 1)) p)

  pub opened-next : (b ≡ c → ⊥) → Next k ≡ opened_at c text i
  unfolding opened_at
  opened-next r = rw (ne_eqb (byte_at text (blanks text i)) c (λ z. r (sym here ∙ z))) (ap (λ (x : ℕ). Next x) p)

  pub after-done : b ≡ c → Done (k + 1) ≡ after_at c text i
  unfolding after_at
  after-done r = rw (eq-eqb (byte_at text (blanks text i)) c (here ∙ r)) (ap (λ (x : ℕ). Done (x + 1)) p)

  pub after_next : (b ≡ c → ⊥) → b ≡ 0x2c → (n : ℕ) → n ≡ blanks text (k + 1) → Next n ≡ after_at c text i
  unfolding after_at
  after_next r s n t =
      rw (ne_eqb (byte_at text (blanks text i)) c (λ z. r (sym here ∙ z)), eq-eqb (byte_at text (blanks text i)) 0x2c (here ∙ s))
      (ap (λ (x : ℕ). Next x) (t ∙ ap (λ (x : ℕ). blanks text (x + 1)) p))

  pub after-bad : (b ≡ c → ⊥) → (b ≡ 0x2c → ⊥) → Bad ≡ after_at c text i
  unfolding after_at
  after-bad r s = rw (ne_eqb (byte_at text (blanks text i)) c (λ z. r (sym here ∙ z)), ne_eqb (byte_at text (blanks text i)) 0x2c (λ z. s (sym here ∙ z)))

  pub colon-on : {A : Type 0} (a : A) (n : ℕ) → b ≡ 0x3a → n ≡ blanks text (k + 1) → end_of (colon_at text a i) ≡ Some n
  unfolding colon_at end_of
  colon-on a n r t = rw (eq-eqb (byte_at text (blanks text i)) 0x3a (here ∙ r)) (ap (λ (x : ℕ). Some x) (sym (t ∙ ap (λ (x : ℕ). blanks text (x + 1)) p)))

  pub colon-torn : {A : Type 0} (a : A) → (b ≡ 0x3a → ⊥) → end_of (colon_at text a i) ≡ None
  unfolding colon_at end_of
  colon-torn a r = rw (ne_eqb (byte_at text (blanks text i)) 0x3a (λ z. r (sym here ∙ z)))

module _ (text : List ℕ) (i : ℕ) where
  pub named_none : None ≡ end_of (string_at text i) → None ≡ end_of (named_at text i)
  unfolding named_at
  named_none h = sym (then-torn (string_at text i) (colon_at text) h)

  pub named-torn : (e k b : ℕ) → Some e ≡ end_of (string_at text i) → k ≡ blanks text e → b ≡ byte_at text k → (b ≡ 0x3a → ⊥) → None ≡ end_of (named_at text i)
  unfolding named_at
  named-torn e k b h p q r = sym (then-end (string_at text i) (colon_at text) None e h (λ a. colon-torn 0 text e k b p q a r))

  pub named-on : (e k b n : ℕ) → Some e ≡ end_of (string_at text i) → k ≡ blanks text e → b ≡ byte_at text k → b ≡ 0x3a → n ≡ blanks text (k + 1)
      → Some n ≡ end_of (named_at text i)
  unfolding named_at
  named-on e k b n h p q r t = sym (then-end (string_at text i) (colon_at text) (Some n) e h (λ a. colon-on 0 text e k b p q a n r t))

  -- the end of a token is the end of its value
  same_end : {A : Type 0} (g : Got A) (f : A → Json) → end_of (and_then g (λ a e. Some (f a, e))) ≡ end_of g
  unfolding and_then end_of
  same_end None f = refl
  same_end (Some (a, e)) f = refl

  pub plain_string : (b : ℕ) → b ≡ 0x22 → end_of (string_at text i) ≡ end_of (plain_by text i b)
  unfolding plain_by
  plain_string b e = rw (eq-eqb b 0x22 e) (sym (same_end (string_at text i) string))

  pub plain_number : (b : ℕ) → (b ≡ 0x22 → ⊥) → (b ≡ 0x74 → ⊥) → (b ≡ 0x66 → ⊥) → (b ≡ 0x6e → ⊥) → end_of (number_at text i) ≡ end_of (plain_by text i b)
  unfolding plain_by
  plain_number b p q r s = rw (ne_eqb b 0x22 p, ne_eqb b 0x74 q, ne_eqb b 0x66 r, ne_eqb b 0x6e s) (sym (same_end (number_at text i) number))
