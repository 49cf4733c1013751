-- A name beside a key, character by character. The loop's invariant is `is_key (drop k key) (chars_at text i) ≡ x`, with x the whole answer. Assumes nothing.
use Rattle.std.specs.Prelude.{Option, Some, None}
use mathlib.Core.Path.{◌≡◌, refl, sym, ap, ◌∙◌}
use mathlib.Core.Bool.{Bool, false, ◌&&◌}
use mathlib.Core.List.{List, [], ◌∷◌}
use Prim.Native.Nat.{ℕ, suc, ◌+◌, ◌-◌, ◌≤◌, ◌<◌}
use native.Mathlib.Omega.{arith}
use native.Mathlib.Numerals.{add-one}
use lib.ListN.{length, get_or, drop, drop_of_length-le, length-drop}
use lib.Seq.{drop-cons}
use lib.Dec.{eqb}
use borrow.Author.Tests.{eq-eqb, ne_eqb}
use Rattle.json_tokens.specs.Text.{byte_at, Got}
use Rattle.json_tokens.specs.Chars.{char_at}
use Rattle.json_tokens.specs.Strings.{cons, char_then, chars_at, string_at}
use Rattle.json_tokens.proofs.Strings.{unrolled, out}
use Rattle.conditions.proofs.Tests.{and-false, le-or-lt}
use mathlib.Core.Logic.{⊎_elim}
use Rattle.json_fields.specs.Fields.{same, is_key}

key-cons : (u w : ℕ) (key : List ℕ) (g : Got (List ℕ)) → is_key (w ∷ key) (cons u g) ≡ (eqb u w && is_key key g)
unfolding is_key cons
key-cons u w key None = sym (and-false (eqb u w))
key-cons u w key (Some (l, e)) = refl

key-none : (u : ℕ) (g : Got (List ℕ)) → is_key [] (cons u g) ≡ false
unfolding is_key cons
key-none u None = refl
key-none u (Some (l, e)) = refl

key-short : (p : Option (ℕ × ℕ)) (f : ℕ → Got (List ℕ)) → is_key [] (char_then p f) ≡ false
unfolding char_then is_key
key-short None f = refl
key-short (Some (u, e)) f = key-none u (f e)

-- nothing is left of a key exactly where it is used up
used : (l : List ℕ) → same [] l ≡ eqb (length l) 0
used [] = refl
used (w ∷ l) = sym (ne_eqb (suc (length l)) 0 (λ z. absurd (omega arith)))

module _ (text : List ℕ) (i : ℕ) (key : List ℕ) (k : ℕ) {x : Bool} (inv : is_key (drop k key) (chars_at text i) ≡ x) where
  pub key-out : length text ≤ i → false ≡ x
  unfolding is_key chars_at
  key-out h = sym (ap (is_key (drop k key)) (out (length text - i) text i h)) ∙ inv

  close-same : byte_at text i ≡ 0x22 → same [] (drop k key) ≡ x
  unfolding is_key
  close-same e = sym (ap (is_key (drop k key)) (unrolled text i) ∙ rw (eq-eqb (byte_at text i) 0x22 e)) ∙ inv

  pub key-close : byte_at text i ≡ 0x22 → k ≤ length key → eqb k (length key) ≡ x
  key-close e h =
      ⊎_elim
      (λ (d : length key ≤ k). eq-eqb k (length key) (omega arith) ∙ sym (used (drop k key) ∙ eq-eqb (length (drop k key)) 0 (omega (arith, length-drop k key))) ∙ close-same e)
      (λ (d : k < length key). ne_eqb k (length key) (λ z. omega arith) ∙ sym (used (drop k key) ∙ ne_eqb (length (drop k key)) 0 (λ z. omega (arith, length-drop k key))) ∙ close-same e)
      (le-or-lt (length key) k)

  module _ (q : byte_at text i ≡ 0x22 → ⊥) where
    here : is_key (drop k key) (char_then (char_at text i) (chars_at text)) ≡ x
    here = sym (ap (is_key (drop k key)) (unrolled text i) ∙ rw (ne_eqb (byte_at text i) 0x22 q)) ∙ inv

    pub key-bad : None ≡ char_at text i → false ≡ x
    unfolding is_key char_then
    key-bad h = sym (ap (λ (p : Option (ℕ × ℕ)). is_key (drop k key) (char_then p (chars_at text))) (sym h)) ∙ here

    pub key-long : length key ≤ k → false ≡ x
    key-long h = sym (ap (λ (l : List ℕ). is_key l (char_then (char_at text i) (chars_at text))) (drop_of_length-le key h) ∙ key-short (char_at text i) (chars_at text)) ∙ here

    module _ (u e : ℕ) (h : (Some (u, e)) ≡ char_at text i) (l : k < length key) where
      step : (eqb u (get_or key k 0) && is_key (drop (k + 1) key) (chars_at text e)) ≡ x
      unfolding char_then
      step =
          sym (ap (λ (p : Option (ℕ × ℕ)). is_key (drop k key) (char_then p (chars_at text))) (sym h)
          ∙ ap (λ (z : List ℕ). is_key z (cons u (chars_at text e))) (drop-cons key k 0 l)
          ∙ key-cons u (get_or key k 0) (drop (suc k) key) (chars_at text e)
          ∙ rw add-one) ∙ here

      pub key-other : (u ≡ get_or key k 0 → ⊥) → false ≡ x
      key-other d = sym (rw (ne_eqb u (get_or key k 0) d)) ∙ step

      pub key-on : u ≡ get_or key k 0 → is_key (drop (k + 1) key) (chars_at text e) ≡ x
      key-on d = sym (rw (eq-eqb u (get_or key k 0) d)) ∙ step

module _ (text : List ℕ) (i : ℕ) (key : List ℕ) where
  pub key-not : (byte_at text i ≡ 0x22 → ⊥) → false ≡ is_key key (string_at text i)
  unfolding string_at is_key
  key-not q = rw (ne_eqb (byte_at text i) 0x22 q)

  pub key-start : byte_at text i ≡ 0x22 → is_key key (chars_at text (i + 1)) ≡ is_key key (string_at text i)
  unfolding string_at
  key-start q = rw (eq-eqb (byte_at text i) 0x22 q)
