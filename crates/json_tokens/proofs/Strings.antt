-- A string, character by character: each character lies further on, and so the characters from i on need no count. Assumes nothing.
use Rattle.std.specs.Prelude.{Option, Some, None}
use mathlib.Core.Path.{◌≡◌, refl, sym, ap, ◌∙◌}
use mathlib.Core.Bool.{true, true≢false, not, ◌||◌, ◌&&◌}
use mathlib.Core.List.{List, []}
use Prim.Native.Nat.{ℕ, zero, suc, ◌+◌, ◌-◌, ◌*◌, ◌/◌, ◌%◌, ◌≤◌, ◌<◌}
use native.Mathlib.Omega.{arith}
use Rattle.std.proofs.lemmas.Bool.Decides.{nat_tests}
use lib.ListN.{length}
use lib.Dec.{eqb, ltb}
use borrow.Author.Tests.{eq-eqb, ne_eqb}
use Rattle.std.specs.Prelude.{if◌then◌else◌}
use Rattle.conditions.proofs.Tests.{either}
use Rattle.json_tokens.specs.Text.{byte_at, Got, end_of}
use Rattle.json_tokens.specs.Chars.{escape_of, unit_at, pair_of, unit_by, escape_by, is_tail, two_of, three_by, three_of, four_by, four_of, many_by, is_plain}
use Rattle.json_tokens.specs.Chars.{char_by, char_at}
use Rattle.json_tokens.specs.Strings.{cons, char_then, chars_from, chars_at, string_at}
use Rattle.json_tokens.proofs.Texts.{past_end}

-- a character at or after i ends after i
unfoldable pub Onward : ℕ → Option (ℕ × ℕ) → Type 0
Onward i None = Unit
Onward i ((Some (u, e))) = i < e

module _ (text : List ℕ) (k i : ℕ) (h : k < i) where
  pair-on : (u b c low : ℕ) → Onward k (pair_of u b c low i)
  unfolding Onward pair_of
  pair-on u b c low = either (Onward k) (((not (eqb b 0x5c)) || (not (eqb c 0x75))) || ((ltb low 0xdc00) || (ltb 0xdfff low))) (λ _. tt) (λ _. omega arith)

  unit-on : (u : ℕ) → Onward k (unit_by text u i)
  unfolding Onward unit_by
  unit-on u =
      either (Onward k) (ltb 0xffff u) (λ _. tt) (λ _. either (Onward k) (ltb u 0xd800) (λ _. omega arith)
      (λ _. either (Onward k) (ltb u 0xdc00) (λ _. pair-on u (byte_at text i) (byte_at text (i + 1)) (unit_at text (i + 2)))
      (λ _. either (Onward k) (ltb u 0xe000) (λ _. tt) (λ _. omega arith))))

escape-on : (text : List ℕ) (i b : ℕ) → Onward i (escape_by text (i + 1) b)
unfolding Onward escape_by
escape-on text i b =
    either (Onward i) (eqb b 0x75) (λ _. unit-on text i (i + 1 + 5) (omega arith) (unit_at text (i + 1 + 1)))
    (λ _. either (Onward i) (eqb (escape_of b) 0) (λ _. tt) (λ _. omega arith))

module _ (i : ℕ) where
  two-on : (b c : ℕ) → Onward i (two_of b c i)
  unfolding Onward two_of
  two-on b c = either (Onward i) (is_tail c) (λ _. omega arith) (λ _. tt)

  three-on : (b c d : ℕ) → Onward i (three_of b c d i)
  unfolding Onward three_of three_by
  three-on b c d =
      let u : ℕ = (b % 16 * 64 + c % 64) * 64 + d % 64 in
      either (Onward i) (is_tail c && is_tail d) (λ _. either (Onward i) (ltb u 0x800 || eqb (u / 0x800) 27) (λ _. tt) (λ _. omega arith)) (λ _. tt)

  four-on : (b c d e : ℕ) → Onward i (four_of b c d e i)
  unfolding Onward four_of four_by
  four-on b c d e =
      let u : ℕ = ((b % 8 * 64 + c % 64) * 64 + d % 64) * 64 + e % 64 in
      either (Onward i) (is_tail c && (is_tail d && is_tail e)) (λ _. either (Onward i) (ltb u 0x10000 || ltb 0x10ffff u) (λ _. tt) (λ _. omega arith))
      (λ _. tt)

pub char-on : (text : List ℕ) (i b : ℕ) → Onward i (char_by text i b)
unfolding Onward char_by many_by
char-on text i b =
    either (Onward i) (ltb b 0x20) (λ _. tt)
    (λ _. either (Onward i) (eqb b 0x5c) (λ _. escape-on text i (byte_at text (i + 1)))
    (λ _. either (Onward i) (ltb b 0x80) (λ _. omega arith)
    (λ _. either (Onward i) (ltb b 0xc2) (λ _. tt)
    (λ _. either (Onward i) (ltb b 0xe0) (λ _. two-on i b (byte_at text (i + 1)))
    (λ _. either (Onward i) (ltb b 0xf0) (λ _. three-on i b (byte_at text (i + 1)) (byte_at text (i + 2)))
    (λ _. either (Onward i) (ltb b 0xf5) (λ _. four-on i b (byte_at text (i + 1)) (byte_at text (i + 2)) (byte_at text (i + 3)))
    (λ _. tt)))))))

-- a plain byte is a character
pub plain_char : (text : List ℕ) (i b : ℕ) → is_plain b ≡ true → char_by text i b ≡ Some (b, i + 1)
unfolding char_by
plain_char text i b h = grind (arith, nat_tests)

-- and no quotation mark
pub plain-quote : (b : ℕ) → is_plain b ≡ true → b ≡ 0x22 → ⊥
plain-quote b h q = absurd (true≢false (sym h ∙ rw q))

char-same : (i : ℕ) (p : Option (ℕ × ℕ)) (f g : ℕ → Got (List ℕ)) → Onward i p → ((e : ℕ) → i < e → f e ≡ g e) → char_then p f ≡ char_then p g
unfolding Onward char_then
char-same i None f g h q = refl
char-same i ((Some (u, e))) f g h q = ap (cons u) (q e h)

-- no character, and no quotation mark, stands past the end
pub out : (n : ℕ) (text : List ℕ) (i : ℕ) → length text ≤ i → chars_from n text i ≡ None
unfolding chars_from char_then char_by
out zero text i h = refl
out (suc n) text i h = rw (past_end text i h)

enough : (m n : ℕ) (text : List ℕ) (i : ℕ) → length text ≤ m + i → length text ≤ n + i → chars_from m text i ≡ chars_from n text i
unfolding chars_from
enough zero n text i p q = sym (out n text i (omega arith))
enough (suc m) zero text i p q = out (suc m) text i (omega arith)
enough (suc m) (suc n) text i p q =
    ap (λ (x : Got (List ℕ)). if eqb (byte_at text i) 0x22 then Some ([], i + 1) else x)
    (char-same i (char_at text i) (chars_from m text) (chars_from n text) (char-on text i (byte_at text i))
    (λ e h. enough m n text e (omega arith) (omega arith)))

pub unrolled : (text : List ℕ) (i : ℕ) → chars_at text i ≡ (if eqb (byte_at text i) 0x22 then Some ([], i + 1) else char_then (char_at text i) (chars_at text))
unfolding chars_at chars_from
unrolled text i =
    enough (length text - i) (suc (length text)) text i (omega arith) (omega arith)
    ∙ ap (λ (x : Got (List ℕ)). if eqb (byte_at text i) 0x22 then Some ([], i + 1) else x)
    (char-same i (char_at text i) (chars_from (length text) text) (chars_at text) (char-on text i (byte_at text i))
    (λ e h. enough (length text) (length text - e) text e (omega arith) (omega arith)))

end-cons : {A : Type 0} (a : A) (g : Got (List A)) → end_of (cons a g) ≡ end_of g
unfolding cons end_of
end-cons a None = refl
end-cons a (Some (l, e)) = refl

-- what the loop meets: its invariant is `end_of (chars_at text i) ≡ x`, with x the whole answer
module _ (text : List ℕ) (i : ℕ) {x : Option ℕ} where
  pub chars-out : length text ≤ i → end_of (chars_at text i) ≡ x → None ≡ x
  unfolding chars_at end_of
  chars-out h inv = sym (ap end_of (out (length text - i) text i h)) ∙ inv

  pub chars-close : byte_at text i ≡ 0x22 → end_of (chars_at text i) ≡ x → Some (i + 1) ≡ x
  unfolding end_of
  chars-close e inv = sym (ap end_of (unrolled text i) ∙ rw (eq-eqb (byte_at text i) 0x22 e)) ∙ inv

  module _ (q : byte_at text i ≡ 0x22 → ⊥) where
    pub chars-bad : None ≡ char_at text i → end_of (chars_at text i) ≡ x → None ≡ x
    unfolding end_of char_then
    chars-bad h inv = sym (ap end_of (unrolled text i) ∙ rw (ne_eqb (byte_at text i) 0x22 q, ← h)) ∙ inv

    pub chars-on : (u e : ℕ) → (Some (u, e)) ≡ char_at text i → end_of (chars_at text i) ≡ x → end_of (chars_at text e) ≡ x
    unfolding char_then
    chars-on u e h inv = sym (ap end_of (unrolled text i) ∙ rw (ne_eqb (byte_at text i) 0x22 q, ← h) (end-cons u (chars_at text e))) ∙ inv

  pub chars-plain : is_plain (byte_at text i) ≡ true → end_of (chars_at text i) ≡ x → end_of (chars_at text (i + 1)) ≡ x
  chars-plain h = chars-on (plain-quote (byte_at text i) h) (byte_at text i) (i + 1) (sym (plain_char text i (byte_at text i) h))

module _ (text : List ℕ) (i : ℕ) where
  pub string-none : (byte_at text i ≡ 0x22 → ⊥) → None ≡ end_of (string_at text i)
  unfolding string_at end_of
  string-none q = rw (ne_eqb (byte_at text i) 0x22 q)

  pub string-start : byte_at text i ≡ 0x22 → end_of (chars_at text (i + 1)) ≡ end_of (string_at text i)
  unfolding string_at
  string-start q = rw (eq-eqb (byte_at text i) 0x22 q)

  onward-is : (u e : ℕ) (p : Option (ℕ × ℕ)) → Onward i p → (Some (u, e)) ≡ p → i < e
  unfolding Onward
  onward-is u e None h q = let z : ◌≡◌ {A = ℕ} 0 1 = cc in absurd (omega arith)
  onward-is u e (Some (w, f)) h q = let z : ◌≡◌ {A = ℕ × ℕ} (u, e) (w, f) = cc in let y : e ≡ f = ap (λ (p : ℕ × ℕ). p.1) z in omega (arith, h, y)

  pub char-falls : (u e : ℕ) → (Some (u, e)) ≡ char_at text i → i < e
  char-falls u e h = onward-is u e (char_at text i) (char-on text i (byte_at text i)) h
