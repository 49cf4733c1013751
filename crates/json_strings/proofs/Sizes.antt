-- How many bytes a string has, and what is laid of them. Assumes nothing.
use mathlib.Core.Path.{◌≡◌, ap, ◌∙◌}
use mathlib.Core.List.{List, [], ◌∷◌, ◌++◌}
use Prim.Native.Nat.{ℕ, zero, suc, ◌+◌, ◌-◌, ◌*◌, ◌≤◌}
use native.Mathlib.Omega.{arith}
use lib.ListN.{length, take, drop, length-append, drop_of_length-le}
use Rattle.std.proofs.lemmas.List.{append-nil}
use lib.Dec.{eqb, ltb}
use Rattle.std.specs.Prelude.{Option, Some, None}
use Rattle.std.specs.Char.{encode_utf8}
use Rattle.conditions.proofs.Tests.{either}
use Rattle.json_tokens.specs.Text.{byte_at}
use Rattle.json_tokens.specs.Chars.{char_at}
use Rattle.json_walks.specs.Walks.{listed_then}
use Rattle.json_strings.specs.Texts.{lead_from, lead_chars, utf8_of}

lead-then : (n : ℕ) (p : Option (ℕ × ℕ)) (f : ℕ → List ℕ) → ((e : ℕ) → length (f e) ≤ n) → length (listed_then p f) ≤ suc n
unfolding listed_then
lead-then n None f h = omega arith
lead-then n (Some (u, e)) f h = omega (arith, h e)

lead-short : (n : ℕ) (text : List ℕ) (i : ℕ) → length (lead_from n text i) ≤ n
unfolding lead_from
lead-short zero text i = omega arith
lead-short (suc n) text i =
    either (λ (l : List ℕ). length l ≤ suc n) (eqb (byte_at text i) 0x22) (λ _. omega arith)
    (λ _. lead-then n (char_at text i) (lead_from n text) (lead-short n text))

code-short : (u : ℕ) → length (encode_utf8 u) ≤ 4
unfolding encode_utf8
code-short u =
    either (λ (l : List ℕ). length l ≤ 4) (ltb u 128) (λ _. omega arith)
    (λ _. either (λ (l : List ℕ). length l ≤ 4) (ltb u 2048) (λ _. omega arith)
    (λ _. either (λ (l : List ℕ). length l ≤ 4) (ltb u 65536) (λ _. omega arith) (λ _. omega arith)))

utf8-short : (l : List ℕ) → length (utf8_of l) ≤ 4 * length l
unfolding utf8_of
utf8-short [] = omega arith
utf8-short (u ∷ l) = omega (arith, utf8-short l, code-short u, length-append (encode_utf8 u) (utf8_of l))

pub bytes_bounded : (text : List ℕ) (i : ℕ) → length (utf8_of (lead_chars text i)) ≤ 4 * length text
unfolding lead_chars
bytes_bounded text i = omega (arith, utf8-short (lead_from (length text - i) text i), lead-short (length text - i) text i)

pub utf8-more : {l rest : List ℕ} {u : ℕ} → l ≡ u ∷ rest → utf8_of l ≡ encode_utf8 u ++ utf8_of rest
unfolding utf8_of
utf8-more {rest = rest} {u} e = ap utf8_of e

pub size-more : {l rest : List ℕ} {u : ℕ} → l ≡ u ∷ rest → length (utf8_of l) ≡ length (encode_utf8 u) + length (utf8_of rest)
size-more {rest = rest} {u} e = ap length (utf8-more e) ∙ length-append (encode_utf8 u) (utf8_of rest)

pub size-none : {l : List ℕ} → l ≡ [] → length (utf8_of l) ≡ 0
unfolding utf8_of
size-none e = ap (λ l. length (utf8_of l)) e

pub utf8-none : {l : List ℕ} → l ≡ [] → utf8_of l ≡ []
unfolding utf8_of
utf8-none e = ap utf8_of e

-- what is written over as many is the whole
pub laid_whole : (bytes out now : List ℕ) (n : ℕ) → length bytes ≡ n → length out ≡ n → now ≡ take 0 out ++ (bytes ++ drop (0 + length bytes) out) → now ≡ bytes
laid_whole bytes out now n p q h = h ∙ ap (λ l. bytes ++ l) (drop_of_length-le out (omega arith)) ∙ append-nil bytes

pub ruleset sizes = (bytes_bounded, size-more, size-none)
