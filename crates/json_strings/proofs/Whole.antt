-- A string that stands in a text has the characters that a walk over it gives. Assumes nothing.
use Rattle.std.specs.Prelude.{Option, Some, None, Ok, if◌then◌else◌}
use mathlib.Core.Path.{◌≡◌, refl, sym, ap, ◌∙◌}
use mathlib.Core.Bool.{Bool, true, false}
use mathlib.Core.List.{List, [], ◌∷◌}
use Prim.Native.Nat.{ℕ, zero, suc, ◌+◌, ◌-◌}
use native.Mathlib.Omega.{arith}
use lib.ListN.{length}
use lib.Dec.{eqb}
use Rattle.json_tokens.specs.Text.{byte_at, Got, end_of}
use Rattle.json_tokens.specs.Chars.{char_at}
use Rattle.json_tokens.specs.Strings.{string_at, chars_from, chars_at, char_then, cons}
use Rattle.json_walks.specs.Walks.{listed_then}
use Rattle.json_strings.specs.Texts.{lead_from, lead_chars, utf8_of, string_bytes}
use Rattle.json_strings.specs.Reading.{bytes_of}

abbrev list-of : Got (List ℕ) → List ℕ
list-of None = []
list-of (Some (l, e)) = l

none-some : {A : Type 0} (l : List ℕ) (e : ℕ) → ◌≡◌ {A = Got (List ℕ)} None (Some (l, e)) → A
none-some l e q = let z : ◌≡◌ {A = ℕ} 0 1 = cc in absurd (omega arith)

module _ (text : List ℕ) where
  -- what a walk gives, and what stands there
  abbrev Same : List ℕ → Got (List ℕ) → Type 0
  Same k g = (l : List ℕ) (e : ℕ) → g ≡ Some (l, e) → k ≡ l

  same-cons : (u : ℕ) (k : List ℕ) (g : Got (List ℕ)) → Same k g → Same (u ∷ k) (cons u g)
  unfolding cons
  same-cons u k None h = λ l e q. none-some l e q
  same-cons u k (Some (l', e')) h = λ l e q. ap (λ m. u ∷ m) (h l' e' refl) ∙ ap list-of q

  same-char : (g : Option (ℕ × ℕ)) (k : ℕ → List ℕ) (f : ℕ → Got (List ℕ)) → ((e : ℕ) → Same (k e) (f e)) → Same (listed_then g k) (char_then g f)
  unfolding listed_then char_then
  same-char None k f h = λ l e q. none-some l e q
  same-char (Some (u, e)) k f h = same-cons u (k e) (f e) (h e)

  same-if : (b : Bool) (i : ℕ) (k : List ℕ) (g : Got (List ℕ)) → Same k g → Same (if b then [] else k) (if b then Some ([], i) else g)
  same-if true i k g h = λ l e q. ap list-of q
  same-if false i k g h = h

  lead-is : (n i : ℕ) → Same (lead_from n text i) (chars_from n text i)
  unfolding lead_from chars_from
  lead-is zero i = λ l e q. none-some l e q
  lead-is (suc n) i = same-if (eqb (byte_at text i) 0x22) (i + 1) (listed_then (char_at text i) (lead_from n text)) (char_then (char_at text i) (chars_from n text)) (same-char (char_at text i) (lead_from n text) (chars_from n text) (lead-is n))

  string-if : (b : Bool) (i : ℕ) → Same (lead_chars text i) (if b then chars_at text i else None)
  unfolding chars_at lead_chars
  string-if true i = lead-is (length text - i) i
  string-if false i = λ l e q. none-some l e q

  pub chars_is : (at e : ℕ) (s : List ℕ) → string_at text at ≡ Some (s, e) → lead_chars text (at + 1) ≡ s
  unfolding string_at
  chars_is at e s q = string-if (eqb (byte_at text at) 0x22) (at + 1) s e q

  some-bytes : (at : ℕ) (g : Got (List ℕ)) (e : ℕ) → string_at text at ≡ g → end_of g ≡ Some e → bytes_of g ≡ Ok (string_bytes text at)
  unfolding bytes_of end_of
  some-bytes at None e q h = let z : ◌≡◌ {A = ℕ} 0 1 = cc in absurd (omega arith)
  some-bytes at (Some (s, k)) e q h = ap (λ l. Ok (utf8_of l)) (sym (chars_is at k s q))

  -- a string stands there
  pub bytes_is : (at e : ℕ) → Some e ≡ end_of (string_at text at) → bytes_of (string_at text at) ≡ Ok (string_bytes text at)
  bytes_is at e h = some-bytes at (string_at text at) e refl (sym h)

no-bytes : (g : Got (List ℕ)) → None ≡ end_of g → g ≡ None
unfolding end_of
no-bytes None h = refl
no-bytes (Some (s, e)) h = let z : ◌≡◌ {A = ℕ} 0 1 = cc in absurd (omega arith)

-- none does
pub no_string : (text : List ℕ) (at : ℕ) → None ≡ end_of (string_at text at) → string_at text at ≡ None
no_string text at h = no-bytes (string_at text at) h

pub ruleset whole = (bytes_is, no_string)
