-- A member that is read has a name, which is the one that stands where it does. Assumes nothing.
use Rattle.std.specs.Prelude.{Option, Some, None, nat_eq, map, if◌then◌else◌}
use mathlib.Core.Path.{◌≡◌, refl, ap, ◌∙◌}
use mathlib.Core.Bool.{Bool, true, false, ◌||◌}
use mathlib.Core.List.{List, [], ◌∷◌}
use Prim.Native.Nat.{ℕ, zero, suc, ◌+◌, ◌-◌, ◌≤◌, ◌<◌}
use lib.ListN.{length}
use lib.Dec.{eqb}
use Rattle.std.specs.Cmp.Lexicographic.{pointwise}
use Rattle.std.specs.List.{list_any}
use Rattle.std.proofs.lemmas.Map.Text.{is_eq-slice_cmp}
use Rattle.json_tokens.specs.Text.{byte_at, blanks, Got, end_of, and_then}
use Rattle.json_tokens.specs.Chars.{char_at}
use Rattle.json_tokens.specs.Strings.{string_at, chars_from, chars_at, char_then, cons}
use Rattle.json_values.specs.Grammar.{named_at, colon_at, value_at}
use Rattle.json_values.proofs.Loops.{ends_at}
use Rattle.json_values.proofs.Values.{named-long, value-ends}
use Rattle.json_walks.specs.Walks.{listed_then}
use Rattle.json_strings.specs.Texts.{lead_from, lead_chars}
use Rattle.sorted_names.specs.Sorted.{name_at, alike, twice}
use Rattle.json_documents.specs.declared.seen.Document.{Document}
use Rattle.json_documents.specs.Seen.{seen_of}
use Rattle.json_documents.proofs.Leaves.{no_some, seen-end}

-- ---- the characters of a string that was read
abbrev list-of : Got (List ℕ) → List ℕ
list-of None = []
list-of (Some (l, e)) = l

module _ (text : List ℕ) where
  abbrev P : List ℕ → Got (List ℕ) → Type 0
  P k g = (l : List ℕ) (e : ℕ) → g ≡ Some (l, e) → k ≡ l

  p-cons : (u : ℕ) (k : List ℕ) (g : Got (List ℕ)) → P k g → P (u ∷ k) (cons u g)
  unfolding cons
  p-cons u k None h = λ l e q. no_some (l, e) q
  p-cons u k (Some (l', e')) h = λ l e q. ap (λ m. u ∷ m) (h l' e' refl) ∙ ap list-of q

  p-char : (g : Option (ℕ × ℕ)) (k : ℕ → List ℕ) (f : ℕ → Got (List ℕ)) → ((e : ℕ) → P (k e) (f e)) → P (listed_then g k) (char_then g f)
  unfolding listed_then char_then
  p-char None k f h = λ l e q. no_some (l, e) q
  p-char (Some (u, e)) k f h = p-cons u (k e) (f e) (h e)

  p-if : (b : Bool) (i : ℕ) (k : List ℕ) (g : Got (List ℕ)) → P k g → P (if b then [] else k) (if b then Some ([], i) else g)
  p-if true i k g h = λ l e q. ap list-of q
  p-if false i k g h = h

  lead-is : (n i : ℕ) → P (lead_from n text i) (chars_from n text i)
  unfolding lead_from chars_from
  lead-is zero i = λ l e q. no_some (l, e) q
  lead-is (suc n) i = p-if (eqb (byte_at text i) 0x22) (i + 1) (listed_then (char_at text i) (lead_from n text))
      (char_then (char_at text i) (chars_from n text)) (p-char (char_at text i) (lead_from n text) (chars_from n text) (lead-is n))

  by-quote : (q : ℕ) (b : Bool) (s : List ℕ) (e : ℕ) → ◌≡◌ {A = Got (List ℕ)} (if b then chars_at text (q + 1) else None) (Some (s, e))
      → lead_chars text (q + 1) ≡ s
  unfolding chars_at lead_chars
  by-quote q true s e h = lead-is (length text - (q + 1)) (q + 1) s e h
  by-quote q false s e h = no_some (s, e) h

  pub name-is : (q : ℕ) (s : List ℕ) (e : ℕ) → string_at text q ≡ Some (s, e) → name_at text q ≡ s
  unfolding string_at
  name-is q s e h = by-quote q (eqb (byte_at text q) 0x22) s e h

  by-colon : (b : Bool) (s n : List ℕ) (k p : ℕ) → ◌≡◌ {A = Got (List ℕ)} (if b then Some (s, p) else None) (Some (n, k)) → s ≡ n
  by-colon true s n k p h = ap list-of h
  by-colon false s n k p h = no_some (n, k) h

  by-string : (i : ℕ) (g : Got (List ℕ)) → string_at text i ≡ g → (n : List ℕ) (k : ℕ) → and_then g (colon_at text) ≡ Some (n, k) → name_at text i ≡ n
  unfolding and_then colon_at
  by-string i None q n k h = no_some (n, k) h
  by-string i (Some (s, e)) q n k h = name-is i s e q ∙ by-colon (eqb (byte_at text (blanks text e)) 0x3a) s n k (blanks text (blanks text e + 1)) h

  pub named-is : (i : ℕ) (n : List ℕ) (k : ℕ) → named_at text i ≡ Some (n, k) → name_at text i ≡ n
  unfolding named_at
  named-is i n k h = by-string i (string_at text i) refl n k h

  -- a value has a byte at least, a member four
  pub value-long : (left i : ℕ) (d : Document) → Some d ≡ seen_of (value_at left text i) → (i < d.end) × (d.end ≤ length text)
  value-long left i d h = ends_at (length text) i d.end (value_at left text i) (value-ends text left i) (seen-end (value_at left text i) d h)

  pub name-long : (i p : ℕ) → Some p ≡ end_of (named_at text i) → i + 2 < p
  name-long i p h = (ends_at (length text) (i + 2) p (named_at text i) (named-long text i) h).0

-- ---- two of some names are the same
unfoldable pub some_twice : List (List ℕ) → Bool
some_twice [] = false
some_twice (n ∷ rest) = list_any (pointwise nat_eq n) rest || some_twice rest

any-alike : (text : List ℕ) (a : ℕ) (l : List ℕ) → list_any (alike (name_at text) a) l ≡ list_any (pointwise nat_eq (name_at text a)) (map (name_at text) l)
any-alike text a [] = refl
any-alike text a (b ∷ l) = λ i. is_eq-slice_cmp (name_at text a) (name_at text b) i || any-alike text a l i

pub twice-names : (text : List ℕ) (l : List ℕ) → twice (name_at text) l ≡ some_twice (map (name_at text) l)
unfolding twice some_twice
twice-names text [] = refl
twice-names text (a ∷ l) = λ i. any-alike text a l i || twice-names text l i
