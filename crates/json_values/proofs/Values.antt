-- Where values, lists and objects end: after they start and within the text; and what the three readers meet at each return. Assumes nothing.
use Rattle.std.specs.Prelude.{Option, Some, None}
use mathlib.Core.Path.{◌≡◌, refl, sym, ◌∙◌}
use mathlib.Core.Bool.{true, ◌&&◌}
use mathlib.Core.List.{List}
use Prim.Native.Nat.{ℕ, zero, suc, ◌+◌, ◌-◌, ◌≤◌, ◌<◌}
use native.Mathlib.Omega.{arith}
use lib.ListN.{length}
use lib.Dec.{eqb}
use borrow.Author.Tests.{eq-eqb, ne_eqb}
use Rattle.std.specs.Prelude.{if◌then◌else◌}
use Rattle.conditions.proofs.Tests.{either}
use Rattle.json_tokens.specs.Text.{byte_at, blanks, is_blank, Got, end_of, and_then}
use Rattle.json_tokens.specs.Chars.{char_at}
use Rattle.json_tokens.specs.Strings.{string_at, chars_at, chars_from, char_then}
use Rattle.json_tokens.specs.Numbers.{number_at, int_end, frac_end, exp_end, after_minus}
use Rattle.json_tokens.proofs.Strings.{Onward, char-on}
use Rattle.json_tokens.proofs.Reaches.{end_then, Reach, int-reach, frac-reach, exp-reach, minus-from}
use Rattle.json_values.specs.Grammar.{Json, string, number, list, object, Item, items, opened_at, three_at, true_at, false_at, null_at, plain_by, plain_at}
use Rattle.json_values.specs.Grammar.{colon_at, named_at, member_at, item_at, value_at, values_at, members_at, values_of, members_of, rank, whole_of}
use Rattle.json_tokens.proofs.Texts.{past_from, past_to, and_right}
use Rattle.json_values.proofs.Series.{Ends, Inside, Leads, ends-then, ends-weaken, ends-cons, items-end, a_byte, then-end, then-torn}

-- an item ends where its value does
item-end : (i : ℕ) (g : Got Json) → end_of g ≡ end_of {A = Item} (and_then g (λ j e. Some (record { at = i; value = j }, e)))
unfolding and_then end_of
item-end i None = refl
item-end i (Some (j, e)) = refl

pub item-same : (v : ℕ → Got Json) (i : ℕ) {x : Option ℕ} → x ≡ end_of (v i) → x ≡ end_of (item_at v i)
unfolding item_at
item-same v i h = h ∙ item-end i (v i)

opened-leads : (c : ℕ) (text : List ℕ) (i : ℕ) → Leads (length text) i (opened_at (suc c) text (i + 1))
unfolding Leads opened_at
opened-leads c text i =
    let a = past_from is_blank text (i + 1) in
    either (Leads (length text) i) (eqb (byte_at text (blanks text (i + 1))) (suc c))
    (λ e. let h = a_byte text (blanks text (i + 1)) c e in (omega arith, omega arith))
    (λ _. omega arith)

module _ (text : List ℕ) where
  after-char : (n i : ℕ) (p : Option (ℕ × ℕ)) → Onward i p → ((e : ℕ) → i < e → Ends (length text) e (chars_from n text e))
      → Ends (length text) i (char_then p (chars_from n text))
  unfolding Onward char_then Ends
  after-char n i None h k = tt
  after-char n i (Some (u, e)) h k =
      ends-cons (length text) i u (chars_from n text e) (ends-weaken (length text) i e (chars_from n text e) (omega arith) (k e h))

  chars-end : (n i : ℕ) → Ends (length text) i (chars_from n text i)
  unfolding chars_from Ends
  chars-end zero i = tt
  chars-end (suc n) i =
      either (Ends (length text) i) (eqb (byte_at text i) 0x22)
      (λ e. let h = a_byte text i 0x21 e in (omega arith, omega arith))
      (λ _. after-char n i (char_at text i) (char-on text i (byte_at text i)) (λ e _. chars-end n e))

  -- a string has two bytes at least
  pub string-long : (i : ℕ) → Ends (length text) (i + 1) (string_at text i)
  unfolding string_at chars_at Ends
  string-long i = either (Ends (length text) (i + 1)) (eqb (byte_at text i) 0x22) (λ _. chars-end (length text - (i + 1)) (i + 1)) (λ _. tt)

  pub string-ends : Inside (length text) (string_at text)
  string-ends i = ends-weaken (length text) i (i + 1) (string_at text i) (omega arith) (string-long i)

  end-then : {A : Type 0} (i j : ℕ) (x : Option ℕ) (f : ℕ → Got A) → Reach (length text) j x
      → ((d : ℕ) → j ≤ d → d ≤ length text → Ends (length text) i (f d)) → Ends (length text) i (end_then x f)
  unfolding Reach Ends
  end-then i j None f r k = tt
  end-then i j (Some d) f r k = k d r.0 r.1

  pub number-ends : Inside (length text) (number_at text)
  unfolding number_at Ends
  number-ends i =
      let m = minus-from text i in
      end-then i (after_minus text i + 1) (int_end text (after_minus text i)) _ (int-reach text (after_minus text i))
      (λ d p q. end-then i d (frac_end text d) _ (frac-reach text d q)
      (λ f r s. end-then i f (exp_end text f) _ (exp-reach text f s) (λ e t u. (omega arith, u))))

  three-lies : (i a b c : ℕ) → three_at text i a b (suc c) ≡ true → i + 2 < length text
  three-lies i a b c e = a_byte text (i + 2) c
      (and_right (eqb (byte_at text (i + 1)) b) (eqb (byte_at text (i + 2)) (suc c)) (and_right (eqb (byte_at text i) a) _ e))

  plain-ends : Inside (length text) (plain_at text)
  unfolding Ends plain_by true_at false_at null_at
  plain-ends i =
      either (Ends (length text) i) (eqb (byte_at text i) 0x22)
      (λ _. ends-then (length text) i i (string_at text i) (λ s e. Some (string s, e)) (string-ends i) (λ s e p q. (p, q)))
      (λ _. either (Ends (length text) i) (eqb (byte_at text i) 0x74)
      (λ _. either (Ends (length text) i) (three_at text (i + 1) 0x72 0x75 0x65)
      (λ e. let h = three-lies (i + 1) 0x72 0x75 0x64 e in (omega arith, omega arith)) (λ _. tt))
      (λ _. either (Ends (length text) i) (eqb (byte_at text i) 0x66)
      (λ _. either (Ends (length text) i) (three_at text (i + 1) 0x61 0x6c 0x73 && eqb (byte_at text (i + 4)) 0x65)
      (λ e. let h = a_byte text (i + 4) 0x64 (and_right (three_at text (i + 1) 0x61 0x6c 0x73) (eqb (byte_at text (i + 4)) 0x65) e) in
      (omega arith, omega arith)) (λ _. tt))
      (λ _. either (Ends (length text) i) (eqb (byte_at text i) 0x6e)
      (λ _. either (Ends (length text) i) (three_at text (i + 1) 0x75 0x6c 0x6c)
      (λ e. let h = three-lies (i + 1) 0x75 0x6c 0x6b e in (omega arith, omega arith)) (λ _. tt))
      (λ _. ends-then (length text) i i (number_at text i) (λ n e. Some (number n, e)) (number-ends i) (λ n e p q. (p, q))))))

  colon-ends : {A : Type 0} (a : A) (i e : ℕ) → i ≤ e → Ends (length text) i (colon_at text a e)
  unfolding Ends colon_at
  colon-ends a i e l =
      either (Ends (length text) i) (eqb (byte_at text (blanks text e)) 0x3a)
      (λ q. let h = a_byte text (blanks text e) 0x39 q in let f = past_from is_blank text e in let g = past_from is_blank text (blanks text e + 1) in
      (omega arith, past_to is_blank text (blanks text e + 1) (omega arith)))
      (λ _. tt)

  -- a name and its colon have three
  pub named-long : (i : ℕ) → Ends (length text) (i + 2) (named_at text i)
  unfolding named_at
  named-long i = ends-then (length text) (i + 2) (i + 1) (string_at text i) (colon_at text) (string-long i) (λ a e h _. colon-ends a (i + 2) e (omega arith))

  pub named-ends : Inside (length text) (named_at text)
  named-ends i = ends-weaken (length text) i (i + 2) (named_at text i) (omega arith) (named-long i)

  member-ends : (v : ℕ → Got Json) → Inside (length text) v → Inside (length text) (member_at v text)
  unfolding member_at Ends
  member-ends v inside i =
      ends-then (length text) i i (named_at text i) (λ n k. and_then (v k) (λ j e. Some (record { name = n; at = k; value = j }, e))) (named-ends i)
      (λ n k h _. ends-then (length text) i k (v k) (λ j e. Some (record { name = n; at = k; value = j }, e)) (inside k) (λ j e g l. (omega arith, l)))

  item-ends : (v : ℕ → Got Json) → Inside (length text) v → Inside (length text) (item_at v)
  unfolding item_at Ends
  item-ends v inside i = ends-then (length text) i i (v i) (λ j e. Some (record { at = i; value = j }, e)) (inside i) (λ j e g l. (g, l))

  pub value-ends : (left : ℕ) → Inside (length text) (value_at left text)
  unfolding value_at items Ends
  value-ends zero i = plain-ends i
  value-ends (suc left) i =
      let inside = value-ends left in
      either (Ends (length text) i) (eqb (byte_at text i) 0x5b)
      (λ _. ends-then (length text) i i (items (item_at (value_at left text)) 0x5d text (opened_at 0x5d text (i + 1))) (λ l e. Some (list (values_of l), e))
      (items-end (item_at (value_at left text)) 0x5c text (item-ends (value_at left text) inside) (rank (length text) (opened_at 0x5d text (i + 1))) i
      (opened_at 0x5d text (i + 1)) (opened-leads 0x5c text i)) (λ l e h g. (h, g)))
      (λ _. either (Ends (length text) i) (eqb (byte_at text i) 0x7b)
      (λ _. ends-then (length text) i i (items (member_at (value_at left text) text) 0x7d text (opened_at 0x7d text (i + 1)))
      (λ l e. Some (object (members_of l), e))
      (items-end (member_at (value_at left text) text) 0x7c text (member-ends (value_at left text) inside)
      (rank (length text) (opened_at 0x7d text (i + 1))) i (opened_at 0x7d text (i + 1)) (opened-leads 0x7c text i)) (λ l e h g. (h, g)))
      (λ _. plain-ends i))

  pub items-inside : (left : ℕ) → Inside (length text) (item_at (value_at left text))
  items-inside left = item-ends (value_at left text) (value-ends left)

  pub members-end : (left : ℕ) → Inside (length text) (member_at (value_at left text) text)
  members-end left = member-ends (value_at left text) (value-ends left)

  -- a member: no name and colon, no value, both
  module _ (v : ℕ → Got Json) (i : ℕ) where
    pub member-none : None ≡ end_of (named_at text i) → None ≡ end_of (member_at v text i)
    unfolding member_at
    member-none h = sym (then-torn (named_at text i) (λ n k. and_then (v k) (λ j e. Some (record { name = n; at = k; value = j }, e))) h)

    pub member-torn : (p : ℕ) → Some p ≡ end_of (named_at text i) → None ≡ end_of (v p) → None ≡ end_of (member_at v text i)
    unfolding member_at
    member-torn p h q = sym (then-end (named_at text i) (λ n k. and_then (v k) (λ j e. Some (record { name = n; at = k; value = j }, e))) None p h
        (λ n. then-torn (v p) (λ j e. Some (record { name = n; at = p; value = j }, e)) q))

    pub member-on : (p e : ℕ) → Some p ≡ end_of (named_at text i) → Some e ≡ end_of (v p) → Some e ≡ end_of (member_at v text i)
    unfolding member_at end_of
    member-on p e h q = sym (then-end (named_at text i) (λ n k. and_then (v k) (λ j e. Some (record { name = n; at = k; value = j }, e))) (Some e) p h
        (λ n. then-end (v p) (λ j e. Some (record { name = n; at = p; value = j }, e)) (Some e) e q (λ j. refl)))

  -- a value, by its first byte
  same_end : {A : Type 0} (g : Got A) (f : A → Json) → end_of (and_then g (λ a e. Some (f a, e))) ≡ end_of g
  unfolding and_then end_of
  same_end None f = refl
  same_end (Some (a, e)) f = refl

  pub value-flat : (left i : ℕ) → left ≡ 0 → end_of (plain_at text i) ≡ end_of (value_at left text i)
  unfolding value_at
  value-flat zero i e = refl
  value-flat (suc left) i e = absurd (omega arith)

  pub value-list : (left i : ℕ) → (left ≡ 0 → ⊥) → byte_at text i ≡ 0x5b → end_of (values_at (left - 1) text (i + 1)) ≡ end_of (value_at left text i)
  unfolding value_at
  value-list zero i e q = absurd (e refl)
  value-list (suc left) i e q =
      let d : suc left - 1 ≡ left = omega arith in
      rw (d, eq-eqb (byte_at text i) 0x5b q) (sym (same_end (values_at left text (i + 1)) (λ l. list (values_of l))))

  pub value-object : (left i : ℕ) → (left ≡ 0 → ⊥) → byte_at text i ≡ 0x7b → end_of (members_at (left - 1) text (i + 1)) ≡ end_of (value_at left text i)
  unfolding value_at
  value-object zero i e q = absurd (e refl)
  value-object (suc left) i e q =
      let d : suc left - 1 ≡ left = omega arith in
      rw (d, ne_eqb (byte_at text i) 0x5b (λ z. omega arith), eq-eqb (byte_at text i) 0x7b q)
      (sym (same_end (members_at left text (i + 1)) (λ l. object (members_of l))))

  pub value-plain : (left i : ℕ) → (left ≡ 0 → ⊥) → (byte_at text i ≡ 0x5b → ⊥) → (byte_at text i ≡ 0x7b → ⊥)
      → end_of (plain_at text i) ≡ end_of (value_at left text i)
  unfolding value_at
  value-plain zero i e p q = absurd (e refl)
  value-plain (suc left) i e p q = rw (ne_eqb (byte_at text i) 0x5b p, ne_eqb (byte_at text i) 0x7b q)

  -- nothing stands past the end
  past-torn : {A : Type 0} (i : ℕ) (g : Got A) → Ends (length text) i g → length text ≤ i → None ≡ end_of g
  unfolding Ends end_of
  past-torn i None x h = refl
  past-torn i (Some (a, e)) x h = absurd (omega (arith, x.0, x.1))

  pub plain_out : (i : ℕ) → length text ≤ i → None ≡ end_of (plain_at text i)
  plain_out i h = past-torn i (plain_at text i) (plain-ends i) h

  -- a text, by its value and what follows
  pub whole-none : (g : Got Json) → None ≡ end_of g → None ≡ end_of (whole_of text g)
  unfolding whole_of
  whole-none g h = sym (then-torn g (λ j e. if eqb (blanks text e) (length text) then Some (j, e) else None) h)

  pub whole-on : (g : Got Json) (e k : ℕ) → Some e ≡ end_of g → k ≡ blanks text e → k ≡ length text → Some e ≡ end_of (whole_of text g)
  unfolding whole_of end_of
  whole-on g e k h p q = sym (then-end g (λ j e. if eqb (blanks text e) (length text) then Some (j, e) else None) (Some e) e h
      (λ j. rw (eq-eqb (blanks text e) (length text) (sym p ∙ q))))

  pub whole-more : (g : Got Json) (e k : ℕ) → Some e ≡ end_of g → k ≡ blanks text e → (k ≡ length text → ⊥) → None ≡ end_of (whole_of text g)
  unfolding whole_of end_of
  whole-more g e k h p q = sym (then-end g (λ j e. if eqb (blanks text e) (length text) then Some (j, e) else None) None e h
      (λ j. rw (ne_eqb (blanks text e) (length text) (λ z. q (p ∙ z)))))
