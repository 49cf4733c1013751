-- What is seen of a value that holds no others, and of one by its first byte. Assumes nothing.
use Rattle.std.specs.Prelude.{Option, Some, None}
use mathlib.Core.Path.{◌≡◌, refl, sym, ap, ◌∙◌}
use mathlib.Core.Bool.{false, ◌&&◌}
use mathlib.Core.List.{List}
use Prim.Native.Nat.{ℕ, zero, suc, ◌+◌, ◌-◌}
use native.Mathlib.Omega.{arith}
use lib.ListN.{length}
use lib.Dec.{eqb}
use borrow.Author.Tests.{eq-eqb, ne_eqb}
use Rattle.conditions.proofs.Tests.{either}
use Rattle.json_tokens.specs.Text.{byte_at, blanks, Got, end_of, and_then}
use Rattle.json_tokens.specs.Strings.{string_at}
use Rattle.json_tokens.specs.Numbers.{number_at}
use Rattle.json_values.specs.Grammar.{Json, number, string, list, object, Item, Member, three_at, true_at, false_at, null_at, plain_by, plain_at, value_at}
use Rattle.json_values.specs.Grammar.{values_at, members_at, values_of, members_of, whole_of}
use Rattle.json_documents.specs.declared.seen.Document.{Document}
use Rattle.json_documents.specs.Names.{repeats}
use Rattle.json_documents.specs.Seen.{seen_of, seen_values, seen_members}

pub no_some : {A X : Type 0} (a : A) → ◌≡◌ {A = Option A} None (Some a) → X
no_some a q = let z : ◌≡◌ {A = ℕ} 0 1 = cc in absurd (omega arith)

-- ---- a value that holds no others repeats no name
unfoldable Quiet : Got Json → Type 0
Quiet None = Unit
Quiet (Some (j, e)) = repeats j ≡ false

quiet-then : {A : Type 0} (g : Got A) (f : A → Json) → ((a : A) → repeats (f a) ≡ false) → Quiet (and_then g (λ a e. Some (f a, e)))
unfolding Quiet and_then
quiet-then None f h = tt
quiet-then (Some (a, e)) f h = h a

plain-quiet : (text : List ℕ) (i b : ℕ) → Quiet (plain_by text i b)
unfolding Quiet plain_by true_at false_at null_at repeats
plain-quiet text i b =
    either Quiet (eqb b 0x22) (λ _. quiet-then (string_at text i) (λ s. string s) (λ s. refl))
    (λ _. either Quiet (eqb b 0x74) (λ _. either Quiet (three_at text (i + 1) 0x72 0x75 0x65) (λ _. refl) (λ _. tt))
    (λ _. either Quiet (eqb b 0x66) (λ _. either Quiet (three_at text (i + 1) 0x61 0x6c 0x73 && eqb (byte_at text (i + 4)) 0x65) (λ _. refl) (λ _. tt))
    (λ _. either Quiet (eqb b 0x6e) (λ _. either Quiet (three_at text (i + 1) 0x75 0x6c 0x6c) (λ _. refl) (λ _. tt))
    (λ _. quiet-then (number_at text i) (λ n. number n) (λ n. refl)))))

pub none-seen : (g : Got Json) → None ≡ end_of g → None ≡ seen_of g
unfolding end_of seen_of
none-seen None h = refl
none-seen (Some (j, e)) h = no_some e h

some-seen : (g : Got Json) → Quiet g → (e : ℕ) → Some e ≡ end_of g → Some (record { end = e; repeats = false }) ≡ seen_of g
unfolding Quiet end_of seen_of
some-seen None q e h = no_some e (sym h)
some-seen (Some (j, k)) q e h = let z : e ≡ k = cc in λ i. Some (record { end = z i; repeats = sym q i })

pub leaf-none : (text : List ℕ) (at : ℕ) → None ≡ end_of (plain_at text at) → None ≡ seen_of (plain_at text at)
leaf-none text at h = none-seen (plain_at text at) h

pub leaf-some : (text : List ℕ) (at e : ℕ) → Some e ≡ end_of (plain_at text at) → Some (record { end = e; repeats = false }) ≡ seen_of (plain_at text at)
leaf-some text at e h = some-seen (plain_at text at) (plain-quiet text at (byte_at text at)) e h

pub ruleset leaves = (leaf-none, leaf-some)

-- ---- what is seen ends where it stands
pub seen-none : (g : Got Json) → None ≡ seen_of g → None ≡ end_of g
unfolding end_of seen_of
seen-none None h = refl
seen-none (Some (j, e)) h = no_some (record { end = e; repeats = repeats j }) h

pub seen-end : (g : Got Json) (d : Document) → Some d ≡ seen_of g → Some d.end ≡ end_of g
unfolding end_of seen_of
seen-end None d h = no_some d (sym h)
seen-end (Some (j, e)) d h = let z : d ≡ record { end = e; repeats = repeats j } = cc in ap (λ (x : Document). Some x.end) z

-- ---- a value, by its first byte
list-seen : (g : Got (List Item)) → seen_of (and_then g (λ l e. Some (list (values_of l), e))) ≡ seen_values g
unfolding and_then seen_of seen_values repeats
list-seen None = refl
list-seen (Some (l, e)) = refl

object-seen : (g : Got (List Member)) → seen_of (and_then g (λ l e. Some (object (members_of l), e))) ≡ seen_members g
unfolding and_then seen_of seen_members repeats
object-seen None = refl
object-seen (Some (l, e)) = refl

pub value-flat : (text : List ℕ) (left i : ℕ) → left ≡ 0 → seen_of (plain_at text i) ≡ seen_of (value_at left text i)
unfolding value_at
value-flat text zero i e = refl
value-flat text (suc left) i e = absurd (omega arith)

pub value-list : (text : List ℕ) (left i b : ℕ) → (left ≡ 0 → ⊥) → b ≡ byte_at text i → b ≡ 0x5b
    → seen_values (values_at (left - 1) text (i + 1)) ≡ seen_of (value_at left text i)
unfolding value_at
value-list text zero i b n q e = absurd (n refl)
value-list text (suc left) i b n q e =
    let d : suc left - 1 ≡ left = omega arith in
    rw (d, eq-eqb (byte_at text i) 0x5b (sym q ∙ e)) (sym (list-seen (values_at left text (i + 1))))

pub value-object : (text : List ℕ) (left i b : ℕ) → (left ≡ 0 → ⊥) → b ≡ byte_at text i → b ≡ 0x7b
    → seen_members (members_at (left - 1) text (i + 1)) ≡ seen_of (value_at left text i)
unfolding value_at
value-object text zero i b n q e = absurd (n refl)
value-object text (suc left) i b n q e =
    let d : suc left - 1 ≡ left = omega arith in
    rw (d, ne_eqb (byte_at text i) 0x5b (λ z. omega arith), eq-eqb (byte_at text i) 0x7b (sym q ∙ e)) (sym (object-seen (members_at left text (i + 1))))

pub value-plain : (text : List ℕ) (left i b : ℕ) → b ≡ byte_at text i → (b ≡ 0x5b → ⊥) → (b ≡ 0x7b → ⊥)
    → seen_of (plain_at text i) ≡ seen_of (value_at left text i)
unfolding value_at
value-plain text zero i b q m n = refl
value-plain text (suc left) i b q m n = rw (ne_eqb (byte_at text i) 0x5b (λ z. m (q ∙ z)), ne_eqb (byte_at text i) 0x7b (λ z. n (q ∙ z)))

-- ---- a text, by its value and what follows
module _ (text : List ℕ) where
  pub whole-none : (g : Got Json) → None ≡ seen_of g → None ≡ seen_of (whole_of text g)
  unfolding whole_of and_then seen_of
  whole-none None h = refl
  whole-none (Some (j, e)) h = no_some (record { end = e; repeats = repeats j }) h

  pub whole-on : (g : Got Json) (d : Document) (k : ℕ) → Some d ≡ seen_of g → k ≡ blanks text d.end → k ≡ length text → Some d ≡ seen_of (whole_of text g)
  unfolding whole_of and_then seen_of
  whole-on None d k h p q = no_some d (sym h)
  whole-on (Some (j, e)) d k h p q =
      let z : d ≡ record { end = e; repeats = repeats j } = cc in
      let y : blanks text e ≡ length text = sym (p ∙ ap (λ (x : Document). blanks text x.end) z) ∙ q in
      rw (eq-eqb (blanks text e) (length text) y) h

  pub whole-more : (g : Got Json) (d : Document) (k : ℕ) → Some d ≡ seen_of g → k ≡ blanks text d.end → (k ≡ length text → ⊥) → None ≡ seen_of (whole_of text g)
  unfolding whole_of and_then seen_of
  whole-more None d k h p q = no_some d (sym h)
  whole-more (Some (j, e)) d k h p q =
      let z : d ≡ record { end = e; repeats = repeats j } = cc in
      let y : k ≡ blanks text e = p ∙ ap (λ (x : Document). blanks text x.end) z in
      rw (ne_eqb (blanks text e) (length text) (λ w. q (y ∙ w)))
