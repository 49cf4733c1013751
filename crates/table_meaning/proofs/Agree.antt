-- A table's objects read by offsets are their values read. Assumes nothing.
use Rattle.std.specs.Prelude.{Option, Some, None, option_map, is_some}
use mathlib.Core.Path.{◌≡◌, refl, sym, ◌∙◌}
use mathlib.Core.Bool.{true, false, ◌||◌}
use mathlib.Core.Logic.{⊎_elim}
use mathlib.Core.List.{List, [], ◌∷◌}
use Prim.Native.Nat.{ℕ, suc, ◌+◌}
use native.Mathlib.Omega.{arith}
use lib.Dec.{eqb}
use borrow.Author.Tests.{eq-eqb, ne_eqb}
use Rattle.json_tokens.specs.Text.{byte_at, end_of}
use Rattle.json_tokens.specs.Numbers.{Figure, number_at}
use Rattle.json_tokens.specs.Strings.{string_at}
use Rattle.json_values.specs.Grammar.{Json, null, bool, number, string, list, object, Values, Item, values_of}
use Rattle.json_walks.specs.Walks.{items_in}
use Rattle.json_fields.specs.Whole.{u64_at}
use Rattle.json_fields.specs.Fields.{member_at, pair_at, pair_of}
use Rattle.json_strings.specs.Texts.{utf8_of, string_bytes}
use Rattle.table_fields.specs.Found as found
use Rattle.json_documents.proofs.Leaves.{no_some}
use Rattle.json_documents.proofs.Named.{name-is}
use Rattle.table_meaning.specs.Tree as tree
use Rattle.table_meaning.specs.Parsed as parsed
use Rattle.table_meaning.proofs.Meets.{Meets, Stands, ListAt, StringAt, meets, not-number-at}
use Rattle.table_meaning.proofs.Walked.{Both, ItemIs, items-walked}
use Rattle.table_meaning.proofs.Leaves.{opt-then, opt-passes, member-alike, u64-leaf, i64-leaf, null-leaf, text-leaf, object-leaf}

-- ---- strings
module _ (text : List ℕ) where
  no-string : (q : ℕ) → found.is_text text q ≡ false → string_at text q ≡ None
  unfolding string_at
  no-string q h = rw h

  abbrev pub made : Option (Option ℕ) → Option (Option (List ℕ))
  made = option_map (option_map (string_bytes text))

  created-not : (q : ℕ) → found.is_null text q ≡ false → found.is_text text q ≡ false → made (found.created_at text q) ≡ None
  unfolding found.created_at end_of
  created-not q h k = rw (h, no-string q k)

  created-null : (q : ℕ) → found.is_null text q ≡ true → made (found.created_at text q) ≡ Some None
  unfolding found.created_at
  created-null q h = rw h

  created-text : (q e : ℕ) (s : List ℕ) → found.is_null text q ≡ false → StringAt text q e s → made (found.created_at text q) ≡ Some (Some (utf8_of s))
  unfolding found.created_at end_of
  created-text q e s h a = rw (h, a.read, name-is text q s e a.read)

  created-by : (left q e : ℕ) (j : Json) → Meets left text q e j → found.is_null text q ≡ tree.is_null j → found.is_text text q ≡ tree.is_text j
      → made (found.created_at text q) ≡ parsed.as_created j
  unfolding Meets tree.is_null tree.as_text parsed.as_created
  created-by left q e null m a b = created-null q a
  created-by left q e (bool x) m a b = created-not q a b
  created-by left q e (number f) m a b = created-not q a b
  created-by left q e (string s) m a b = created-text q e s a m
  created-by left q e (list vs) m a b = created-not q a b
  created-by left q e (object ms) m a b = created-not q a b

  pub created-leaf : (left q : ℕ) (j : Json) → Stands left text q j → made (found.created_at text q) ≡ parsed.as_created j
  created-leaf left q j s = created-by left q s.end j (meets left text q j s) (null-leaf left text q j s) (text-leaf left text q j s)

-- ---- lists
module _ (left : ℕ) (text : List ℕ) where
  pub standing : (is : List ℕ) (l : List Item) → Both (ItemIs left text) is l → Both (Stands left text) is (tree.to_list (values_of l))
  unfolding Both tree.to_list values_of
  standing [] [] b = tt
  standing [] (x ∷ l) b = absurd b
  standing (i ∷ is) [] b = absurd b
  standing (i ∷ is) (x ∷ l) b = (b.0.stands, standing is l b.1)

  pair-both : (is : List ℕ) (l : List Json) → Both (Stands left text) is l → pair_of text is ≡ tree.two_numbers l
  unfolding Both pair_of tree.two_numbers
  pair-both [] [] b = refl
  pair-both [] (x ∷ l) b = absurd b
  pair-both (i ∷ is) [] b = absurd b
  pair-both (i ∷ []) (x ∷ []) b = refl
  pair-both (i ∷ []) (x ∷ y ∷ l) b = absurd b.1
  pair-both (i ∷ k ∷ is) (x ∷ []) b = absurd b.1
  pair-both (i ∷ k ∷ []) (x ∷ y ∷ []) b = rw (u64-leaf left text i x b.0, u64-leaf left text k y b.1.0)
  pair-both (i ∷ k ∷ []) (x ∷ y ∷ z ∷ l) b = absurd b.1.1
  pair-both (i ∷ k ∷ m ∷ is) (x ∷ y ∷ []) b = absurd b.1.1
  pair-both (i ∷ k ∷ m ∷ is) (x ∷ y ∷ z ∷ l) b = refl

  pub list-both : (q e : ℕ) (vs : Values) → ListAt left text q e vs → Both (Stands left text) (items_in left text (q + 1)) (tree.to_list vs)
  list-both q e vs a = rw a.is (standing (items_in left text (q + 1)) a.of (items-walked left text (q + 1) a.of e a.read))

  pair-not : (q : ℕ) → eqb (byte_at text q) 0x5b ≡ false → pair_at left text q ≡ None
  unfolding pair_at
  pair-not q h = rw h

  pair-list : (q e : ℕ) (vs : Values) → ListAt left text q e vs → pair_at left text q ≡ tree.two_numbers (tree.to_list vs)
  unfolding pair_at
  pair-list q e vs a = rw (eq-eqb (byte_at text q) 0x5b a.opens) (pair-both (items_in left text (q + 1)) (tree.to_list vs) (list-both q e vs a))

-- a byte that opens no list
module _ (left : ℕ) (text : List ℕ) (q : ℕ) where
  list-by : (e : ℕ) (j : Json) → Meets (suc left) text q e j → found.is_null text q ≡ tree.is_null j → found.is_text text q ≡ tree.is_text j
      → found.is_object text q ≡ tree.is_object j
      → eqb (byte_at text q) 0x5b ≡ is_some (tree.as_list j)
  unfolding Meets tree.as_list tree.is_null tree.as_text tree.is_object
  list-by e null m a b c = ne_eqb (byte_at text q) 0x5b (λ z. omega arith)
  list-by e (bool x) m a b c =
      ⊎_elim (λ (h : byte_at text q ≡ 0x74). ne_eqb (byte_at text q) 0x5b (λ z. omega arith))
      (λ (h : byte_at text q ≡ 0x66). ne_eqb (byte_at text q) 0x5b (λ z. omega arith)) m
  list-by e (number f) m a b c = number-no f e m
    where
      number-no : (f : Figure) (e : ℕ) → number_at text q ≡ Some (f, e) → eqb (byte_at text q) 0x5b ≡ false
      number-no f e m = ne_eqb (byte_at text q) 0x5b (λ z. let n = not-number-at text q 0x5b z refl (λ y. omega arith) in no_some (f, e) (sym n ∙ m))
  list-by e (string s) m a b c = let o = m.opens in ne_eqb (byte_at text q) 0x5b (λ z. omega arith)
  list-by e (list vs) m a b c = eq-eqb (byte_at text q) 0x5b m.opens
  list-by e (object ms) m a b c = let o = m.opens in ne_eqb (byte_at text q) 0x5b (λ z. omega arith)

  pair-by : (e : ℕ) (j : Json) → Meets (suc left) text q e j → eqb (byte_at text q) 0x5b ≡ is_some (tree.as_list j) → pair_at left text q ≡ tree.as_pair j
  unfolding Meets tree.as_list
  pair-by e null m h = pair-not left text q h
  pair-by e (bool x) m h = pair-not left text q h
  pair-by e (number f) m h = pair-not left text q h
  pair-by e (string s) m h = pair-not left text q h
  pair-by e (list vs) m h = pair-list left text q e vs m
  pair-by e (object ms) m h = pair-not left text q h

  pub list-leaf : (j : Json) → Stands (suc left) text q j → eqb (byte_at text q) 0x5b ≡ is_some (tree.as_list j)
  list-leaf j s = list-by s.end j (meets (suc left) text q j s) (null-leaf (suc left) text q j s) (text-leaf (suc left) text q j s)
      (object-leaf (suc left) text q j s)

  pub pair-leaf : (j : Json) → Stands (suc left) text q j → pair_at left text q ≡ tree.as_pair j
  pair-leaf j s = pair-by s.end j (meets (suc left) text q j s) (list-leaf j s)

-- ---- objects: members by their names and types
module _ (left : ℕ) (text : List ℕ) (p : ℕ) (j : Json) (s : Stands (suc left) text p j) (key : List ℕ) where
  pub u64-field : found.u64_in left text p key ≡ tree.u64_in j key
  u64-field = opt-then (Stands left text) (u64_at text) tree.as_u64 (u64-leaf left text) (member_at left text p key) (tree.member_of j key)
      (member-alike left text p j s key)

  pub i64-field : found.i64_in left text p key ≡ tree.i64_in j key
  i64-field = opt-then (Stands left text) _ tree.as_i64 (i64-leaf left text) (member_at left text p key) (tree.member_of j key)
      (member-alike left text p j s key)

  pub text-field : found.text_in left text p key ≡ tree.text_in j key
  text-field = opt-passes (Stands left text) (found.is_text text) tree.is_text (text-leaf left text) (member_at left text p key)
      (tree.member_of j key) (member-alike left text p j s key)

  pub object-null-field : found.object_or_null_in left text p key ≡ tree.object_or_null_in j key
  object-null-field =
      opt-passes (Stands left text) (λ q. found.is_null text q || found.is_object text q) (λ v. tree.is_null v || tree.is_object v)
      (λ q v t. rw (null-leaf left text q v t, object-leaf left text q v t)) (member_at left text p key) (tree.member_of j key)
      (member-alike left text p j s key)

  pub text-null-field : found.text_or_null_in left text p key ≡ tree.text_or_null_in j key
  text-null-field =
      opt-passes (Stands left text) (λ q. found.is_null text q || found.is_text text q) (λ v. tree.is_null v || tree.is_text v)
      (λ q v t. rw (null-leaf left text q v t, text-leaf left text q v t)) (member_at left text p key) (tree.member_of j key)
      (member-alike left text p j s key)
