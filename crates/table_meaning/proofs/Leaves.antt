-- What is read at an offset is what its value is read as. Assumes nothing.
use Rattle.std.specs.Prelude.{Option, Some, None, if◌then◌else◌, option_and_then}
use mathlib.Core.Path.{◌≡◌, refl, sym, ◌∙◌}
use mathlib.Core.Bool.{Bool, true, false}
use mathlib.Core.Logic.{⊎_elim}
use mathlib.Core.List.{List, [], ◌∷◌}
use Prim.Native.Nat.{ℕ, zero, suc, ◌+◌}
use native.Mathlib.Omega.{arith}
use lib.Dec.{eqb}
use borrow.Author.Tests.{eq-eqb, ne_eqb}
use Rattle.json_tokens.specs.Text.{byte_at, Got, is_digit}
use Rattle.json_tokens.specs.Strings.{string_at}
use Rattle.json_tokens.specs.Numbers.{Figure, number_at}
use Rattle.json_values.specs.Grammar.{Json, null, bool, number, string, list, object, Members, Member, members_of}
use Rattle.json_walks.specs.declared.Member.{Member as Place}
use Rattle.json_walks.specs.Walks.{members_in}
use Rattle.json_fields.specs.Whole.{whole_in, u64_at, i64_at}
use Rattle.json_fields.specs.Fields.{same, is_key, place_of, member_at}
use Rattle.table_fields.specs.Found as found
use Rattle.table_meaning.specs.Tree as tree
use Rattle.table_meaning.specs.Parsed as parsed
use Rattle.table_meaning.proofs.Meets.{Meets, Stands, ObjectAt, meets, not-number-at}
use Rattle.table_meaning.proofs.Walked.{Both, MemberIs, members-walked}

-- ---- by the first byte
-- what a reading of a number says where none stands
u64-none : (text : List ℕ) (q : ℕ) → number_at text q ≡ None → u64_at text q ≡ None
unfolding whole_in
u64-none text q h = rw h

i64-none : (text : List ℕ) (q : ℕ) → number_at text q ≡ None → i64_at text q ≡ None
unfolding whole_in
i64-none text q h = rw h

module _ (text : List ℕ) (q : ℕ) where
  by-byte : (b : ℕ) → byte_at text q ≡ b → is_digit b ≡ false → (b ≡ 0x2d → ⊥) → number_at text q ≡ None
  by-byte b h d m = not-number-at text q b h d m

  none-74 : byte_at text q ≡ 0x74 → number_at text q ≡ None
  none-74 h = by-byte 0x74 h refl (λ z. omega arith)

  none-66 : byte_at text q ≡ 0x66 → number_at text q ≡ None
  none-66 h = by-byte 0x66 h refl (λ z. omega arith)

  none-6e : byte_at text q ≡ 0x6e → number_at text q ≡ None
  none-6e h = by-byte 0x6e h refl (λ z. omega arith)

  none-22 : byte_at text q ≡ 0x22 → number_at text q ≡ None
  none-22 h = by-byte 0x22 h refl (λ z. omega arith)

  none-5b : byte_at text q ≡ 0x5b → number_at text q ≡ None
  none-5b h = by-byte 0x5b h refl (λ z. omega arith)

  none-7b : byte_at text q ≡ 0x7b → number_at text q ≡ None
  none-7b h = by-byte 0x7b h refl (λ z. omega arith)

  -- where a number stands no such byte does
  some-not : (b : ℕ) (f : Figure) (e : ℕ) → number_at text q ≡ Some (f, e) → (byte_at text q ≡ b → number_at text q ≡ None) → byte_at text q ≡ b → ⊥
  some-not b f e h k z = let c : ◌≡◌ {A = Got Figure} None (Some (f, e)) = sym (k z) ∙ h in let o : ◌≡◌ {A = ℕ} 0 1 = cc in omega arith

  not-byte : (a b : ℕ) → byte_at text q ≡ a → (a ≡ b → ⊥) → eqb (byte_at text q) b ≡ false
  not-byte a b h n = ne_eqb (byte_at text q) b (λ z. n (sym h ∙ z))

module _ (text : List ℕ) (q : ℕ) where
  u64-by : (left e : ℕ) (j : Json) → Meets left text q e j → u64_at text q ≡ tree.as_u64 j
  unfolding Meets whole_in tree.as_u64
  u64-by left e null m = u64-none text q (none-6e text q m)
  u64-by left e (bool b) m = u64-none text q (⊎_elim (λ h. none-74 text q h) (λ h. none-66 text q h) m)
  u64-by left e (number f) m = rw m
  u64-by left e (string s) m = u64-none text q (none-22 text q m.opens)
  u64-by zero e (list vs) m = absurd m
  u64-by (suc left) e (list vs) m = u64-none text q (none-5b text q m.opens)
  u64-by zero e (object ms) m = absurd m
  u64-by (suc left) e (object ms) m = u64-none text q (none-7b text q m.opens)

  i64-by : (left e : ℕ) (j : Json) → Meets left text q e j → i64_at text q ≡ tree.as_i64 j
  unfolding Meets whole_in tree.as_i64
  i64-by left e null m = i64-none text q (none-6e text q m)
  i64-by left e (bool b) m = i64-none text q (⊎_elim (λ h. none-74 text q h) (λ h. none-66 text q h) m)
  i64-by left e (number f) m = rw m
  i64-by left e (string s) m = i64-none text q (none-22 text q m.opens)
  i64-by zero e (list vs) m = absurd m
  i64-by (suc left) e (list vs) m = i64-none text q (none-5b text q m.opens)
  i64-by zero e (object ms) m = absurd m
  i64-by (suc left) e (object ms) m = i64-none text q (none-7b text q m.opens)

  null-by : (left e : ℕ) (j : Json) → Meets left text q e j → found.is_null text q ≡ tree.is_null j
  unfolding Meets tree.is_null
  null-by left e null m = eq-eqb (byte_at text q) 0x6e m
  null-by left e (bool b) m = ⊎_elim (λ h. not-byte text q 0x74 0x6e h (λ z. omega arith)) (λ h. not-byte text q 0x66 0x6e h (λ z. omega arith)) m
  null-by left e (number f) m = ne_eqb (byte_at text q) 0x6e (some-not text q 0x6e f e m (none-6e text q))
  null-by left e (string s) m = not-byte text q 0x22 0x6e m.opens (λ z. omega arith)
  null-by zero e (list vs) m = absurd m
  null-by (suc left) e (list vs) m = not-byte text q 0x5b 0x6e m.opens (λ z. omega arith)
  null-by zero e (object ms) m = absurd m
  null-by (suc left) e (object ms) m = not-byte text q 0x7b 0x6e m.opens (λ z. omega arith)

  text-by : (left e : ℕ) (j : Json) → Meets left text q e j → found.is_text text q ≡ tree.is_text j
  unfolding Meets tree.as_text
  text-by left e null m = not-byte text q 0x6e 0x22 m (λ z. omega arith)
  text-by left e (bool b) m = ⊎_elim (λ h. not-byte text q 0x74 0x22 h (λ z. omega arith)) (λ h. not-byte text q 0x66 0x22 h (λ z. omega arith)) m
  text-by left e (number f) m = ne_eqb (byte_at text q) 0x22 (some-not text q 0x22 f e m (none-22 text q))
  text-by left e (string s) m = eq-eqb (byte_at text q) 0x22 m.opens
  text-by zero e (list vs) m = absurd m
  text-by (suc left) e (list vs) m = not-byte text q 0x5b 0x22 m.opens (λ z. omega arith)
  text-by zero e (object ms) m = absurd m
  text-by (suc left) e (object ms) m = not-byte text q 0x7b 0x22 m.opens (λ z. omega arith)

  object-by : (left e : ℕ) (j : Json) → Meets left text q e j → found.is_object text q ≡ tree.is_object j
  unfolding Meets tree.is_object
  object-by left e null m = not-byte text q 0x6e 0x7b m (λ z. omega arith)
  object-by left e (bool b) m = ⊎_elim (λ h. not-byte text q 0x74 0x7b h (λ z. omega arith)) (λ h. not-byte text q 0x66 0x7b h (λ z. omega arith)) m
  object-by left e (number f) m = ne_eqb (byte_at text q) 0x7b (some-not text q 0x7b f e m (none-7b text q))
  object-by left e (string s) m = not-byte text q 0x22 0x7b m.opens (λ z. omega arith)
  object-by zero e (list vs) m = absurd m
  object-by (suc left) e (list vs) m = not-byte text q 0x5b 0x7b m.opens (λ z. omega arith)
  object-by zero e (object ms) m = absurd m
  object-by (suc left) e (object ms) m = eq-eqb (byte_at text q) 0x7b m.opens

module _ (left : ℕ) (text : List ℕ) (q : ℕ) (j : Json) (s : Stands left text q j) where
  pub u64-leaf : u64_at text q ≡ tree.as_u64 j
  u64-leaf = u64-by text q left s.end j (meets left text q j s)

  pub i64-leaf : i64_at text q ≡ tree.as_i64 j
  i64-leaf = i64-by text q left s.end j (meets left text q j s)

  pub null-leaf : found.is_null text q ≡ tree.is_null j
  null-leaf = null-by text q left s.end j (meets left text q j s)

  pub text-leaf : found.is_text text q ≡ tree.is_text j
  text-leaf = text-by text q left s.end j (meets left text q j s)

  pub object-leaf : found.is_object text q ≡ tree.is_object j
  object-leaf = object-by text q left s.end j (meets left text q j s)

  pub shift-leaf : found.shift_at text q ≡ parsed.as_shift j
  unfolding found.shift_at parsed.as_shift
  shift-leaf = rw (null-leaf, i64-leaf)

  pub modulus-leaf : found.modulus_at text q ≡ parsed.as_modulus j
  unfolding found.modulus_at parsed.as_modulus
  modulus-leaf = rw (null-leaf, u64-leaf)

-- ---- members
-- two options, alike
unfoldable pub Opt : {A B : Type 0} → (A → B → Type 0) → Option A → Option B → Type 0
Opt R None None = Unit
Opt R None (Some b) = ⊥
Opt R (Some a) None = ⊥
Opt R (Some a) (Some b) = R a b

pub opt-then : {A B C : Type 0} (R : A → B → Type 0) (f : A → Option C) (g : B → Option C) → ((a : A) (b : B) → R a b → f a ≡ g b)
    → (x : Option A) (y : Option B) → Opt R x y → option_and_then f x ≡ option_and_then g y
unfolding Opt
opt-then R f g h None None o = refl
opt-then R f g h None (Some b) o = absurd o
opt-then R f g h (Some a) None o = absurd o
opt-then R f g h (Some a) (Some b) o = h a b o

pub opt-passes : (R : ℕ → Json → Type 0) (f : ℕ → Bool) (g : Json → Bool) → ((a : ℕ) (b : Json) → R a b → f a ≡ g b)
    → (x : Option ℕ) (y : Option Json) → Opt R x y → found.passes f x ≡ tree.passes g y
unfolding Opt found.passes tree.passes
opt-passes R f g h None None o = refl
opt-passes R f g h None (Some b) o = absurd o
opt-passes R f g h (Some a) None o = absurd o
opt-passes R f g h (Some a) (Some b) o = h a b o

module _ (left : ℕ) (text key : List ℕ) where
  key-is : (m : Place) (n : List ℕ) (e : ℕ) → string_at text m.name ≡ Some (n, e) → is_key key (string_at text m.name) ≡ same n key
  unfolding is_key
  key-is m n e h = rw h

  opt-if : (b : Bool) (x x' : Option ℕ) (y y' : Option Json) → Opt (Stands left text) x y → Opt (Stands left text) x' y'
      → Opt (Stands left text) (if b then x else x') (if b then y else y')
  opt-if true x x' y y' p q = p
  opt-if false x x' y y' p q = q

  places-alike : (ms : List Place) (l : List Member) → Both (MemberIs left text) ms l
      → Opt (Stands left text) (place_of text key ms) (tree.first_named key (members_of l))
  unfolding Both Opt place_of tree.first_named members_of
  places-alike [] [] b = tt
  places-alike [] (n ∷ l) b = absurd b
  places-alike (m ∷ ms) [] b = absurd b
  places-alike (m ∷ ms) (n ∷ l) b =
      rw (key-is m n.name b.0.end b.0.named)
      (opt-if (same n.name key) (Some m.value) (place_of text key ms) (Some n.value) (tree.first_named key (members_of l)) b.0.stands (places-alike ms l b.1))

  no-member : (p : ℕ) → eqb (byte_at text p) 0x7b ≡ false → member_at left text p key ≡ None
  unfolding member_at
  no-member p h = rw h

  object-member : (p : ℕ) (ms : Members) (e : ℕ) → ObjectAt left text p e ms → Opt (Stands left text) (member_at left text p key) (tree.first_named key ms)
  unfolding member_at
  object-member p ms e o =
      rw (eq-eqb (byte_at text p) 0x7b o.opens, o.is)
      (places-alike (members_in left text (p + 1)) o.of (members-walked left text (p + 1) o.of e o.read))

  member-by : (p e : ℕ) (j : Json) → Meets (suc left) text p e j → found.is_object text p ≡ tree.is_object j
      → Opt (Stands left text) (member_at left text p key) (tree.member_of j key)
  unfolding Meets tree.is_object tree.member_of Opt
  member-by p e null m b = rw (no-member p b) tt
  member-by p e (bool x) m b = rw (no-member p b) tt
  member-by p e (number f) m b = rw (no-member p b) tt
  member-by p e (string s) m b = rw (no-member p b) tt
  member-by p e (list vs) m b = rw (no-member p b) tt
  member-by p e (object ms) m b = object-member p ms e m

-- where the member stands
module _ (left : ℕ) (text key : List ℕ) where
  places-same : (ms : List Place) (l : List Member) → Both (MemberIs left text) ms l → place_of text key ms ≡ tree.first_place key (members_of l)
  unfolding Both place_of tree.first_place members_of
  places-same [] [] b = refl
  places-same [] (n ∷ l) b = absurd b
  places-same (m ∷ ms) [] b = absurd b
  places-same (m ∷ ms) (n ∷ l) b =
      rw (key-is left text key m n.name b.0.end b.0.named)
      (λ k. if same n.name key then Some (b.0.place k) else places-same ms l b.1 k)

  object-place : (p : ℕ) (ms : Members) (e : ℕ) → ObjectAt left text p e ms → member_at left text p key ≡ tree.first_place key ms
  unfolding member_at
  object-place p ms e o =
      rw (eq-eqb (byte_at text p) 0x7b o.opens, o.is)
      (places-same (members_in left text (p + 1)) o.of (members-walked left text (p + 1) o.of e o.read))

  place-by : (p e : ℕ) (j : Json) → Meets (suc left) text p e j → found.is_object text p ≡ tree.is_object j → member_at left text p key ≡ tree.place_in j key
  unfolding Meets tree.is_object tree.place_in
  place-by p e null m b = no-member left text key p b
  place-by p e (bool x) m b = no-member left text key p b
  place-by p e (number f) m b = no-member left text key p b
  place-by p e (string s) m b = no-member left text key p b
  place-by p e (list vs) m b = no-member left text key p b
  place-by p e (object ms) m b = object-place p ms e m

pub place-same : (left : ℕ) (text : List ℕ) (p : ℕ) (j : Json) → Stands (suc left) text p j → (key : List ℕ) → member_at left text p key ≡ tree.place_in j key
place-same left text p j s key =
    place-by left text key p s.end j (meets (suc left) text p j s) (object-leaf (suc left) text p j s)

pub member-alike : (left : ℕ) (text : List ℕ) (p : ℕ) (j : Json) → Stands (suc left) text p j → (key : List ℕ)
    → Opt (Stands left text) (member_at left text p key) (tree.member_of j key)
member-alike left text p j s key =
    member-by left text key p s.end j (meets (suc left) text p j s) (object-leaf (suc left) text p j s)
