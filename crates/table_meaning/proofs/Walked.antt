-- The items and members that were read stand where a walk finds them. Assumes nothing.
use Rattle.std.specs.Prelude.{Some, None, if◌then◌else◌}
use mathlib.Core.Path.{◌≡◌, refl, sym, ap, subst, ◌∙◌}
use mathlib.Core.Bool.{Bool, true, false}
use mathlib.Core.List.{List, [], ◌∷◌}
use Prim.Native.Nat.{ℕ, zero, suc, ◌+◌}
use lib.ListN.{length}
use lib.Dec.{eqb}
use Rattle.json_values.specs.declared.Turn.{Turn}
use Rattle.json_values.specs.declared.Turn.TheVariants.{Done, Next, Bad}
use Rattle.json_tokens.specs.Text.{byte_at, blanks, Got, end_of, and_then}
use Rattle.json_tokens.specs.Strings.{cons, string_at}
use Rattle.json_values.specs.Grammar.{Json, Item, Member, turned, items_from, items, rank, after_at, opened_at, item_at, member_at, named_at}
use Rattle.json_values.specs.Grammar.{colon_at, value_at, values_at, members_at}
use Rattle.json_walks.specs.declared.Member.{Member as Place}
use Rattle.json_walks.specs.Walks.{listed_then, listed_from, listed, item_place, member_place, items_in, members_in}
use Rattle.json_documents.proofs.Leaves.{no_some}
use Rattle.table_meaning.proofs.Meets.{Stands}

-- two lists, element by element
unfoldable pub Both : {A B : Type 0} → (A → B → Type 0) → List A → List B → Type 0
Both R [] [] = Unit
Both R [] (b ∷ l) = ⊥
Both R (a ∷ k) [] = ⊥
Both R (a ∷ k) (b ∷ l) = R a b × Both R k l

abbrev first_of : {A : Type 0} → A → Got A → A
first_of d None = d
first_of d (Some (a, e)) = a

abbrev second_of : {A : Type 0} → Got A → ℕ
second_of None = 0
second_of (Some (a, e)) = e

module _ {A B : Type 0} (R : A → B → Type 0) (v : ℕ → Got A) (v' : ℕ → Got B) where
  -- what was read at an offset, and what a walk finds there
  pub record Found (i : ℕ) (b : B) (e : ℕ) : Type 0 where
    pub it : A
    pub found : v i ≡ Some (it, e)
    pub is : R it b

  module _ (step : (i : ℕ) (b : B) (e : ℕ) → v' i ≡ Some (b, e) → Found i b e) (next : ℕ → Turn) where
    abbrev P : List A → Got (List B) → Type 0
    P k g = (l : List B) (e : ℕ) → g ≡ Some (l, e) → Both R k l

    p-none : (k : List A) → P k None
    p-none k l e q = no_some (l, e) q

    p-done : (k : ℕ) → P [] (Some ([], k))
    unfolding Both
    p-done k l e q = let z : [] ≡ l = ap (first_of {A = List B} []) q in subst (λ (x : List B). Both R [] x) z tt

    p-cons : (a : A) (b : B) (k : List A) (g : Got (List B)) → R a b → P k g → P (a ∷ k) (cons b g)
    unfolding Both cons
    p-cons a b k None r h = p-none (a ∷ k)
    p-cons a b k (Some (l', e')) r h =
        λ l e q. let z : b ∷ l' ≡ l = ap (first_of {A = List B} []) q in subst (λ (x : List B). Both R (a ∷ k) x) z (r, h l' e' refl)

    p-item : (k : ℕ → List A) (i : ℕ) (f : ℕ → Got (List B)) (g : Got B) → v' i ≡ g → ((e : ℕ) → P (k e) (f e))
        → P (listed_then (v i) k) (and_then g (λ b e. cons b (f e)))
    unfolding and_then listed_then
    p-item k i f None q h = p-none (listed_then (v i) k)
    p-item k i f (Some (b, e)) q h =
        let s = step i b e q in
        subst (λ (x : Got A). P (listed_then x k) (cons b (f e))) (sym s.found) (p-cons s.it b (k e) (f e) s.is (h e))

    pub walked : (n : ℕ) (t : Turn) → P (listed_from n v next t) (items_from n v' next t)
    unfolding listed_from items_from turned
    walked zero Bad = p-none []
    walked zero (Done k) = p-done k
    walked zero (Next i) = p-none []
    walked (suc n) Bad = p-none []
    walked (suc n) (Done k) = p-done k
    walked (suc n) (Next i) = p-item (λ e. listed_from n v next (next e)) i (λ e. items_from n v' next (next e)) (v' i) refl (λ e. walked n (next e))

-- an item that was read
pub record ItemIs (left : ℕ) (text : List ℕ) (i : ℕ) (item : Item) : Type 0 where
  pub stands : Stands left text i item.value

-- a member that was read
pub record MemberIs (left : ℕ) (text : List ℕ) (m : Place) (member : Member) : Type 0 where
  pub end : ℕ
  pub named : string_at text m.name ≡ Some (member.name, end)
  pub place : m.value ≡ member.at
  pub stands : Stands left text m.value member.value

module _ (left : ℕ) (text : List ℕ) where
  item-by : (i : ℕ) (g : Got Json) → value_at left text i ≡ g → (b : Item) (e : ℕ) → and_then g (λ j e. Some (record { at = i; value = j }, e)) ≡ Some (b, e)
      → Found (ItemIs left text) (item_place left text) (item_at (value_at left text)) i b e
  unfolding and_then item_place end_of
  item-by i None q b e h = no_some (b, e) h
  item-by i (Some (j, f)) q b e h =
      let x : record { at = i; value = j } ≡ b = ap (first_of {A = Item} (record { at = i; value = j })) h in
      let y : f ≡ e = ap (second_of {A = Item}) h in
      record { it = i; found = rw (q, y); is = subst (λ (z : Item). ItemIs left text i z) x (record { stands = record { end = f; read = q } }) }

  item-step : (i : ℕ) (b : Item) (e : ℕ) → item_at (value_at left text) i ≡ Some (b, e)
      → Found (ItemIs left text) (item_place left text) (item_at (value_at left text)) i b e
  unfolding item_at
  item-step i b e h = item-by i (value_at left text i) refl b e h

  pub items-walked : (p : ℕ) (l : List Item) (e : ℕ) → values_at left text p ≡ Some (l, e) → Both (ItemIs left text) (items_in left text p) l
  unfolding items listed
  items-walked p l e h =
      walked (ItemIs left text) (item_place left text) (item_at (value_at left text)) item-step (after_at 0x5d text)
      (rank (length text) (opened_at 0x5d text p)) (opened_at 0x5d text p) l e h

  abbrev MemberFound : ℕ → Member → ℕ → Type 0
  MemberFound i b e = Found (MemberIs left text) (member_place left text) (member_at (value_at left text) text) i b e

  member-by-value : (i n-end k : ℕ) (n : List ℕ) → string_at text i ≡ Some (n, n-end) → end_of (named_at text i) ≡ Some k → (g : Got Json)
      → value_at left text k ≡ g
      → (b : Member) (e : ℕ) → and_then g (λ j e. Some (record { name = n; at = k; value = j }, e)) ≡ Some (b, e) → MemberFound i b e
  unfolding and_then member_place end_of
  member-by-value i n-end k n s c None q b e h = no_some (b, e) h
  member-by-value i n-end k n s c (Some (j, f)) q b e h =
      let x : record { name = n; at = k; value = j } ≡ b = ap (first_of {A = Member} (record { name = n; at = k; value = j })) h in
      let y : f ≡ e = ap (second_of {A = Member}) h in
      record {
        it = record { name = i; value = k };
        found = rw (c, q, y);
        is = subst (λ (z : Member). MemberIs left text (record { name = i; value = k }) z) x
            (record { end = n-end; named = s; place = refl; stands = record { end = f; read = q } });
      }

  member-by-colon : (i n-end : ℕ) (n : List ℕ) → string_at text i ≡ Some (n, n-end) → (g : Got (List ℕ)) → colon_at text n n-end ≡ g
      → ((k : ℕ) (m : List ℕ) → g ≡ Some (m, k) → m ≡ n)
      → end_of (named_at text i) ≡ end_of g
      → (b : Member) (e : ℕ) → and_then g (λ n k. and_then (value_at left text k) (λ j e. Some (record { name = n; at = k; value = j }, e)))
      ≡ Some (b, e) → MemberFound i b e
  unfolding and_then end_of
  member-by-colon i n-end n s None q u c b e h = no_some (b, e) h
  member-by-colon i n-end n s (Some (m, k)) q u c b e h =
      member-by-value i n-end k m (s ∙ ap (λ (x : List ℕ). Some (x, n-end)) (sym (u k m refl))) c (value_at left text k) refl b e h

  colon-name : (n : List ℕ) (e : ℕ) (k : ℕ) (m : List ℕ) → colon_at text n e ≡ Some (m, k) → m ≡ n
  unfolding colon_at
  colon-name n e k m h = by-test (eqb (byte_at text (blanks text e)) 0x3a) h
    where
      by-test : (t : Bool) → ◌≡◌ {A = Got (List ℕ)} (if t then Some (n, blanks text (blanks text e + 1)) else None) (Some (m, k)) → m ≡ n
      by-test true h = sym (ap (first_of {A = List ℕ} n) h)
      by-test false h = no_some (m, k) h

  member-by-name : (i : ℕ) (g : Got (List ℕ)) → string_at text i ≡ g
      → (b : Member) (e : ℕ)
      → and_then (and_then g (colon_at text))
      (λ n k. and_then (value_at left text k) (λ j e. Some (record { name = n; at = k; value = j }, e))) ≡ Some (b, e) → MemberFound i b e
  unfolding and_then named_at
  member-by-name i None q b e h = no_some (b, e) h
  member-by-name i (Some (n, f)) q b e h =
      member-by-colon i f n q (colon_at text n f) refl (λ k m u. colon-name n f k m u) (rw q) b e h

  member-step : (i : ℕ) (b : Member) (e : ℕ) → member_at (value_at left text) text i ≡ Some (b, e) → MemberFound i b e
  unfolding member_at named_at
  member-step i b e h = member-by-name i (string_at text i) refl b e h

  pub members-walked : (p : ℕ) (l : List Member) (e : ℕ) → members_at left text p ≡ Some (l, e) → Both (MemberIs left text) (members_in left text p) l
  unfolding items listed
  members-walked p l e h =
      walked (MemberIs left text) (member_place left text) (member_at (value_at left text) text) member-step (after_at 0x7d text)
      (rank (length text) (opened_at 0x7d text p)) (opened_at 0x7d text p) l e h
