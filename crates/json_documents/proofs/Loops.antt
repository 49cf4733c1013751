-- The two loops from turn to turn: what was read, and then what is left, is the whole. Assumes nothing.
use Rattle.std.specs.Prelude.{Option, Some, None, map}
use mathlib.Core.Path.{◌≡◌, refl, sym, ap, subst, ◌∙◌}
use mathlib.Core.Bool.{Bool, ◌||◌}
use mathlib.Core.List.{List, [], ◌∷◌, ◌++◌}
use Prim.Native.Nat.{ℕ, ◌+◌, ◌*◌, ◌≤◌, ◌<◌}
use native.Mathlib.Omega.{arith}
use lib.ListN.{length}
use lib.Dec.{eqb}
use Rattle.conditions.proofs.Tests.{either}
use Rattle.std.proofs.lemmas.List.{map-append}
use Rattle.json_tokens.specs.Text.{byte_at, blanks, is_blank, Got, end_of, and_then}
use Rattle.json_tokens.specs.Strings.{cons}
use Rattle.json_tokens.proofs.Texts.{past_from}
use Rattle.json_values.specs.declared.Turn.{Turn}
use Rattle.json_values.specs.declared.Turn.TheVariants.{Done, Next, Bad}
use Rattle.json_values.specs.Grammar.{Item, Member, items, items_from, turned, item_at, member_at, named_at, value_at, opened_at, after_at, rank}
use Rattle.json_values.proofs.Series.{unrolled}
use Rattle.json_values.proofs.Loops.{walk-less}
use Rattle.json_values.proofs.Values.{items-inside, members-end, item-same, member-none, member-torn, member-on}
use Rattle.sorted_names.specs.Sorted.{name_at, twice}
use Rattle.json_documents.specs.declared.seen.Document.{Document}
use Rattle.json_documents.specs.Seen.{seen_of}
use Rattle.json_documents.proofs.Leaves.{no_some, seen-none, seen-end}
use Rattle.json_documents.proofs.Named.{named-is, twice-names}
use Rattle.json_documents.proofs.Members.{finish, finish-none, finish-end, by-name, also, also-none, also-end, by-item}

then-none : {A B : Type 0} (g : Got A) (f : A → ℕ → Got B) → None ≡ end_of g → and_then g f ≡ None
unfolding and_then end_of
then-none None f h = refl
then-none (Some (a, e)) f h = no_some e h

-- no items, and none that can be read
items-done : {A : Type 0} (v : ℕ → Got A) (c : ℕ) (text : List ℕ) (k : ℕ) → items v c text (Done k) ≡ Some ([], k)
unfolding items rank items_from turned
items-done v c text k = refl

items-bad : {A : Type 0} (v : ℕ → Got A) (c : ℕ) (text : List ℕ) → items v c text Bad ≡ None
unfolding items rank items_from turned
items-bad v c text = refl

module _ (text : List ℕ) (left : ℕ) where
  -- the items, and the members, from a turn on
  abbrev pub items_on : Turn → Got (List Item)
  items_on turn = items (item_at (value_at left text)) 0x5d text turn

  abbrev pub members_on : Turn → Got (List Member)
  members_on turn = items (member_at (value_at left text) text) 0x7d text turn

  module _ (b : Bool) {turn : Turn} {x : Option Document} (inv : also b (items_on turn) ≡ x) where
    pub list-done : (k : ℕ) → turn ≡ Done k → Some (record { end = k; repeats = b }) ≡ x
    list-done k q = also-end b k ∙ ap (also b) (sym (ap items_on q ∙ items-done (item_at (value_at left text)) 0x5d text k)) ∙ inv

    pub list-bad : turn ≡ Bad → None ≡ x
    list-bad q = sym (also-none b) ∙ ap (also b) (sym (ap items_on q ∙ items-bad (item_at (value_at left text)) 0x5d text)) ∙ inv

    module _ (i : ℕ) (q : turn ≡ Next i) where
      list-step : also b (and_then (item_at (value_at left text) i) (λ m e. cons m (items_on (after_at 0x5d text e)))) ≡ x
      list-step = ap (also b) (sym (ap items_on q ∙ unrolled (item_at (value_at left text)) 0x5c text (items-inside text left) i)) ∙ inv

      pub list-torn : None ≡ seen_of (value_at left text i) → None ≡ x
      list-torn h =
          sym (also-none b)
          ∙ ap (also b) (sym (then-none (item_at (value_at left text) i) _ (item-same (value_at left text) i (seen-none (value_at left text i) h))))
          ∙ list-step

      module _ (d : Document) (h : Some d ≡ seen_of (value_at left text i)) (n : Turn) (r : n ≡ after_at 0x5d text d.end) where
        pub list-on : also (b || d.repeats) (items_on n) ≡ x
        unfolding item_at
        list-on = ap (λ t. also (b || d.repeats) (items_on t)) r ∙ sym (by-item b d (λ e. items_on (after_at 0x5d text e)) i (value_at left text i) h)
            ∙ list-step

        pub list-less : rank (length text) n < rank (length text) turn
        list-less =
            walk-less (item_at (value_at left text)) 0x5c text (items-inside text left) {turn = turn} refl i d.end n q
            (item-same (value_at left text) i (seen-end (value_at left text i) d h)) r

  module _ (ps : List ℕ) (b : Bool) {turn : Turn} {x : Option Document} (inv : finish (map (name_at text) ps) b (members_on turn) ≡ x) where
    pub object-done : (k : ℕ) (t : Bool) → turn ≡ Done k → t ≡ twice (name_at text) ps → Some (record { end = k; repeats = b || t }) ≡ x
    object-done k t q h =
        finish-end (map (name_at text) ps) b t k (h ∙ twice-names text ps)
        ∙ ap (finish (map (name_at text) ps) b) (sym (ap members_on q ∙ items-done (member_at (value_at left text) text) 0x7d text k))
        ∙ inv

    pub object-bad : turn ≡ Bad → None ≡ x
    object-bad q =
        sym (finish-none (map (name_at text) ps) b)
        ∙ ap (finish (map (name_at text) ps) b) (sym (ap members_on q ∙ items-bad (member_at (value_at left text) text) 0x7d text))
        ∙ inv

    module _ (i : ℕ) (q : turn ≡ Next i) where
      object-step : finish (map (name_at text) ps) b (and_then (member_at (value_at left text) text i) (λ m e. cons m (members_on (after_at 0x7d text e)))) ≡ x
      object-step =
          ap (finish (map (name_at text) ps) b) (sym (ap members_on q ∙ unrolled (member_at (value_at left text) text) 0x7c text (members-end text left) i))
          ∙ inv

      no-member : None ≡ end_of (member_at (value_at left text) text i) → None ≡ x
      no-member h =
          sym (finish-none (map (name_at text) ps) b)
          ∙ ap (finish (map (name_at text) ps) b) (sym (then-none (member_at (value_at left text) text i) _ h))
          ∙ object-step

      pub object-none : None ≡ end_of (named_at text i) → None ≡ x
      object-none h = no-member (member-none text (value_at left text) i h)

      module _ (p : ℕ) (g : Some p ≡ end_of (named_at text i)) where
        pub object-torn : None ≡ seen_of (value_at left text p) → None ≡ x
        object-torn h = no-member (member-torn text (value_at left text) i p g (seen-none (value_at left text p) h))

        module _ (d : Document) (h : Some d ≡ seen_of (value_at left text p)) (n : Turn) (r : n ≡ after_at 0x7d text d.end) where
          pub object-on : (qs : List ℕ) → qs ≡ ps ++ i ∷ [] → finish (map (name_at text) qs) (b || d.repeats) (members_on n) ≡ x
          unfolding member_at
          object-on qs e =
              ap (λ l. finish (map (name_at text) l) (b || d.repeats) (members_on n)) e
              ∙ ap (λ l. finish l (b || d.repeats) (members_on n)) (map-append (name_at text) ps (i ∷ []))
              ∙ ap (λ t. finish (map (name_at text) ps ++ name_at text i ∷ []) (b || d.repeats) (members_on t)) r
              ∙ sym (by-name (map (name_at text) ps) b d (λ e. members_on (after_at 0x7d text e)) (value_at left text) (name_at text i) p (named_at text i)
              (named-is text i) g h)
              ∙ object-step

          pub object-less : rank (length text) n < rank (length text) turn
          object-less =
              walk-less (member_at (value_at left text) text) 0x7c text (members-end text left) {turn = turn} refl i d.end n q
              (member-on text (value_at left text) i p d.end g (seen-end (value_at left text p) d h)) r

-- ---- so many places, with four bytes each, lie below where a turn leads
unfoldable pub Below : ℕ → Turn → Type 0
Below n Bad = Unit
Below n (Done k) = Unit
Below n (Next i) = 4 * n ≤ i

pub below-next : (n i : ℕ) (t : Turn) → t ≡ Next i → Below n t → 4 * n ≤ i
unfolding Below
below-next n i t q h = subst (Below n) q h

pub below-opened : (n c : ℕ) (text : List ℕ) (i : ℕ) (t : Turn) → t ≡ opened_at c text i → 4 * n ≤ i → Below n t
unfolding Below opened_at
below-opened n c text i t q h =
    let a = past_from is_blank text i in
    rw q (either (Below n) (eqb (byte_at text (blanks text i)) c) (λ _. tt) (λ _. omega arith))

pub below-after : (n c : ℕ) (text : List ℕ) (i : ℕ) (t : Turn) → t ≡ after_at c text i → 4 * n ≤ i → Below n t
unfolding Below after_at
below-after n c text i t q h =
    let a = past_from is_blank text i in
    let b = past_from is_blank text (blanks text i + 1) in
    rw q (either (Below n) (eqb (byte_at text (blanks text i)) c) (λ _. tt)
    (λ _. either (Below n) (eqb (byte_at text (blanks text i)) 0x2c) (λ _. omega arith) (λ _. tt)))
