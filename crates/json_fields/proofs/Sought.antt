-- Keys beside the names of an object's members, and the places that a walk puts down. Assumes nothing.
use Rattle.std.specs.Prelude.{Option, Some, None, map, not, if◌then◌else◌}
use Rattle.std.specs.Option.{option_or}
use Rattle.std.specs.Borrow.{Bor}
use Rattle.std.specs.List.{list_all}
use Rattle.std.specs.Cmp.Lexicographic.{same_text}
use Rattle.std.proofs.lemmas.List.{length-map, get_or-map, get_or-set_same, get_or-set_other, get_or-replicate}
use Rattle.std.proofs.lemmas.List.Folds.{list_all_at}
use Rattle.std.proofs.lemmas.Bool.{eqb-true}
use mathlib.Core.Path.{◌≡◌, refl, sym, ap, ◌∙◌}
use mathlib.Core.Bool.{Bool, true, false, true≢false, ◌&&◌}
use mathlib.Core.List.{List, [], ◌∷◌}
use Prim.Native.Nat.{ℕ, zero, suc, ◌+◌, ◌≤◌, ◌<◌}
use native.Mathlib.Omega.{arith}
use lib.ListN.{length, get_or, set, take, drop, drop_of_length-le, replicate, length-replicate}
use lib.Seq.{drop-cons}
use lib.Dec.{eqb, ltb}
use borrow.Author.Tests.{eq-eqb, ne_eqb}
use mathlib.Core.Logic.{⊎_elim}
use Rattle.conditions.proofs.Tests.{decide, le-or-lt}
use Rattle.json_tokens.specs.Text.{byte_at, Got}
use Rattle.json_tokens.specs.Chars.{is_plain}
use Rattle.json_tokens.specs.Strings.{cons, char_then, chars_at, string_at}
use Rattle.json_tokens.proofs.Strings.{unrolled, plain_char, plain-quote}
use Rattle.json_tokens.proofs.Texts.{and_right}
use Rattle.json_walks.specs.declared.Member.{Member}
use Rattle.json_fields.specs.Whole.{span}
use Rattle.json_walks.specs.Walks.{members_in}
use Rattle.json_fields.specs.Fields.{same, is_key, place_of, member_at}
use Rattle.json_fields.specs.Sought.{differ, are_keys, stands_at, OnlyAt, told}

and_left : (a b : Bool) → a && b ≡ true → a ≡ true
and_left true b e = refl
and_left false b e = absurd (true≢false (sym e))

not_true : (a : Bool) → not a ≡ true → a ≡ false
not_true true e = absurd (true≢false (sym e))
not_true false e = refl

all_at : {X : Type 0} (p : X → Bool) (l : List X) (k : ℕ) (d : X) → k < length l → list_all p l ≡ true → p (get_or l k d) ≡ true
all_at p l k d h e = decide (p (get_or l k d)) (λ t. t) (λ f. absurd (true≢false (sym e ∙ list_all_at p l k d h f)))

-- ---- a key that stands byte by byte is what is read
module _ (text : List ℕ) where
  ended : (l : List ℕ) (a b : ℕ) → a ≡ b → ◌≡◌ {A = Got (List ℕ)} (Some (l, a)) (Some (l, b))
  ended l a b q = ap (λ e. Some (l, e)) q

  module _ (b : ℕ) (key : List ℕ) (i : ℕ) (plain : is_plain b ≡ true) (e : byte_at text i ≡ b) where
    spelled_on : chars_at text (i + 1) ≡ Some (key, i + 1 + length key + 1) → chars_at text i ≡ Some (b ∷ key, i + length (b ∷ key) + 1)
    unfolding char_then cons
    spelled_on r =
        unrolled text i
        ∙ rw e
        (rw (ne_eqb b 0x22 (plain-quote b plain), plain_char text i b plain, r)
        (ended (b ∷ key) (i + 1 + length key + 1) (i + suc (length key) + 1) (omega arith)))

  spelled : (key : List ℕ) (i : ℕ) → list_all is_plain key ≡ true → take (length key) (drop i text) ≡ key → byte_at text (i + length key) ≡ 0x22
      → chars_at text i ≡ Some (key, i + length key + 1)
  spelled [] i p s q =
      unrolled text i
      ∙ rw (eq-eqb (byte_at text i) 0x22 (ap (byte_at text) (omega arith) ∙ q)) (ended [] (i + 1) (i + length {A = ℕ} [] + 1) (omega arith))
  spelled (b ∷ key) i p s q =
      ⊎_elim
      (λ (h : length text ≤ i).
      let n : 0 ≡ suc (length key) = sym (ap (λ l. length (take (suc (length key)) l)) (drop_of_length-le text h)) ∙ ap (length {A = ℕ}) s in
      absurd (omega (arith, n)))
      (λ (h : i < length text).
      let t : get_or text i 0 ∷ take (length key) (drop (suc i) text) ≡ b ∷ key =
      sym (ap (take (suc (length key))) (drop-cons text i 0 h)) ∙ s in
      let n : i + 1 ≡ suc i = omega arith in
      let m : i + 1 + length key ≡ i + suc (length key) = omega arith in
      spelled_on b key i (and_left (is_plain b) (list_all is_plain key) p) (ap (λ l. get_or l 0 0) t)
      (spelled key (i + 1) (and_right (is_plain b) (list_all is_plain key) p)
      (ap (λ j. take (length key) (drop j text)) n ∙ ap (λ l. drop 1 l) t)
      (ap (byte_at text) m ∙ q)))
      (le-or-lt (length text) i)

  -- so the string before which it stands is the key
  module _ (key : List ℕ) (at : ℕ) where
    abbrev end : ℕ
    end = at + 1 + length key

    stands_is : list_all is_plain key ≡ true → byte_at text at ≡ 0x22 → stands_at key text (at + 1) ≡ true → string_at text at ≡ Some (key, end + 1)
    unfolding stands_at string_at
    stands_is p q s =
        let t = and_right (ltb end (length text)) (eqb (byte_at text end) 0x22 && same (span text (at + 1) end) key) s in
        let e : eqb (byte_at text end) 0x22 ≡ true = and_left (eqb (byte_at text end) 0x22) (same (span text (at + 1) end) key) t in
        let w = same_text (span text (at + 1) end) key (sym (and_right (eqb (byte_at text end) 0x22) (same (span text (at + 1) end) key) t)) in
        rw (eq-eqb (byte_at text at) 0x22 q)
        (spelled key (at + 1) p (ap (λ n. take n (drop (at + 1) text)) (omega arith) ∙ w) (eqb-true (byte_at text end) 0x22 e))

-- ---- keys that differ
same_self : (a : List ℕ) → same a a ≡ true
same_self [] = refl
same_self (x ∷ l) = rw (eq-eqb x x refl) (same_self l)

other : (a b : List ℕ) → same a b ≡ false → same b a ≡ false
other a b h = decide (same b a) (λ t. absurd (true≢false (sym (same_self b) ∙ ap (λ z. same z b) (same_text b a (sym t)) ∙ h))) (λ f. f)

both_on : (a b : ℕ) → eqb a b ≡ eqb (suc a) (suc b)
both_on a b =
    decide (eqb a b)
    (λ e. e ∙ sym (eq-eqb (suc a) (suc b) (ap suc (eqb-true a b e))))
    (λ e. e ∙ sym (ne_eqb (suc a) (suc b) (λ z. absurd (true≢false (sym (eq-eqb a b (omega (arith, z))) ∙ e)))))

-- each key of the rest is another than the first
first_apart : (x : List ℕ) (keys : List (List ℕ)) (k : ℕ) → differ (x ∷ keys) ≡ true → k < length keys → same x (get_or keys k []) ≡ false
first_apart x keys k d h =
    not_true (same x (get_or keys k []))
    (all_at (λ o. not (same x o)) keys k [] h (and_left (list_all (λ o. not (same x o)) keys) (differ keys) d))

apart : (keys : List (List ℕ)) (i j : ℕ) → differ keys ≡ true → i < length keys → j < length keys
    → same (get_or keys i []) (get_or keys j []) ≡ eqb j i
apart [] i j d p q = absurd (omega arith)
apart (x ∷ keys) zero zero d p q = same_self x
apart (x ∷ keys) zero (suc j) d p q = first_apart x keys j d (omega arith) ∙ sym (ne_eqb (suc j) 0 (λ z. absurd (omega (arith, z))))
apart (x ∷ keys) (suc i) zero d p q =
    other x (get_or keys i []) (first_apart x keys i d (omega arith)) ∙ sym (ne_eqb 0 (suc i) (λ z. absurd (omega (arith, z))))
apart (x ∷ keys) (suc i) (suc j) d p q =
    apart keys i j (and_right (list_all (λ o. not (same x o)) keys) (differ keys) d) (omega arith) (omega arith) ∙ both_on j i

only_by : (keys : List (List ℕ)) (g : Got (List ℕ)) (r : ℕ) → differ keys ≡ true → r < length keys → is_key (get_or keys r []) g ≡ true
    → OnlyAt keys g r
unfolding is_key
only_by keys None r d h e k q = absurd (true≢false (sym e))
only_by keys (Some (n, t)) r d h e k q =
    ap (λ z. same z (get_or keys k [])) (same_text n (get_or keys r []) (sym e)) ∙ apart keys r k d h q

module _ (keys : List (Bor (List ℕ))) (d : Bor (List ℕ)) (kept : are_keys (told keys) ≡ true) (r : ℕ) (h : r < length keys) where
  here : get_or (told keys) r [] ≡ (get_or keys r d).now
  here = get_or-map (λ key. key.now) keys r d [] h

  within : r < length (told keys)
  within = rw (length-map keys (λ key. key.now)) h

  -- a key that the name is, is the only one
  pub only : (g : Got (List ℕ)) → is_key (get_or keys r d).now g ≡ true → OnlyAt (told keys) g r
  only g e =
      only_by (told keys) g r (and_right (list_all (list_all is_plain) (told keys)) (differ (told keys)) kept) within
      (ap (λ key. is_key key g) here ∙ e)

  pub stands_only : (text : List ℕ) (at : ℕ) → byte_at text at ≡ 0x22 → stands_at (get_or keys r d).now text (at + 1) ≡ true
      → OnlyAt (told keys) (string_at text at) r
  unfolding is_key
  stands_only text at q s =
      let p : list_all is_plain (get_or keys r d).now ≡ true =
      ap (list_all is_plain) (sym here)
      ∙ all_at (list_all is_plain) (told keys) r [] within (and_left (list_all (list_all is_plain) (told keys)) (differ (told keys)) kept) in
      only (string_at text at) (ap (is_key (get_or keys r d).now) (stands_is text (get_or keys r d).now at p q s) ∙ same_self (get_or keys r d).now)

-- the name is none of the first keys
abbrev pub NoneBefore : List (List ℕ) → Got (List ℕ) → ℕ → Type 0
NoneBefore keys g i = (k : ℕ) → k < i → is_key (get_or keys k []) g ≡ false

pub none_yet : (keys : List (Bor (List ℕ))) (d : Bor (List ℕ)) (g : Got (List ℕ)) (i : ℕ) → i < length keys
    → is_key (get_or keys i d).now g ≡ false → NoneBefore (told keys) g i → NoneBefore (told keys) g (i + 1)
none_yet keys d g i h e before k q =
    ⊎_elim
    (λ (a : i ≤ k).
    let s : k ≡ i = omega arith in
    ap (λ (j : ℕ). is_key (get_or (told keys) j []) g) s ∙ ap (λ key. is_key key g) (get_or-map (λ key. key.now) keys i d [] h) ∙ e)
    (λ (b : k < i). before k b)
    (le-or-lt i k)

pub none_at_all : (keys : List (Bor (List ℕ))) (g : Got (List ℕ)) (i : ℕ) → length keys ≤ i → NoneBefore (told keys) g i
    → OnlyAt (told keys) g (length keys)
none_at_all keys g i h before k q =
    let l = length-map keys (λ key. key.now) in
    before k (omega (arith, l)) ∙ sym (ne_eqb k (length keys) (λ z. omega (arith, l, z)))

-- ---- the places
-- the place that is noted of a key, or that which members give
abbrev or_in : List ℕ → List (List ℕ) → List Member → List (Option ℕ) → ℕ → Option ℕ
or_in text keys members places k = option_or (get_or places k None) (place_of text (get_or keys k []) members)

-- what is noted, and then what the members that are left give, is what all give
abbrev pub Noted : List ℕ → List (List ℕ) → List Member → List Member → List (Option ℕ) → Type 0
Noted text keys all rest places = (k : ℕ) → k < length keys → or_in text keys rest places k ≡ place_of text (get_or keys k []) all

or_or : (p q : Option ℕ) (v : ℕ) → option_or (option_or p (Some v)) q ≡ option_or p (Some v)
or_or None q v = refl
or_or (Some x) q v = refl

or_none : (p : Option ℕ) → option_or p None ≡ p
or_none None = refl
or_none (Some x) = refl

module _ (text : List ℕ) (keys : List (List ℕ)) (all : List Member) where
  module _ (m : Member) (rest left : List Member) (more : left ≡ m ∷ rest) (places : List (Option ℕ)) (r : ℕ)
      (o : OnlyAt keys (string_at text m.name) r) (n : Noted text keys all left places) where
    -- the same, by whether the key is the member's
    abbrev or_here : ℕ → Bool → Option ℕ
    or_here k b = option_or (get_or places k None) (if b then Some m.value else place_of text (get_or keys k []) rest)

    abbrev new_here : Option ℕ
    new_here = option_or (get_or places r None) (Some m.value)

    turn : (k : ℕ) → k < length keys → or_here k (eqb k r) ≡ place_of text (get_or keys k []) all
    unfolding place_of
    turn k h = sym (ap (or_here k) (o k h)) ∙ sym (ap (λ ms. or_in text keys ms places k) more) ∙ n k h

    -- a name that is sought
    noted_at : length places ≡ length keys → r < length keys → Noted text keys all rest (set places r new_here)
    noted_at l h k q =
        decide (eqb k r)
        (λ e.
        let s = eqb-true k r e in
        ap (λ (x : Option ℕ). option_or x (place_of text (get_or keys k []) rest))
        (ap (λ (j : ℕ). get_or (set places r new_here) j None) s ∙ get_or-set_same places r new_here None (omega (arith, l, h)))
        ∙ or_or (get_or places r None) (place_of text (get_or keys k []) rest) m.value
        ∙ ap (λ (j : ℕ). option_or (get_or places j None) (Some m.value)) (sym s)
        ∙ sym (ap (or_here k) e)
        ∙ turn k q)
        (λ e.
        ap (λ (x : Option ℕ). option_or x (place_of text (get_or keys k []) rest))
        (get_or-set_other places r k new_here None (λ z. absurd (true≢false (sym (eq-eqb k r z) ∙ e))))
        ∙ sym (ap (or_here k) e)
        ∙ turn k q)

    pub noted : (new : Option ℕ) → new ≡ option_or (get_or places r None) (Some m.value) → length places ≡ length keys → r < length keys
        → Noted text keys all rest (set places r new)
    noted new e l h = rw e (noted_at l h)

    -- one that isn't
    pub passed : length keys ≤ r → Noted text keys all rest places
    passed h k q = sym (ap (or_here k) (ne_eqb k r (λ z. absurd (omega (arith, z, h, q))))) ∙ turn k q

  -- at first nothing is noted
  pub none_noted : (n : ℕ) → n ≡ length keys → Noted text keys all all (replicate n None)
  none_noted n e k q =
      ap (λ (x : Option ℕ). option_or x (place_of text (get_or keys k []) all)) (get_or-replicate n k None None (omega (arith, e, q)))

alike : (xs ys : List (Option ℕ)) → length xs ≡ length ys → ((k : ℕ) → k < length ys → get_or xs k None ≡ get_or ys k None) → xs ≡ ys
alike [] [] l f = refl
alike [] (y ∷ ys) l f = absurd (omega (arith, l))
alike (x ∷ xs) [] l f = absurd (omega (arith, l))
alike (x ∷ xs) (y ∷ ys) l f =
    ap (λ z. z ∷ xs) (f 0 (omega arith)) ∙ ap (λ z. y ∷ z) (alike xs ys (omega (arith, l)) (λ k h. f (suc k) (omega (arith, h))))

-- in the end all is
pub all_noted : (left : ℕ) (text : List ℕ) (at : ℕ) (keys : List (List ℕ)) (places : List (Option ℕ)) → length places ≡ length keys
    → byte_at text at ≡ 0x7b → (rest : List Member) → rest ≡ [] → Noted text keys (members_in left text (at + 1)) rest places
    → places ≡ map (member_at left text at) keys
unfolding member_at place_of
all_noted left text at keys places l e rest done n =
    let m = length-map keys (member_at left text at) in
    alike places (map (member_at left text at) keys) (l ∙ sym m)
    (λ k h.
    sym (ap (λ ms. or_in text keys ms places k) done ∙ or_none (get_or places k None)) ∙ n k (omega (arith, m, h))
    ∙ sym (rw (eq-eqb (byte_at text at) 0x7b e) refl)
    ∙ sym (get_or-map (member_at left text at) keys k [] None (omega (arith, m, h))))

-- what is no object has no members
pub no_object : (left : ℕ) (text : List ℕ) (at n : ℕ) (keys : List (List ℕ)) → length keys ≡ n → (byte_at text at ≡ 0x7b → ⊥)
    → replicate n None ≡ map (member_at left text at) keys
unfolding member_at
no_object left text at n keys l q =
    let m = length-map keys (member_at left text at) in
    alike (replicate n None) (map (member_at left text at) keys) (length-replicate n None ∙ sym (m ∙ l))
    (λ k h.
    get_or-replicate n k None None (omega (arith, m, l, h))
    ∙ sym (rw (ne_eqb (byte_at text at) 0x7b q) refl)
    ∙ sym (get_or-map (member_at left text at) keys k [] None (omega (arith, m, h))))
