-- The first box of a type, with text types or without, and all boxes of a type, from `at` on, by the header at `at`.
-- Assumes nothing.
use mathlib.Core.Path.{◌≡◌, refl, sym}
use mathlib.Core.Bool.{Bool, true, false, not, ◌&&◌}
use mathlib.Core.List.{List, [], ◌∷◌}
use Rattle.std.specs.Prelude.{Option, None, Some, Result}
use Rattle.std.specs.Option.{is_some, ok_or}
use Prim.Native.Nat.{ℕ}
use borrow.Author.Tests.{eq-eqb, ne_eqb, not-true, not-false}
use Rattle.conditions.proofs.Tests.{tf}
use Rattle.boxes.specs.Boxes.{Boxes, bad, box, header_at, after_header, boxes_at, is_text, textual, searched, place, first_such, first_of}
use Rattle.boxes.specs.Places.{all_of, only_of}
use Rattle.boxes.specs.declared.BoxAt.{BoxAt}
use Rattle.boxes.specs.declared.Header.{Header}
use Rattle.boxes.specs.declared.Header.TheVariants.{Whole, Short, Bad}
use Rattle.boxes.specs.declared.Walk.TheVariants.{Found, Bad as BadAt}
use Rattle.boxes.specs.declared.Place.{Place}
use Rattle.refusal.specs.declared.Reason.TheVariants as reason
use Rattle.refusal.specs.declared.Refusal.{Refusal}
use Rattle.refusal.specs.Refusals.{refused, refusal_at}
use Rattle.boxes.specs.Walks.{stop_at}
use Rattle.boxes.proofs.Walks.{Stops, at-header}

-- a type that the search may pass, and one at which it stops; the code has `t` for whether it is text
goes_on : (text t : Bool) (at k a n : ℕ) (rest : Boxes) → t ≡ is_text k → text && not t ≡ false
    → searched text (box at k a n rest) ≡ box at k a n (searched text rest)
unfolding textual
goes_on true t at k a n rest e x = rw (← e, not-false t x)
goes_on false t at k a n rest e x = refl

breaks-off : (text t : Bool) (at k a n : ℕ) (rest : Boxes) → t ≡ is_text k → text && not t ≡ true
    → searched text (box at k a n rest) ≡ bad at
unfolding textual
breaks-off true t at k a n rest e x = rw (← e, not-true t x)
breaks-off false t at k a n rest e x = tf (sym x)

module _ (kind : ℕ) (s : List ℕ) (at : ℕ) where
  stop : (text : Bool) (h : Header) → Stops h
      → first_of kind (searched text (after_header h at (boxes_at s))) ≡ stop_at h at
  unfolding first_such textual
  stop true Short t = refl
  stop true Bad t = refl
  stop false Short t = refl
  stop false Bad t = refl
  stop text (Whole b) t = absurd (t b refl)

  none : (h : Header) → Stops h → all_of kind (after_header h at (boxes_at s)) ≡ []
  unfolding all_of
  none Short t = refl
  none Bad t = refl
  none (Whole b) t = absurd (t b refl)

  pub search-stops : (text : Bool) {h : Header} → h ≡ header_at s at → Stops h
      → first_of kind (searched text (boxes_at s at)) ≡ stop_at h at
  search-stops text {h} e t = rw (at-header s at e) (stop text h t)

  all-stops : {h : Header} → h ≡ header_at s at → Stops h → all_of kind (boxes_at s at) ≡ []
  all-stops {h} e t = rw (at-header s at e) (none h t)

  module _ {b : BoxAt} (e : Whole b ≡ header_at s at) where
    module _ (text : Bool) {t : Bool} (i : t ≡ is_text b.kind) where
      pub search-breaks : text && not t ≡ true → first_of kind (searched text (boxes_at s at)) ≡ BadAt at
      unfolding first_such
      search-breaks x = rw (at-header s at e, breaks-off text t at b.kind b.start b.len (boxes_at s b.next) i x)

      module _ (x : text && not t ≡ false) where
        pub search-finds : b.kind ≡ kind → first_of kind (searched text (boxes_at s at)) ≡ Found (place b.start b.len)
        unfolding first_such
        search-finds z = rw (at-header s at e, goes_on text t at b.kind b.start b.len (boxes_at s b.next) i x, eq-eqb _ _ z)

        pub search-passes : (b.kind ≡ kind → ⊥)
            → first_of kind (searched text (boxes_at s at)) ≡ first_of kind (searched text (boxes_at s b.next))
        unfolding first_such
        search-passes z = rw (at-header s at e, goes_on text t at b.kind b.start b.len (boxes_at s b.next) i x, ne_eqb _ _ z)

    all-finds : b.kind ≡ kind → all_of kind (boxes_at s at) ≡ place b.start b.len ∷ all_of kind (boxes_at s b.next)
    unfolding all_of
    all-finds t = rw (at-header s at e, eq-eqb _ _ t)

    all-passes : (b.kind ≡ kind → ⊥) → all_of kind (boxes_at s at) ≡ all_of kind (boxes_at s b.next)
    unfolding all_of
    all-passes t = rw (at-header s at e, ne_eqb _ _ t)

-- what was found so far, with what is left
abbrev pub with_found : Option Place → List Place → List Place
with_found None l = l
with_found (Some p) l = p ∷ l

-- a turn of a walk for the only box of a type: it ends, finds the first, finds the second, passes another
module _ (kind : ℕ) (s : List ℕ) (at : ℕ) {answer : Result Place Refusal} where
  pub no_more : (found : Option Place) → only_of (with_found found (all_of kind (boxes_at s at))) ≡ answer
      → {h : Header} → h ≡ header_at s at → Stops h → ok_or found (refusal_at reason.NoTable 0) ≡ answer
  no_more None i e t = rw (all-stops kind s at e t) at i
  no_more (Some p) i e t = rw (all-stops kind s at e t) at i

  module _ {b : BoxAt} (e : Whole b ≡ header_at s at) where
    pub first_one : (found : Option Place) → only_of (with_found found (all_of kind (boxes_at s at))) ≡ answer
        → is_some found ≡ false → b.kind ≡ kind
        → only_of (place b.start b.len ∷ all_of kind (boxes_at s b.next)) ≡ answer
    first_one None i f t = rw (all-finds kind s at e t) at i
    first_one (Some p) i f t = tf f

    pub second-one : (found : Option Place) → only_of (with_found found (all_of kind (boxes_at s at))) ≡ answer
        → is_some found ≡ true → b.kind ≡ kind → refused reason.SeveralTables 0 ≡ answer
    second-one None i f t = tf (sym f)
    second-one (Some p) i f t = rw (all-finds kind s at e t) at i

    pub not-one : (found : Option Place) → only_of (with_found found (all_of kind (boxes_at s at))) ≡ answer
        → (b.kind ≡ kind → ⊥) → only_of (with_found found (all_of kind (boxes_at s b.next))) ≡ answer
    not-one found i t = rw (all-passes kind s at e t) at i
