-- 31 is divided, and nothing else: with 36 taken back every answer is the undivided one. Assumes nothing.
use Rattle.std.specs.Prelude.{if◌then◌else◌}
use mathlib.Core.Path.{◌≡◌, refl, ap, ◌∙◌}
use mathlib.Core.Bool.{Bool, true, false}
use mathlib.Core.List.{List}
use Prim.Native.Nat.{ℕ, ◌-◌}
use lib.IntN.{ℤ}
use lib.ListN.{length, take, drop}
use lib.Dec.{ltb}
use Rattle.slices.specs.Slices.{laid}
use Rattle.boxes.specs.Boxes.{most_bytes, header_at, boxes_of, searched, first_of, reached_by, children_at}
use Rattle.boxes.specs.Places.{place_of, moved_walk, moved_place, child_place, find_box_place}
use Rattle.boxes.specs.declared.Header.{Header}
use Rattle.boxes.specs.declared.Header.TheVariants.{Whole, Short, Bad}
use Rattle.boxes.specs.declared.Walk.{Walk}
use Rattle.boxes.specs.declared.Walk.TheVariants.{Found, End, Bad as BadAt}
use Rattle.frame_times.specs.Times.{room}
use Rattle.stops.specs.Stops.{Dividing}
use Rattle.stops.specs.Undivided.{taken_back, place_undivided, reached_undivided, child_undivided, find_box_undivided, children_undivided}
use Rattle.stops.specs.Promises.{ChildPlace, FindBoxPlace, Children, FrameTimesOf}
use Rattle.stops.proofs.TakenBack.{moov-back}

-- through a choice
chosen : {A : Type 0} (f : A → A) (b : Bool) (x y x' y' : A) → f x ≡ x' → f y ≡ y'
    → f (if b then x else y) ≡ (if b then x' else y')
chosen f true x y x' y' e g = e
chosen f false x y x' y' e g = g

-- `child`
place-back : (w : Walk) → taken_back (place_of w) ≡ place_undivided w
place-back (Found p) = refl
place-back End = refl
place-back (BadAt at) = refl

child-back : (b : List ℕ) (kind : ℕ) → taken_back (child_place b kind) ≡ child_undivided b kind
unfolding child_undivided
child-back b kind = chosen taken_back (ltb most_bytes (length b)) _ _ _ _ refl (place-back (first_of kind (boxes_of b)))

-- `find_box`
moved_back : (by : ℕ) (w : Walk) → taken_back (place_of (moved_walk by w)) ≡ moved_place by (place_undivided w)
moved_back by (Found p) = refl
moved_back by End = refl
moved_back by (BadAt at) = refl

find-box-back : (b : List ℕ) (start end kind : ℕ) (text : Bool)
    → taken_back (find_box_place b start end kind text) ≡ find_box_undivided b start end kind text
unfolding find_box_place find_box_undivided
find-box-back b start end kind text =
    chosen taken_back (ltb most_bytes (length b)) _ _ _ _ refl
    (chosen taken_back (ltb (length b) end) _ _ _ _ refl
    (chosen taken_back (ltb end start) _ _ _ _ refl (moved_back start (first_of kind (searched text (boxes_of (take (end - start) (drop start b))))))))

-- `children`
reached-back : (h : Header) (at : ℕ) → taken_back (reached_by h at) ≡ reached_undivided h
reached-back Short at = refl
reached-back Bad at = refl
reached-back (Whole found) at = refl

children-back : (b : List ℕ) (at : ℕ) → taken_back (children_at b at) ≡ children_undivided b at
unfolding children_undivided
children-back b at =
    chosen taken_back (ltb most_bytes (length b)) _ _ _ _ refl
    (chosen taken_back (ltb (length b) at) _ _ _ _ refl (reached-back (header_at b at) at))

pub dividing : Dividing ChildPlace FindBoxPlace Children FrameTimesOf
dividing = record {
  child = λ b kind r p. ap taken_back p ∙ child-back b kind;
  find_box = λ b start end kind text r p. ap taken_back p ∙ find-box-back b start end kind text;
  children = λ b at r p. ap taken_back p ∙ children-back b at;
  frame_times = λ moov standard starts a b starts' a' b' r p.
      (ap taken_back p.answer ∙ (moov-back standard moov (room starts a b)).answer, p.starts ∙ ap (λ (l : List ℤ). laid l starts) (moov-back standard moov (room starts a b)).starts);
}
