-- 36's index is the offset of a header that is there and broken, and the walk had come to it. Assumes nothing.
use mathlib.Core.Path.{◌≡◌, refl, sym, subst}
use mathlib.Core.Bool.{Bool, false}
use mathlib.Core.Logic.{inl}
use mathlib.Core.List.{List}
use Prim.Native.Nat.{ℕ, ◌+◌, ◌-◌, ◌≤◌}
use native.Mathlib.Nat.{add-sub_cancel_left}
use native.Mathlib.Omega.{arith}
use lib.ListN.{length, take, drop}
use lib.Dec.{ltb, eqb}
use borrow.Author.Tests.{ltb-false}
use Rattle.conditions.proofs.Tests.{either}
use Rattle.refusal.specs.declared.Reason.TheVariants as reason
use Rattle.boxes.specs.Boxes.{most_bytes, header_at, boxes_of, searched, first_of, reached_by, children_at}
use Rattle.boxes.specs.Places.{child_place, find_box_place}
use Rattle.boxes.specs.declared.Header.{Header}
use Rattle.boxes.specs.declared.Header.TheVariants.{Whole, Short, Bad}
use Rattle.boxes.specs.declared.Walk.TheVariants.{End, Bad as BadAt}
use Rattle.boxes.proofs.Sizes.{Lies, header-lies}
use Rattle.boxes.proofs.Parts.{length_part}
use Rattle.boxes.proofs.Within.{search-stays}
use Rattle.stops.specs.Stops.{ending, Broken, StopsAt, StopsIn, OfOne, searches, Stopping}
use Rattle.stops.specs.Promises.{ChildPlace, FindBoxPlace, Children, FrameTimesOf}
use Rattle.stops.proofs.Answers.{Told, place-told, moved_told, place-ended, moved-ended}
use Rattle.stops.proofs.Ends.{walk_ends, stopped-at-bad}
use Rattle.stops.proofs.Descent.{moov-told}

-- `child`
child-told : (b : List ℕ) (kind : ℕ) → Told reason.Broken (StopsAt false b) (child_place b kind)
child-told b kind =
    either (Told reason.Broken (StopsAt false b)) (ltb most_bytes (length b)) (λ t n. absurd (grind arith))
    (λ t. place-told (StopsAt false b) (first_of kind (boxes_of b)) (λ at e. stopped-at-bad false (λ k start len. eqb k kind) b e))

-- all boxes were walked, to a clean end
abbrev AllWalked : List ℕ → Bool → Type 0
AllWalked s text = ending (searched text (boxes_of s)) ≡ End

child-ended : (b : List ℕ) (kind : ℕ) → Told reason.Missing (λ i. AllWalked b false) (child_place b kind)
child-ended b kind =
    either (Told reason.Missing (λ i. AllWalked b false)) (ltb most_bytes (length b)) (λ t n. absurd (grind arith))
    (λ t. place-ended (AllWalked b false) (first_of kind (boxes_of b)) (walk_ends false (λ k start len. eqb k kind) b))

-- `find_box`
module _ (b : List ℕ) (start end kind : ℕ) (text : Bool) where
  abbrev StopsFrom : ℕ → Type 0
  StopsFrom i = (start ≤ i) × (i + 8 ≤ end) × StopsAt text (take (end - start) (drop start b)) (i - start)

  stops-from : end ≤ length b → start ≤ end → (at : ℕ)
      → first_of kind (searched text (boxes_of (take (end - start) (drop start b)))) ≡ BadAt at → StopsFrom (start + at)
  stops-from h k at e =
      let part = take (end - start) (drop start b) in
      let there : at + 8 ≤ length part = search-stays kind text part (sym e) in
      let long : length part ≡ end - start = length_part b start (end - start) (omega arith) in
      (omega arith, omega arith, subst (StopsAt text part) (sym (add-sub_cancel_left start at)) (stopped-at-bad text (λ k start len. eqb k kind) part e))

  find-box-told : Told reason.Broken StopsFrom (find_box_place b start end kind text)
  unfolding find_box_place
  find-box-told =
      either (Told reason.Broken StopsFrom) (ltb most_bytes (length b)) (λ t n. absurd (grind arith))
      (λ t. either (Told reason.Broken StopsFrom) (ltb (length b) end) (λ u n. absurd (grind arith))
      (λ u. either (Told reason.Broken StopsFrom) (ltb end start) (λ v n. absurd (grind arith))
      (λ v. moved_told StopsFrom start (first_of kind (searched text (boxes_of (take (end - start) (drop start b)))))
      (stops-from (ltb-false (length b) end u) (ltb-false end start v)))))

  find-box-ended : Told reason.Missing (λ i. AllWalked (take (end - start) (drop start b)) text) (find_box_place b start end kind text)
  unfolding find_box_place
  find-box-ended =
      let part = take (end - start) (drop start b) in
      let E = Told reason.Missing (λ i. AllWalked part text) in
      either E (ltb most_bytes (length b)) (λ t n. absurd (grind arith))
      (λ t. either E (ltb (length b) end) (λ u n. absurd (grind arith))
      (λ u. either E (ltb end start) (λ v n. absurd (grind arith))
      (λ v. moved-ended (AllWalked part text) start (first_of kind (searched text (boxes_of part))) (walk_ends text (λ k start len. eqb k kind) part))))

-- `children`
module _ (b : List ℕ) (at : ℕ) where
  abbrev BrokenThere : ℕ → Type 0
  BrokenThere i = (i ≡ at) × Broken false b at

  reached-told : (h : Header) → header_at b at ≡ h → Lies at (length b) h
      → Told reason.Broken BrokenThere (reached_by h at)
  reached-told Short e l = λ n. absurd (grind arith)
  reached-told Bad e l = λ n. (refl, (l, inl e))
  reached-told (Whole found) e l = tt

  children-told : Told reason.Broken BrokenThere (children_at b at)
  children-told =
      either (Told reason.Broken BrokenThere) (ltb most_bytes (length b)) (λ t n. absurd (grind arith))
      (λ t. either (Told reason.Broken BrokenThere) (ltb (length b) at) (λ u n. absurd (grind arith))
      (λ u. reached-told (header_at b at) refl (header-lies b at)))

pub stopping : Stopping ChildPlace FindBoxPlace Children FrameTimesOf
stopping = record {
  child = λ b kind i p. subst (Told reason.Broken (StopsAt false b)) (sym p) (child-told b kind) refl;
  child_end = λ b kind i p. subst (Told reason.Missing (λ i. AllWalked b false)) (sym p) (child-ended b kind) refl;
  find_box = λ b start end kind text i p. subst (Told reason.Broken (StopsFrom b start end kind text)) (sym p) (find-box-told b start end kind text) refl;
  find_box_end = λ b start end kind text i p. subst (Told reason.Missing (λ i. AllWalked (take (end - start) (drop start b)) text)) (sym p) (find-box-ended b start end kind text) refl;
  children = λ b at i p. subst (Told reason.Broken (BrokenThere b at)) (sym p) (children-told b at) refl;
  frame_times = λ moov standard starts a b starts' a' b' i p. subst (Told reason.Broken (λ i. OfOne (StopsIn moov i) (searches moov))) (sym p.answer) (moov-told moov standard _) refl;
}
