-- Every box of a list lies within the list, and so does what a search finds. Assumes nothing.
use mathlib.Core.Path.{◌≡◌, refl, sym, subst, ◌∙◌}
use mathlib.Core.Bool.{Bool, true, false}
use mathlib.Core.List.{List, [], ◌∷◌}
use Rattle.std.specs.Prelude.{Option, None, Some, Result, Ok, Err}
use Rattle.std.specs.Option.{ok_or}
use Rattle.std.specs.Result.{result_ok}
use Prim.Native.Nat.{ℕ, zero, suc, ◌+◌, ◌-◌, ◌≤◌}
use native.Mathlib.Omega.{arith}
use lib.ListN.{length, take, drop}
use lib.Dec.{ltb, eqb}
use borrow.Author.Tests.{ltb-false}
use Rattle.conditions.proofs.Tests.{either}
use Rattle.boxes.specs.Bytes.{moov, udta, mtrm}
use Rattle.boxes.specs.Boxes.{most_bytes, Boxes, clean, bad, box, header_at, after_header, boxes_from, boxes_at, boxes_of, is_text, textual, searched, first_such, first_of}
use Rattle.boxes.specs.Places.{found_place, place_of, moved_walk, moved_place, in_part, child_in, child_place, find_box_place, all_of, only_of, table_in, table_text_place}
use Rattle.boxes.specs.declared.Header.{Header}
use Rattle.boxes.specs.declared.Header.TheVariants.{Whole, Short, Bad}
use Rattle.boxes.specs.declared.Walk.{Walk}
use Rattle.boxes.specs.declared.Walk.TheVariants.{Found, End, Bad as BadAt}
use Rattle.boxes.specs.declared.Place.{Place}
use Rattle.refusal.specs.declared.Reason.TheVariants as reason
use Rattle.refusal.specs.declared.Refusal.{Refusal}
use Rattle.refusal.specs.Refusals.{refusal_at}
use Rattle.boxes.specs.Walks.{offset_in, Within, WalkStays}
use Rattle.boxes.proofs.Sizes.{Lies, header-lies}
use Rattle.boxes.proofs.Parts.{length_part}

-- every payload ends within so many bytes, and of every header 8 bytes are there
abbrev Inside : ℕ → Boxes → Type 0
Inside l clean = Unit {0}
Inside l (bad at) = at + 8 ≤ l
Inside l (box at kind start len rest) = (start + len ≤ l) × (at + 8 ≤ l) × Inside l rest

after-inside : (l at : ℕ) (f : ℕ → Boxes) (h : Header) → Lies at l h → ((k : ℕ) → Inside l (f k))
    → Inside l (after_header h at f)
after-inside l at f Short z e = tt
after-inside l at f Bad z e = z
after-inside l at f (Whole b) z e = (omega arith, omega arith, e b.next)

inside-from : (m : ℕ) (s : List ℕ) (at : ℕ) → Inside (length s) (boxes_from m s at)
unfolding boxes_from
inside-from zero s at = tt
inside-from (suc m) s at =
    after-inside (length s) at (boxes_from m s) (header_at s at) (header-lies s at) (λ k. inside-from m s k)

inside : (s : List ℕ) → Inside (length s) (boxes_of s)
unfolding boxes_at
inside s = inside-from (length s - 0) s 0

textual-inside : (l : ℕ) (b : Boxes) → Inside l b → Inside l (textual b)
unfolding textual
textual-inside l clean i = tt
textual-inside l (bad at) i = i
textual-inside l (box at k start len rest) i =
    either (Inside l) (is_text k) (λ e. (i.0, i.1, textual-inside l rest i.2)) (λ e. i.1)

searched-inside : (l : ℕ) (text : Bool) (b : Boxes) → Inside l b → Inside l (searched text b)
searched-inside l true b i = textual-inside l b i
searched-inside l false b i = i

first-inside : (l : ℕ) (test : ℕ → ℕ → ℕ → Bool) (b : Boxes) → Inside l b → WalkStays l (first_such test b)
unfolding first_such
first-inside l test clean i = tt
first-inside l test (bad at) i = i
first-inside l test (box at k start len rest) i =
    either (WalkStays l) (test k start len) (λ e. i.0) (λ e. first-inside l test rest i.2)

-- every walk over a list stays within it, and so does a search, with text types or without
pub walk-stays : (test : ℕ → ℕ → ℕ → Bool) (s : List ℕ) {w : Walk} → w ≡ first_such test (boxes_of s)
    → WalkStays (length s) w
walk-stays test s e = subst (WalkStays (length s)) (sym e) (first-inside (length s) test (boxes_of s) (inside s))

pub search-stays : (kind : ℕ) (text : Bool) (s : List ℕ) {w : Walk} → w ≡ first_of kind (searched text (boxes_of s))
    → WalkStays (length s) w
search-stays kind text s e =
    subst (WalkStays (length s)) (sym e)
    (first-inside (length s) (λ k start len. eqb k kind) (searched text (boxes_of s)) (searched-inside (length s) text (boxes_of s) (inside s)))

-- so do its offset and its place, whatever is answered where nothing was found
pub offset-within : (l : ℕ) (w : Walk) → WalkStays l w → offset_in w ≤ l
offset-within l (Found p) h = omega arith
offset-within l End h = omega arith
offset-within l (BadAt at) h = omega arith

pub walked_within : (l : ℕ) (w : Walk) → WalkStays l w → Within l (found_place w)
walked_within l (Found p) h = h
walked_within l End h = tt
walked_within l (BadAt at) h = tt

place-of-within : (l : ℕ) (w : Walk) → WalkStays l w → Within l (result_ok (place_of w))
place-of-within l (Found p) h = h
place-of-within l End h = tt
place-of-within l (BadAt at) h = tt

-- a walk in a part stays within the whole
moved-stays : (by l m : ℕ) (w : Walk) → WalkStays m w → by + m ≤ l → WalkStays l (moved_walk by w)
moved-stays by l m (Found p) h k = omega arith
moved-stays by l m End h k = tt
moved-stays by l m (BadAt at) h k = omega arith

pub offset_moves : (s : List ℕ) (start end kind : ℕ) (text : Bool) {w : Walk} → start ≤ end → end ≤ length s
    → w ≡ first_of kind (searched text (boxes_of (take (end - start) (drop start s)))) → start + offset_in w ≤ length s
offset_moves s start end kind text {w} h k e =
    let part = take (end - start) (drop start s) in
    omega (arith, offset-within (length part) w (search-stays kind text part e), length_part s start (end - start) (omega arith))

-- a place that is there is the same place where another would be a refusal
ok-within : (l : ℕ) (p : Option Place) (e : Refusal) → Within l p → Within l (result_ok (ok_or p e))
ok-within l (Some p) e h = h
ok-within l None e h = tt

-- a place that is answered, as the code has it
pub fits_in : (l : ℕ) (w : Walk) (e : Refusal) {o : Option Place} {r : Result Place Refusal} {p : Place} → WalkStays l w
    → o ≡ found_place w → r ≡ ok_or o e → r ≡ Ok p → p.start + p.len ≤ l
fits_in l w e {o} h f g k =
    subst (λ (r : Result Place Refusal). Within l (result_ok r)) (sym g ∙ k) (ok-within l o e (subst (Within l) (sym f) (walked_within l w h)))

-- a place in a part, moved to its place in the whole
moved-within : (a l m : ℕ) (p : Result Place Refusal) → Within m (result_ok p) → a + m ≤ l
    → Within l (result_ok (moved_place a p))
moved-within a l m (Ok p) w h = omega arith
moved-within a l m (Err refusal) w h = tt

in-part-within : (s : List ℕ) (p : Result Place Refusal) (search : List ℕ → Result Place Refusal)
    → Within (length s) (result_ok p) → ((t : List ℕ) → Within (length t) (result_ok (search t)))
    → Within (length s) (result_ok (in_part s p search))
in-part-within s (Ok p) search w f =
    let t = take p.len (drop p.start s) in
    moved-within p.start (length s) (length t) (search t) (f t) (omega (arith, length_part s p.start p.len w))
in-part-within s (Err refusal) search w f = tt

-- the move wraps nothing; the code has the part as `&s[a..a + n]`
pub movable : (s : List ℕ) (a n : ℕ) {r v : Result Place Refusal} {p : Place} → a + n ≤ length s → r ≡ v → r ≡ Ok p
    → Within (length (take (a + n - a) (drop a s))) (result_ok v) → a + p.start ≤ length s
movable s a n {p = p} h e f w =
    let l = length (take (a + n - a) (drop a s)) in
    let there : Within l (Some p) = subst (λ (r : Result Place Refusal). Within l (result_ok r)) (sym e ∙ f) w in
    omega (arith, there, length_part s a (a + n - a) (omega arith))

-- all boxes of a type, and the only one
abbrev Each : ℕ → List Place → Type 0
Each l [] = Unit {0}
Each l (p ∷ ps) = (p.start + p.len ≤ l) × Each l ps

all-inside : (l kind : ℕ) (b : Boxes) → Inside l b → Each l (all_of kind b)
unfolding all_of
all-inside l kind clean i = tt
all-inside l kind (bad at) i = tt
all-inside l kind (box at k start len rest) i =
    either (Each l) (eqb k kind) (λ e. (i.0, all-inside l kind rest i.2)) (λ e. all-inside l kind rest i.2)

only-inside : (l : ℕ) (ps : List Place) → Each l ps → Within l (result_ok (only_of ps))
only-inside l [] e = tt
only-inside l (p ∷ []) e = e.0
only-inside l (p ∷ q ∷ ps) e = tt

pub only-within : (kind : ℕ) (s : List ℕ) → Within (length s) (result_ok (only_of (all_of kind (boxes_of s))))
only-within kind s = only-inside (length s) (all_of kind (boxes_of s)) (all-inside (length s) kind (boxes_of s) (inside s))

-- what each call answers lies within its bytes
found-within : (kind : ℕ) (text : Bool) (s : List ℕ) (e : Refusal)
    → Within (length s) (result_ok (ok_or (found_place (first_of kind (searched text (boxes_of s)))) e))
found-within kind text s e =
    let w = first_of kind (searched text (boxes_of s)) in
    ok-within (length s) (found_place w) e (walked_within (length s) w (search-stays kind text s refl))

pub table-of-within : (m : List ℕ) → Within (length m) (result_ok (table_in m))
unfolding table_in
table-of-within m =
    in-part-within m (ok_or (child_in udta m) (refusal_at reason.NoTable 0)) (λ u. only_of (all_of mtrm (boxes_of u))) (found-within udta false m (refusal_at reason.NoTable 0)) (only-within mtrm)

module _ (s : List ℕ) where
  abbrev Placed : Result Place Refusal → Type 0
  Placed r = Within (length s) (result_ok r)

  pub child_within : (kind : ℕ) → Placed (child_place s kind)
  child_within kind = either Placed (ltb most_bytes (length s)) (λ a. tt) (λ a. place-of-within (length s) (first_of kind (boxes_of s)) (search-stays kind false s refl))

  pub find_box_within : (start end kind : ℕ) (text : Bool) → Placed (find_box_place s start end kind text)
  unfolding find_box_place
  find_box_within start end kind text =
      either Placed (ltb most_bytes (length s)) (λ a. tt)
      (λ a. either Placed (ltb (length s) end) (λ b. tt)
      (λ b. either Placed (ltb end start) (λ d. tt)
      (λ d. let part = take (end - start) (drop start s) in
      let fits : start + (end - start) ≤ length s = omega (arith, ltb-false (length s) end b, ltb-false end start d) in
      let w = first_of kind (searched text (boxes_of part)) in
      place-of-within (length s) (moved_walk start w)
      (moved-stays start (length s) (length part) w (search-stays kind text part refl) (omega (arith, fits, length_part s start (end - start) fits))))))

  -- what find_box_place answered ends within the bytes, as a caller has it
  pub found_ends : (start end kind : ℕ) (text : Bool) {r : Result Place Refusal} {p : Place}
      → r ≡ find_box_place s start end kind text → r ≡ Ok p → p.start + p.len ≤ length s
  found_ends start end kind text e f = subst Placed (sym e ∙ f) (find_box_within start end kind text)

  pub table_text_within : Placed (table_text_place s)
  table_text_within =
      either Placed (ltb most_bytes (length s)) (λ a. tt)
      (λ a. in-part-within s (ok_or (found_place (first_of moov (textual (boxes_of s)))) (refusal_at reason.NoTable 0)) table_in (found-within moov true s (refusal_at reason.NoTable 0)) table-of-within)

-- in the part of the first udta, a search that is refused
pub no_table : (moov : List ℕ) (place : Place) (why : Refusal) → ok_or (child_in udta moov) (refusal_at reason.NoTable 0) ≡ Ok place
    → only_of (all_of mtrm (boxes_of (take place.len (drop place.start moov)))) ≡ Err why → Err why ≡ table_in moov
unfolding table_in
no_table moov place why h k = sym (rw (h, k) refl)
