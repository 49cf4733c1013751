-- Joining: the first map's rows are laid over what is lent, and then the second's, moved, over what lies after them.
-- Assumes nothing.
use Rattle.std.proofs.Common.{◌≡◌, ℕ, ◌+◌, ◌-◌, ◌*◌, ◌≤◌, List, [], ◌∷◌, ◌++◌, map, length, get_or, take, drop, ℤ, pos, sym, refl, ap, ◌∙◌, arith, length-append}
use Rattle.std.proofs.lemmas.List.FromFn.{length-map-range_with_len}
use Rattle.slices.proofs.Ranges.{run}
use lib.ListN.{length-map}
use Rattle.std.proofs.lemmas.Simd.{map-map, pick_l_whole}
use Rattle.std.specs.List.{range_with_len}
use Rattle.slices.specs.Slices.{laid}
use Rattle.slices.proofs.Laid.{laid-laid}
use Rattle.rows.specs.declared.Row.{Row}
use Rattle.rows.specs.Rows.{total, moved, join}
use Rattle.rows.specs.Lent.{row_at, rows, words_of, shifts_of}
use Rattle.maps.specs.Answers.{join_refusal}
use Rattle.maps.specs.Spans.{Sound, Room}
use Rattle.maps.proofs.Chains.{join-unrefused}
use Rattle.refusal.proofs.Chains.{ok-of}
use Rattle.std.specs.Prelude.{Ok}
use Rattle.std.specs.Result.{result_and}
use Rattle.conditions.specs.Conditions.{max_u64}
use Rattle.rows.proofs.Flat.{words_append, shifts-append, length-words, length-shifts, words-read}

-- the rows of a map, moved, as they are written
abbrev pub later : List ℕ → List ℤ → ℕ → List Row
later u s d = run (λ j. moved d (row_at u s j)) 0 (length s)

-- a map's words and shifts are those of its rows
words-all : (u : List ℕ) (s : List ℤ) → length u ≡ 5 * length s → u ≡ words_of (rows u s)
words-all u s h = words-read u (row_at u s) (λ k. refl) (length s) h

shifts-read : (u : List ℕ) (s : List ℤ) (l : List ℕ) → shifts_of (map (row_at u s) l) ≡ map (λ k. get_or s k (pos 0)) l
shifts-read u s [] = refl
shifts-read u s (k ∷ l) = ap (λ (m : List ℤ). get_or s k (pos 0) ∷ m) (shifts-read u s l)

shifts-all : (u : List ℕ) (s : List ℤ) → s ≡ shifts_of (rows u s)
shifts-all u s = sym (shifts-read u s (range_with_len 0 (length s)) ∙ pick_l_whole (pos 0) s (length s) refl)

-- a moved row keeps its shift
shifts-moved : (d : ℕ) (m : List Row) → shifts_of (map (moved d) m) ≡ shifts_of m
shifts-moved d [] = refl
shifts-moved d (r ∷ m) = ap (λ (l : List ℤ). r.shift ∷ l) (shifts-moved d m)

pub length-rows : (u : List ℕ) (s : List ℤ) → length (rows u s) ≡ length s
length-rows u s = length-map-range_with_len (row_at u s) 0 (length s)

pub length-join : (u : List ℕ) (s : List ℤ) (v : List ℕ) (t : List ℤ)
    → length (join (rows u s) (rows v t)) ≡ length s + length t
length-join u s v t =
    let e = length-append (rows u s) (map (moved (total (rows u s))) (rows v t)) in
    omega (arith, length-map (rows v t) (moved (total (rows u s))), length-rows u s, length-rows v t)

-- what an accepted join knows
pub joins : (u : List ℕ) (s : List ℤ) (v : List ℕ) (t : List ℤ) (ou : List ℕ) (os : List ℤ)
    → join_refusal u s v t (length ou) (length os) ≡ Ok tt
    → (total (rows u s) + total (rows v t) ≤ max_u64) × Room (length s + length t) ou os
joins u s v t ou os e =
    let o = join-unrefused _ _ _ _ _ _ e in
    let n = length-join u s v t in
    (o.short, record { words = omega (arith, o.room.words); shifts = omega (arith, o.room.shifts) })

-- what is lent is ou and os; l₁ and m₁ are it with the first map written
module _ (u : List ℕ) (s : List ℤ) (v : List ℕ) (t : List ℤ) (ou : List ℕ) (os : List ℤ) (room : Room (length s + length t) ou os) where
  module _ (sizes : length u ≡ 5 * length s) (l₁ : List ℕ) (m₁ : List ℤ) (e : l₁ ≡ laid u ou) (f : m₁ ≡ laid s os) where
    first-words : l₁ ≡ laid (words_of (rows u s)) ou
    first-words = e ∙ ap (λ (x : List ℕ). laid x ou) (words-all u s sizes)

    first-shifts : m₁ ≡ laid (shifts_of (rows u s)) os
    first-shifts = f ∙ ap (λ (x : List ℤ). laid x os) (shifts-all u s)

    words-n : length (words_of (rows u s)) ≡ 5 * length s
    words-n = length-words (rows u s) ∙ ap (λ (k : ℕ). 5 * k) (length-rows u s)

    shifts-n : length (shifts_of (rows u s)) ≡ length s
    shifts-n = length-shifts (rows u s) ∙ length-rows u s

    module _ (d : ℕ) (total-is : d ≡ total (rows u s)) where
      later-is : later v t d ≡ map (moved (total (rows u s))) (rows v t)
      later-is = sym (map-map (moved d) (row_at v t) (range_with_len 0 (length t))) ∙ ap (λ (k : ℕ). map (moved k) (rows v t)) total-is

      second-n : length (map (moved (total (rows u s))) (rows v t)) ≡ length t
      second-n = length-map (rows v t) (moved (total (rows u s))) ∙ length-rows v t

      pub join-words : (l₂ : List ℕ)
          → l₂ ≡ laid (words_of (later v t d)) (take (length l₁ - 5 * length s) (drop (5 * length s) l₁))
          → take (5 * length s) l₁ ++ (l₂ ++ drop (length l₁ - 5 * length s) (drop (5 * length s) l₁)) ≡ laid (words_of (join (rows u s) (rows v t))) ou
      join-words l₂ g =
          let q = map (moved (total (rows u s))) (rows v t) in
          let n = length-words q in
          laid-laid (words_of (rows u s)) (words_of q) ou l₁ l₂ (5 * length s) first-words (sym words-n) (omega (arith, words-n, second-n, room.words))
          (g ∙ ap (λ (x : List Row). laid (words_of x) (take (length l₁ - 5 * length s) (drop (5 * length s) l₁))) later-is)
          ∙ ap (λ (x : List ℕ). laid x ou) (sym (words_append (rows u s) q))

      pub join-shifts : (m₂ : List ℤ) → m₂ ≡ laid t (take (length m₁ - length s) (drop (length s) m₁))
          → take (length s) m₁ ++ (m₂ ++ drop (length m₁ - length s) (drop (length s) m₁)) ≡ laid (shifts_of (join (rows u s) (rows v t))) os
      join-shifts m₂ g =
          let q = map (moved (total (rows u s))) (rows v t) in
          let n = length-shifts q in
          laid-laid (shifts_of (rows u s)) (shifts_of q) os m₁ m₂ (length s) first-shifts (sym shifts-n) (omega (arith, shifts-n, second-n, room.shifts))
          (g ∙ ap (λ (x : List ℤ). laid x (take (length m₁ - length s) (drop (length s) m₁))) (shifts-all v t ∙ sym (shifts-moved (total (rows u s)) (rows v t))))
          ∙ ap (λ (x : List ℤ). laid x os) (sym (shifts-append (rows u s) q))
