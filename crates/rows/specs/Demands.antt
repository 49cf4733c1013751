-- WHAT IS PROVED OF FRAME MAPS (RULES 10.8, 13.3), over the definitions of Rows. Every line is in the contract of
-- `maps_meet_the_demands`. Here m, l, x and y are maps, r and s rows, j and k frames, a..b and c..d ranges of frames.
use Rattle.std.specs.Prelude.{ℕ, ◌+◌, ◌-◌, ◌≤◌, ◌<◌, true, false, List, [], ◌∷◌, ◌↔◌, ◌≡◌, pos, length, get_or, None, Some}
use Rattle.conditions.specs.Conditions.{max_u64}
use Rattle.rows.specs.declared.Row.{Row}
use Rattle.rows.specs.Rows.{total, WellFormed, holds, origin_in, origin, cut, join, runs_on, merge}

-- what stands past the end of a map, which no row is
abbrev pub no_row : Row
no_row = record { source = 0; first = 0; count = 0; out = 0; flag = 0; shift = pos 0 }

-- the rows tile the output frames from `next` on: each begins where the one before it ends, and has frames
abbrev pub Tiles : ℕ → List Row → Type 0
Tiles next [] = Unit
Tiles next (row ∷ rest) = (row.out ≡ next) × (0 < row.count) × Tiles (next + row.count) rest

-- one row of m, and no other, holds frame k, and the frame's origin is the one that this row gives
pub record OneRow (m : List Row) (k : ℕ) : Type 0 where
  pub index : ℕ
  pub within : index < length m
  pub here : holds (get_or m index no_row) k ≡ true
  pub only : (j : ℕ) → j < length m → holds (get_or m j no_row) k ≡ true → j ≡ index
  pub gives : origin m k ≡ Some (origin_in (get_or m index no_row) k)

-- two maps give every frame the same origin
abbrev pub SameOrigins : List Row → List Row → Type 0
SameOrigins m l = (k : ℕ) → k < total m → origin m k ≡ origin l k

pub record Demands : Type 0 where
  -- A well-formed map's rows tile 0..total, and it has at most 2^64 - 1 frames.
  pub tiles : (m : List Row) → WellFormed m → Tiles 0 m × (total m ≤ max_u64)
  -- Each of its frames lies in exactly one row, which gives its one origin; a frame past the map has none.
  pub one_row : (m : List Row) (k : ℕ) → WellFormed m → k < total m → OneRow m k
  pub past_map : (m : List Row) (k : ℕ) → WellFormed m → total m ≤ k → origin m k ≡ None
  -- Frame k of a cut has the origin of frame a + k; the cut is well formed and has b - a frames.
  pub cut_origin : (m : List Row) (a b k : ℕ) → k < b - a → origin (cut a b m) k ≡ origin m (a + k)
  pub cut_well : (m : List Row) (a b : ℕ) → WellFormed m → WellFormed (cut a b m)
  pub cut_total : (m : List Row) (a b : ℕ) → WellFormed m → b ≤ total m → total (cut a b m) ≡ b - a
  -- A cut of all frames is the map itself, row for row: rows that continue stay apart.
  pub cut_all : (m : List Row) → WellFormed m → cut 0 (total m) m ≡ m
  -- A cut of a cut is, row for row, the one cut of the combined range.
  pub cut_cut : (m : List Row) (a b c d : ℕ) → d ≤ b - a → cut c d (cut a b m) ≡ cut (a + c) (a + d) m
  -- A join is well formed with the sum of frames, where that is no more than 2^64 - 1; its origins are those of the
  -- first map, then of the second.
  pub join_well : (x y : List Row) → WellFormed x → WellFormed y → total x + total y ≤ max_u64 → WellFormed (join x y)
  pub join_total : (x y : List Row) → total (join x y) ≡ total x + total y
  pub join_first : (x y : List Row) (k : ℕ) → WellFormed x → k < total x → origin (join x y) k ≡ origin x k
  pub join_second : (x y : List Row) (k : ℕ) → WellFormed x → origin (join x y) (total x + k) ≡ origin y k
  -- Merging keeps well-formedness, frames and every origin, and merging twice changes nothing more.
  pub merge_well : (m : List Row) → WellFormed m → WellFormed (merge m)
  pub merge_total : (m : List Row) → total (merge m) ≡ total m
  pub merge_origin : (m : List Row) (k : ℕ) → WellFormed m → origin (merge m) k ≡ origin m k
  pub merge_merge : (m : List Row) → merge (merge m) ≡ merge m
  -- Two maps of equally many frames merge to the same rows exactly when every frame has the same origin.
  pub merge_same : (m l : List Row)
      → WellFormed m → WellFormed l → total m ≡ total l → (merge m ≡ merge l) ↔ SameOrigins m l
  -- An absent shift isn't a shift of 0: where the flags differ so do the origins, and neither row continues the other,
  -- even where the shifts are equal.
  pub absent : (r s : Row) (j k : ℕ)
      → r.flag ≡ 0 → s.flag ≡ 1 → (origin_in r j ≡ origin_in s k → ⊥) × (runs_on r s ≡ false) × (runs_on s r ≡ false)
  -- Two neighbouring cuts joined and merged are the merged cut of the whole; together they have at most one row more
  -- than it.
  pub join_cuts : (m : List Row) (a b c : ℕ)
      → WellFormed m → a ≤ b → b ≤ c → c ≤ total m → merge (join (cut a b m) (cut b c m)) ≡ merge (cut a c m)
  pub join_cuts_rows : (m : List Row) (a b c : ℕ)
      → WellFormed m → a ≤ b → b ≤ c → length (cut a b m) + length (cut b c m) ≤ length (cut a c m) + 1
  -- A cut and a merge have no more rows than the map.
  pub cut_rows : (m : List Row) (a b : ℕ) → length (cut a b m) ≤ length m
  pub merge_rows : (m : List Row) → length (merge m) ≤ length m
