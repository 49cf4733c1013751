-- WHAT THE CALLS GIVE TOGETHER (RULES 10.8, 13.3), of any four calls. `Cut`, `Join`, `Merge` and `Trace` say which
-- answers the calls allow, so that each law speaks of any such answers. Every line is proved of the promises of
-- Answers.antt, as the contract of `calls_keep_origins`, and the audit claims it of the promises in the source.
--
-- The letters: u, s are a map's words and shifts, v, t a second one's, m a map's rows. ou, os are lent for the rows of
-- an answer, ou', os' are the same afterwards, ou'', os'' after a second call. mu, ms are lent likewise for a cut, pu,
-- ps and qu, qs for two neighbouring ones, ju, js for their join, wu, ws for the cut of the whole. r, q, x and y are
-- what calls answer; i, j, k, n and w are how many rows, f is a frame, a..b, b..c and c..d are ranges of frames.
use Rattle.std.specs.Prelude.{◌≡◌, ℕ, ◌+◌, ◌-◌, ◌*◌, ◌<◌, ◌≤◌, ◌↔◌, List, length, take, drop, ℤ, Result, Ok, Err}
use Rattle.conditions.specs.Conditions.{max_u64}
use Rattle.refusal.specs.declared.Refusal.{Refusal}
use Rattle.refusal.specs.declared.Reason.TheVariants as reason
use Rattle.refusal.specs.Refusals.{refused}
use Rattle.rows.specs.declared.Row.{Row}
use Rattle.rows.specs.declared.Origin.{Origin}
use Rattle.rows.specs.Rows.{row_end, total, WellFormed, origin_in, cut, join, merge}
use Rattle.rows.specs.Lent.{row_at, rows}
use Rattle.maps.specs.Answers.{most_rows}

-- a lent map that no call refuses for itself (51, or 52 for its rows)
pub record LentMap (u : List ℕ) (s : List ℤ) : Type 0 where
  pub some : 0 < length s
  pub sizes : length u ≡ 5 * length s
  pub well : WellFormed (rows u s)
  pub few : length s ≤ most_rows

-- the first k rows of what is lent, lent again, are the map m
pub record Wrote (k : ℕ) (ou : List ℕ) (os : List ℤ) (m : List Row) : Type 0 where
  pub lent : LentMap (take (5 * k) ou) (take k os)
  pub is : rows (take (5 * k) ou) (take k os) ≡ m

-- what a call left as it was lent: all of it by a refusal, and what lies past k rows by an answer of k rows
abbrev pub AsLent : Result ℕ Refusal → List ℕ → List ℤ → List ℕ → List ℤ → Type 0
AsLent (Ok k) ou os ou' os' = (drop (5 * k) ou' ≡ drop (5 * k) ou) × (drop k os' ≡ drop k os)
AsLent (Err refusal) ou os ou' os' = (ou' ≡ ou) × (os' ≡ os)

-- frame f lies in one row, and no other, and the answer r is made of that row
pub record TracedTo (u : List ℕ) (s : List ℤ) (f : ℕ) (r : Result Origin Refusal) : Type 0 where
  pub index : ℕ
  pub within : index < length s
  pub low : (row_at u s index).out ≤ f
  pub high : f < row_end (row_at u s index)
  pub only : (j : ℕ) → j < length s → (row_at u s j).out ≤ f → f < row_end (row_at u s j) → j ≡ index
  pub gives : r ≡ Ok (origin_in (row_at u s index) f)

-- what a call that writes rows allows after its own arguments: of the slices as lent, its answer, and the slices
-- afterwards
abbrev pub Writes : Type 1
Writes = List ℕ → List ℤ → Result ℕ Refusal → List ℕ → List ℤ → Type 0

pub record Laws
    (Cut : List ℕ → List ℤ → ℕ → ℕ → Writes)
    (Join : List ℕ → List ℤ → List ℕ → List ℤ → Writes)
    (Merge : List ℕ → List ℤ → Writes)
    (Trace : List ℕ → List ℤ → ℕ → Result Origin Refusal → Type 0)
    : Type 0 where
  -- 1. Every call leaves what it doesn't answer as it was lent.
  pub cut_leaves : (u : List ℕ) (s : List ℤ) (a b : ℕ) (ou ou' : List ℕ) (os os' : List ℤ) (r : Result ℕ Refusal)
      → Cut u s a b ou os r ou' os' → AsLent r ou os ou' os'
  pub join_leaves : (u v : List ℕ) (s t : List ℤ) (ou ou' : List ℕ) (os os' : List ℤ) (r : Result ℕ Refusal)
      → Join u s v t ou os r ou' os' → AsLent r ou os ou' os'
  pub merge_leaves : (u : List ℕ) (s : List ℤ) (ou ou' : List ℕ) (os os' : List ℤ) (r : Result ℕ Refusal)
      → Merge u s ou os r ou' os' → AsLent r ou os ou' os'
  -- 2. An accepted call was asked of lent maps, and what it wrote is again a map that can be lent: the cut, the join,
  -- the merge, with b - a frames, with the frames of both, with as many as before. A cut of all frames is the map
  -- itself, row for row.
  pub cut_gives : (u : List ℕ) (s : List ℤ) (a b k : ℕ) (ou ou' : List ℕ) (os os' : List ℤ)
      → Cut u s a b ou os (Ok k) ou' os'
      → LentMap u s × (a < b) × (b ≤ total (rows u s)) × Wrote k ou' os' (cut a b (rows u s))
      × (total (cut a b (rows u s)) ≡ b - a)
  pub join_gives : (u v : List ℕ) (s t : List ℤ) (k : ℕ) (ou ou' : List ℕ) (os os' : List ℤ)
      → Join u s v t ou os (Ok k) ou' os'
      → LentMap u s × LentMap v t × (total (rows u s) + total (rows v t) ≤ max_u64)
      × Wrote k ou' os' (join (rows u s) (rows v t)) × (k ≡ length s + length t)
      × (total (join (rows u s) (rows v t)) ≡ total (rows u s) + total (rows v t))
  pub merge_gives : (u : List ℕ) (s : List ℤ) (k : ℕ) (ou ou' : List ℕ) (os os' : List ℤ)
      → Merge u s ou os (Ok k) ou' os'
      → LentMap u s × Wrote k ou' os' (merge (rows u s)) × (total (merge (rows u s)) ≡ total (rows u s))
  pub cut_whole : (u : List ℕ) (s : List ℤ) (k : ℕ) (ou ou' : List ℕ) (os os' : List ℤ)
      → Cut u s 0 (total (rows u s)) ou os (Ok k) ou' os'
      → Wrote k ou' os' (rows u s)
  -- And a call on lent maps is refused for nothing but its range, its frames or the room: a cut and a merge never have
  -- more rows than the map.
  pub cut_accepts : (u : List ℕ) (s : List ℤ) (a b : ℕ) (ou ou' : List ℕ) (os os' : List ℤ) (r : Result ℕ Refusal)
      → LentMap u s → a < b → b ≤ total (rows u s)
      → 5 * length (cut a b (rows u s)) ≤ length ou → length (cut a b (rows u s)) ≤ length os
      → Cut u s a b ou os r ou' os' → r ≡ Ok (length (cut a b (rows u s)))
  pub join_accepts : (u v : List ℕ) (s t : List ℤ) (ou ou' : List ℕ) (os os' : List ℤ) (r : Result ℕ Refusal)
      → LentMap u s → LentMap v t → total (rows u s) + total (rows v t) ≤ max_u64
      → length s + length t ≤ most_rows → 5 * (length s + length t) ≤ length ou → length s + length t ≤ length os
      → Join u s v t ou os r ou' os' → r ≡ Ok (length s + length t)
  pub merge_accepts : (u : List ℕ) (s : List ℤ) (ou ou' : List ℕ) (os os' : List ℤ) (r : Result ℕ Refusal)
      → LentMap u s → 5 * length (merge (rows u s)) ≤ length ou → length (merge (rows u s)) ≤ length os
      → Merge u s ou os r ou' os' → r ≡ Ok (length (merge (rows u s)))
  -- 3. Each frame of a lent map lies in exactly one row, which `origin` answers; a frame past the map is 54.
  pub origin_found : (u : List ℕ) (s : List ℤ) (f : ℕ) (r : Result Origin Refusal)
      → LentMap u s → f < total (rows u s) → Trace u s f r → TracedTo u s f r
  pub origin_past : (u : List ℕ) (s : List ℤ) (f : ℕ) (r : Result Origin Refusal)
      → LentMap u s → total (rows u s) ≤ f → Trace u s f r → r ≡ refused reason.PastMap 0
  -- 4. Frame f of a cut has the origin of frame a + f.
  pub cut_origins : (u : List ℕ) (s : List ℤ) (a b k f : ℕ) (ou ou' : List ℕ) (os os' : List ℤ)
      (r q : Result Origin Refusal)
      → Cut u s a b ou os (Ok k) ou' os' → f < b - a
      → Trace (take (5 * k) ou') (take k os') f r → Trace u s (a + f) q → r ≡ q
  -- 5. A cut of what a cut wrote answers and leaves what the one cut of the combined range does, refusals too.
  pub cut_again : (u : List ℕ) (s : List ℤ) (a b c d k : ℕ) (mu mu' ou ou' ou'' : List ℕ) (ms ms' os os' os'' : List ℤ)
      (r q : Result ℕ Refusal)
      → Cut u s a b mu ms (Ok k) mu' ms'
      → Cut (take (5 * k) mu') (take k ms') c d ou os r ou' os'
      → Cut u s (a + c) (a + d) ou os q ou'' os''
      → d ≤ b - a
      → (r ≡ q) × (ou' ≡ ou'') × (os' ≡ os'')
  -- 6. A join has the origins of its first map, and then those of its second.
  pub join_origins : (u v : List ℕ) (s t : List ℤ) (k f : ℕ) (ou ou' : List ℕ) (os os' : List ℤ)
      (r q : Result Origin Refusal)
      → Join u s v t ou os (Ok k) ou' os' → f < total (rows u s)
      → Trace (take (5 * k) ou') (take k os') f r → Trace u s f q → r ≡ q
  pub join_origins_second : (u v : List ℕ) (s t : List ℤ) (k f : ℕ) (ou ou' : List ℕ) (os os' : List ℤ)
      (r q : Result Origin Refusal)
      → Join u s v t ou os (Ok k) ou' os'
      → Trace (take (5 * k) ou') (take k os') (total (rows u s) + f) r → Trace v t f q → r ≡ q
  -- 7. A merge keeps every origin, and merging what it wrote again, into the same room, changes nothing more.
  pub merge_origins : (u : List ℕ) (s : List ℤ) (k f : ℕ) (ou ou' : List ℕ) (os os' : List ℤ)
      (r q : Result Origin Refusal)
      → Merge u s ou os (Ok k) ou' os'
      → Trace (take (5 * k) ou') (take k os') f r → Trace u s f q → r ≡ q
  pub merge_again : (u : List ℕ) (s : List ℤ) (k : ℕ) (ou ou' ou'' : List ℕ) (os os' os'' : List ℤ)
      (r : Result ℕ Refusal)
      → Merge u s ou os (Ok k) ou' os'
      → Merge (take (5 * k) ou') (take k os') ou os r ou'' os''
      → (r ≡ Ok k) × (ou'' ≡ ou') × (os'' ≡ os')
  -- 8. Two maps of equally many frames merge to the same rows exactly when `origin` answers the same for every frame.
  pub merge_same : (u v : List ℕ) (s t : List ℤ) (i j : ℕ) (ou ou' ou'' : List ℕ) (os os' os'' : List ℤ)
      → Merge u s ou os (Ok i) ou' os' → Merge v t ou os (Ok j) ou'' os'' → total (rows u s) ≡ total (rows v t)
      → ((i ≡ j) × (ou' ≡ ou'') × (os' ≡ os''))
      ↔ ((f : ℕ) (r q : Result Origin Refusal) → f < total (rows u s) → Trace u s f r → Trace v t f q → r ≡ q)
  -- 9. Two neighbouring cuts joined and merged give what the merged cut of the whole gives.
  pub join_cuts : (u : List ℕ) (s : List ℤ) (a b c i j n w : ℕ) (pu pu' qu qu' ju ju' wu wu' ou ou' ou'' : List ℕ)
      (ps ps' qs qs' js js' ws ws' os os' os'' : List ℤ) (x y : Result ℕ Refusal)
      → Cut u s a b pu ps (Ok i) pu' ps'
      → Cut u s b c qu qs (Ok j) qu' qs'
      → Join (take (5 * i) pu') (take i ps') (take (5 * j) qu') (take j qs') ju js (Ok n) ju' js'
      → Merge (take (5 * n) ju') (take n js') ou os x ou' os'
      → Cut u s a c wu ws (Ok w) wu' ws'
      → Merge (take (5 * w) wu') (take w ws') ou os y ou'' os''
      → (x ≡ y) × (ou' ≡ ou'') × (os' ≡ os'')
  -- The bound: that join, given room, is refused exactly where both cuts together have over 1,024 rows, and they have
  -- at most one row more than the cut of the whole. So it is accepted wherever the whole has up to 1,023 rows; where it
  -- has 1,024, the cuts can need 1,025, which is 52.
  pub join_cuts_answer : (u : List ℕ) (s : List ℤ) (a b c i j : ℕ) (pu pu' qu qu' ju ju' : List ℕ)
      (ps ps' qs qs' js js' : List ℤ) (r : Result ℕ Refusal)
      → Cut u s a b pu ps (Ok i) pu' ps'
      → Cut u s b c qu qs (Ok j) qu' qs'
      → Join (take (5 * i) pu') (take i ps') (take (5 * j) qu') (take j qs') ju js r ju' js'
      → 5 * (i + j) ≤ length ju → i + j ≤ length js
      → (i + j ≤ most_rows → r ≡ Ok (i + j)) × (most_rows < i + j → r ≡ refused reason.RowsDontFit 0)
  pub join_cuts_rows : (u : List ℕ) (s : List ℤ) (a b c i j w : ℕ) (pu pu' qu qu' wu wu' : List ℕ)
      (ps ps' qs qs' ws ws' : List ℤ)
      → Cut u s a b pu ps (Ok i) pu' ps'
      → Cut u s b c qu qs (Ok j) qu' qs'
      → Cut u s a c wu ws (Ok w) wu' ws'
      → i + j ≤ w + 1
