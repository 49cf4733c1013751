-- WHAT THE CUTS GIVE (RULES 10.6), beside `cut` of each range alone. `Cuts` and `Cut` say which answers the calls
-- allow, so that each law speaks of any such answers. Every line is proved of the promises of Answers.antt and of maps,
-- as the contract of `each_cut_is_one_cut`, and the audit claims it of the promises in the source.
--
-- The letters: u, s are the map's words and shifts. ou, os are lent for the rows of `cuts`, ou', os', counts' are what
-- is there afterwards, ou'', os'' what is after a `cut`; pu, ps are lent for a `cut` into a room of its own. r and q
-- are what calls answer, n and i how many rows, c how many cuts, k and j are ranges by their numbers, a..b is a range
-- of frames.
use Rattle.std.specs.Prelude.{ℕ, ◌*◌, ◌/◌, ◌%◌, ◌≤◌, ◌<◌, List, [], ◌∷◌, ◌≡◌, ℤ, length, get_or, take, drop, Result, Ok, Err}
use Rattle.std.specs.List.{sum}
use Rattle.refusal.specs.declared.Refusal.{Refusal}
use Rattle.refusal.specs.declared.Reason.TheVariants as reason
use Rattle.refusal.specs.Refusals.{refused}
use Rattle.rows.specs.Rows.{total}
use Rattle.rows.specs.Lent.{rows}
use Rattle.maps.specs.Laws.{LentMap, AsLent, Writes}
use Rattle.cuts.specs.Answers.{Inside, range_at, ranges_of, cuts_of, concat}

-- the rows that are written before those of cut k
abbrev pub rows_before : ℕ → List ℕ → ℕ
rows_before k counts = sum (take k counts)

-- what `cuts` accepts: a map that no call refuses, ranges of two words each that lie in it, and room for the rows of
-- all cuts and for their counts
pub record Accepted (u : List ℕ) (s : List ℤ) (ranges ou : List ℕ) (os : List ℤ) (counts : List ℕ) : Type 0 where
  pub map : LentMap u s
  pub pairs : length ranges % 2 ≡ 0
  pub inside : (k : ℕ) → k < length ranges / 2 → Inside (total (rows u s)) (range_at ranges k)
  pub words : 5 * length (concat (cuts_of (rows u s) (ranges_of ranges))) ≤ length ou
  pub shifts : length (concat (cuts_of (rows u s) (ranges_of ranges))) ≤ length os
  pub counts_fit : length ranges / 2 ≤ length counts

-- what was left of the counts: all on a refusal, else what lies past those of c cuts
abbrev pub CountsAsLent : Result ℕ Refusal → ℕ → List ℕ → List ℕ → Type 0
CountsAsLent (Ok n) c counts counts' = drop c counts' ≡ drop c counts
CountsAsLent (Err refusal) c counts counts' = counts' ≡ counts

pub record CutsLaws
    (Cuts : List ℕ → List ℤ → List ℕ → List ℕ → List ℤ → List ℕ
    → Result ℕ Refusal → List ℕ → List ℤ → List ℕ → Type 0)
    (Cut : List ℕ → List ℤ → ℕ → ℕ → Writes)
    : Type 0 where
  -- 1. Each cut alone: where `cut` of the k-th range answers rows, into whatever room, they are as many as the k-th
  -- count, and the same as those that lie in the rows of all cuts after those of the cuts before it.
  pub each : (u ranges ou ou' counts counts' pu pu' : List ℕ) (s os os' ps ps' : List ℤ) (n k i : ℕ)
      → Cuts u s ranges ou os counts (Ok n) ou' os' counts' → k < length ranges / 2
      → Cut u s (range_at ranges k).from (range_at ranges k).to pu ps (Ok i) pu' ps'
      → (i ≡ get_or counts' k 0)
      × (take (5 * i) pu' ≡ take (5 * i) (drop (5 * rows_before k counts') ou'))
      × (take i ps' ≡ take i (drop (rows_before k counts') os'))
  -- It does so wherever there is room for them; and the rows in all are those of all cuts.
  pub each_answers : (u ranges ou ou' counts counts' pu pu' : List ℕ) (s os os' ps ps' : List ℤ) (n k : ℕ)
      (r : Result ℕ Refusal)
      → Cuts u s ranges ou os counts (Ok n) ou' os' counts' → k < length ranges / 2
      → 5 * get_or counts' k 0 ≤ length pu → get_or counts' k 0 ≤ length ps
      → Cut u s (range_at ranges k).from (range_at ranges k).to pu ps r pu' ps' → r ≡ Ok (get_or counts' k 0)
  pub in_all : (u ranges ou ou' counts counts' : List ℕ) (s os os' : List ℤ) (n : ℕ)
      → Cuts u s ranges ou os counts (Ok n) ou' os' counts' → n ≡ rows_before (length ranges / 2) counts'
  -- 2. One range is one `cut`, refusals too, where there is room for its count.
  pub one : (u ou ou' ou'' counts counts' : List ℕ) (s os os' os'' : List ℤ) (a b : ℕ) (r q : Result ℕ Refusal)
      → 0 < length counts
      → Cuts u s (a ∷ b ∷ []) ou os counts r ou' os' counts' → Cut u s a b ou os q ou'' os''
      → (r ≡ q) × (ou' ≡ ou'') × (os' ≡ os'')
  -- 3. Accepted exactly where the map is, the words are pairs, each range lies in the map, and there is room.
  pub accepted : (u ranges ou ou' counts counts' : List ℕ) (s os os' : List ℤ) (n : ℕ)
      → Cuts u s ranges ou os counts (Ok n) ou' os' counts' → Accepted u s ranges ou os counts
  pub accepts : (u ranges ou ou' counts counts' : List ℕ) (s os os' : List ℤ) (r : Result ℕ Refusal)
      → Accepted u s ranges ou os counts → Cuts u s ranges ou os counts r ou' os' counts'
      → r ≡ Ok (length (concat (cuts_of (rows u s) (ranges_of ranges))))
  -- 4. Which refusal it is. A map that no call takes is refused as `cut` refuses it, whatever the range. Else 50: at
  -- the last range, where it has no end, or at the first that isn't in the map. Else 52, where something has no room.
  pub map_refused : (u ranges ou ou' counts counts' pu pu' : List ℕ) (s os os' ps ps' : List ℤ) (a b : ℕ)
      (r q : Result ℕ Refusal)
      → (LentMap u s → ⊥) → Cuts u s ranges ou os counts r ou' os' counts' → Cut u s a b pu ps q pu' ps' → r ≡ q
  pub torn_refused : (u ranges ou ou' counts counts' : List ℕ) (s os os' : List ℤ) (r : Result ℕ Refusal)
      → LentMap u s → length ranges % 2 ≡ 1 → Cuts u s ranges ou os counts r ou' os' counts'
      → r ≡ refused reason.BadRange (length ranges / 2)
  pub range_refused : (u ranges ou ou' counts counts' : List ℕ) (s os os' : List ℤ) (k : ℕ) (r : Result ℕ Refusal)
      → LentMap u s → length ranges % 2 ≡ 0 → k < length ranges / 2
      → ((j : ℕ) → j < k → Inside (total (rows u s)) (range_at ranges j))
      → (Inside (total (rows u s)) (range_at ranges k) → ⊥)
      → Cuts u s ranges ou os counts r ou' os' counts' → r ≡ refused reason.BadRange k
  pub room_refused : (u ranges ou ou' counts counts' : List ℕ) (s os os' : List ℤ) (r : Result ℕ Refusal)
      → LentMap u s → length ranges % 2 ≡ 0
      → ((k : ℕ) → k < length ranges / 2 → Inside (total (rows u s)) (range_at ranges k))
      → (Accepted u s ranges ou os counts → ⊥)
      → Cuts u s ranges ou os counts r ou' os' counts' → r ≡ refused reason.RowsDontFit 0
  -- 5. What isn't answered stays as it was lent.
  pub leaves : (u ranges ou ou' counts counts' : List ℕ) (s os os' : List ℤ) (r : Result ℕ Refusal)
      → Cuts u s ranges ou os counts r ou' os' counts'
      → AsLent r ou os ou' os' × CountsAsLent r (length ranges / 2) counts counts'
