-- The table that is staged gets the check of the table that the text holds. Assumes nothing.
use Prim.Native.Nat.{ℕ, ◌+◌, ◌≤◌}
use native.Mathlib.Omega.{arith}
use mathlib.Core.Path.{◌≡◌, refl, sym, ap, subst, ◌∙◌}
use mathlib.Core.Bool.{Bool, true, false}
use mathlib.Core.List.{List, [], ◌∷◌, ◌++◌, map, append_assoc}
use lib.ListN.{length, take, drop, length-append}
use lib.Seq.{take-append_seam, drop-append_seam}
use Rattle.std.specs.Prelude.{Option, Some, None, Result, if◌then◌else◌}
use Rattle.conditions.proofs.Sums.{not-past}
use Rattle.conditions.specs.Conditions.{past}
use Rattle.utc.specs.Utc.{utc_second}
use Rattle.refusal.specs.declared.Refusal.{Refusal}
use Rattle.rules.specs.Records.{Table}
use Rattle.rules.specs.Rules.{bad_source, source_refusal, check_of}
use Rattle.table.specs.Layout.{table_with}
use Rattle.table_fields.specs.declared.sources.Original.{Original}
use Rattle.table_text.specs.declared.lists.Lists.{Lists}
use Rattle.table_text.specs.declared.staging.Staged.{Staged}
use Rattle.table_text.specs.declared.reader.Room.{Room}
use Rattle.table_text.specs.Read.{short, judged_of}
use Rattle.table_text.specs.Lists.{places, date_in, original_in, segment_in}
use Rattle.table_text.specs.Tables.{source_by, dated_by, sources_in, dates_in, all_sources, table_in}
use Rattle.table_text.specs.Layout.{some_date, staged_in, staged_table, unplaced, AnswersAs}
use Rattle.table_text.proofs.Alike.{Alike, AllAlike, check-alike}
use Rattle.table_text.proofs.Back.{even_sources, sources_back}

-- ---- creation times, as they lie and as they are checked
some-is-date : utc_second some_date ≡ true
unfolding utc_second
some-is-date = refl

none-is-date : utc_second [] ≡ false
unfolding utc_second
none-is-date = refl

-- the bytes between those before and those after
part_is : (p d q : List ℕ) (n : ℕ) → length p ≡ n → take (length d) (drop n (p ++ (d ++ q))) ≡ d
part_is p d q n e = rw (← e, drop-append_seam p (d ++ q)) (take-append_seam d q)

staged_size : List ℕ → ℕ
staged_size d = if utc_second d then 20 else 0

staged-short : (b : Bool) → 0 + (if b then 20 else 0) ≤ 20
staged-short true = omega arith
staged-short false = omega arith

staged-is : (b : Bool) → utc_second (take (if b then 20 else 0) (drop 0 some_date)) ≡ b
staged-is true = some-is-date
staged-is false = none-is-date

module _ (log : Bool) (o : Original) (p d q : List ℕ) (from : ℕ) (e : length p ≡ from) where
  pub one-alike : (created : Option ℕ) → Alike log (p ++ (d ++ q)) some_date (dated_by o created from (length d))
      (dated_by o created 0 (if utc_second d then 20 else 0))
  unfolding dated_by source_by bad_source source_refusal
  one-alike None = record { same = record { frames = refl; kind = refl; modulus = refl }; bad = refl; refused = refl }
  one-alike (Some at) = record {
    same = record { frames = refl; kind = refl; modulus = refl };
    bad =
        let a : past from (length d) (length (p ++ (d ++ q))) ≡ false = not-past from (length d) (length (p ++ (d ++ q)))
        (omega (arith, length-append p (d ++ q), length-append d q)) in
        let b : past 0 (if utc_second d then 20 else 0) 20 ≡ false = not-past 0 (if utc_second d then 20 else 0) 20 (staged-short (utc_second d)) in
        rw (a, b);
    refused =
        let a : take (length d) (drop from (p ++ (d ++ q))) ≡ d = part_is p d q from e in
        let b : utc_second (take (if utc_second d then 20 else 0) (drop 0 some_date)) ≡ utc_second d = staged-is (utc_second d) in
        rw (a, b);
  }

pub all-alike : (log : Bool) (text p : List ℕ) (from : ℕ) (l : List ℕ) → length p ≡ from → AllAlike log (p ++ dates_in text l) some_date
    (sources_in text from l) (map (staged_in text) l)
unfolding AllAlike sources_in dates_in
all-alike log text p from [] e = tt
all-alike log text p from (at ∷ l) e =
    let d = date_in text at in (
      one-alike log (original_in text at) p d (dates_in text l) from e (original_in text at).created,
      subst (λ (D : List ℕ). AllAlike log D some_date (sources_in text (from + length d) l) (map (staged_in text) l)) (append_assoc p d (dates_in text l))
          (all-alike log text (p ++ d) (from + length d) l (length-append p d ∙ ap (λ n. n + length d) e)),
    )

-- ---- what is staged
-- but for where their creation times lie the sources are the same
module _ (text : List ℕ) where
  one-unplaced : (o : Original) (created : Option ℕ) (from from' size size' : ℕ) → unplaced (dated_by o created from size) ≡ unplaced
      (dated_by o created from' size')
  unfolding dated_by source_by
  one-unplaced o None from from' size size' = refl
  one-unplaced o (Some at) from from' size size' = refl

  all-unplaced : (from : ℕ) (l : List ℕ) → map unplaced (map (staged_in text) l) ≡ map unplaced (sources_in text from l)
  unfolding sources_in
  all-unplaced from [] = refl
  all-unplaced from (at ∷ l) =
      let d = date_in text at in
      λ i. one-unplaced (original_in text at) (original_in text at).created 0 from (if utc_second d then 20 else 0) (length d) i ∷ all-unplaced
      (from + length d) l i

pub staged_answers : (text : List ℕ) (lists : Lists) → AnswersAs (staged_table text lists) (table_in text lists)
staged_answers text lists = record {
  check = sym (check-alike lists.log (dates_in text (places text lists.sources)) some_date (sources_in text 0 (places text lists.sources))
      (map (staged_in text) (places text lists.sources))
      (all-alike lists.log text [] 0 (places text lists.sources) refl) (map (segment_in text) (places text lists.segments)));
  log = refl;
  sources = all-unplaced text 0 (places text lists.sources);
  segments = refl;
}

pub staged_is : (text : List ℕ) (lists : Lists) (w at : List ℕ) → w ≡ all_sources (map (staged_in text) (places text lists.sources)) → at
    ≡ places text lists.segments
    → table_with w false (map (segment_in text) at) lists.log some_date ≡ staged_table text lists
staged_is text lists w at p q =
    let ss = map (staged_in text) (places text lists.sources) in
    rw (p, q, even_sources ss, sources_back ss)

pub judged_is : (text : List ℕ) (room : Room) (staged : Staged) (t : Table) {r : Result ℕ Refusal} → short staged room ≡ false → t
    ≡ staged_table text staged.lists
    → r ≡ check_of t → r ≡ judged_of text room staged
unfolding judged_of
judged_is text room staged t e p h = rw e (h ∙ ap check_of p ∙ (staged_answers text staged.lists).check)
