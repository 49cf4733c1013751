-- What the working room holds of a text whose table is staged. Assumes nothing.
use Prim.Native.Nat.{ℕ, ◌-◌, ◌*◌, ◌≤◌}
use native.Mathlib.Omega.{arith}
use mathlib.Core.Path.{◌≡◌, sym, ap, ◌∙◌}
use mathlib.Core.Bool.{true, false}
use mathlib.Core.List.{List, ◌++◌, map}
use lib.ListN.{length, take, drop, length-append, length-map}
use lib.Seq.{take-append-le, take-append_seam}
use lib.Dec.{ltb}
use borrow.Author.Tests.{ltb-false}
use borrow.Rule.Slice.PartMut.{put_mid, post_of}
use Rattle.std.specs.Prelude.{Some, None, Result, Ok, Err}
use Rattle.std.proofs.Common.{drop_at, length-take-le, length-drop}
use Rattle.std.proofs.lemmas.Bool.{or_parts}
use Rattle.std.proofs.lemmas.Option.{cond_some}
use Rattle.std.proofs.lemmas.Slice.{take-put_mid_below}
use Rattle.slices.specs.Slices.{laid}
use Rattle.slices.proofs.Parts.{from}
use Rattle.refusal.specs.declared.Refusal.{Refusal}
use Rattle.refusal.specs.declared.Reason.TheVariants as reason
use Rattle.refusal.specs.Refusals.{refusal_at}
use Rattle.rules.specs.Limits.{max_sources, max_segments}
use Rattle.rules.specs.Rules.{over_limit}
use Rattle.json_tokens.specs.Text.{most_text}
use Rattle.table_text.specs.declared.lists.Lists.{Lists}
use Rattle.table_text.specs.declared.staging.Counted.{Counted}
use Rattle.table_text.specs.declared.staging.Staged.{Staged}
use Rattle.table_text.specs.Lists.{places, are_sources, are_segments}
use Rattle.table_text.specs.Tables.{dates_in, all_sources}
use Rattle.table_text.specs.Layout.{least_work, staged_in, Holds}
use Rattle.table_text.specs.Read.{counted_of, stage_lists}
use Rattle.table_text.proofs.Back.{length-sources}
use Rattle.table_text.proofs.Walked.{not-counted}

-- within the limits
pub few : (n m : ℕ) → over_limit n m ≡ false → (n ≤ 256) × (m ≤ 512)
few n m e =
    let a = or_parts (ltb max_sources n) (ltb max_segments m) e in
    (ltb-false max_sources n a.0, ltb-false max_segments m a.1)

taken : {A : Type 0} (ws out : List A) (n : ℕ) → length ws ≡ n → take n (laid ws out) ≡ ws
taken ws out n e = rw (← e) (take-append_seam ws (drop (length ws) out))

-- one answer is one table
staged_or : Staged → Result Staged Refusal → Staged
staged_or staged (Ok s) = s
staged_or staged (Err f) = staged

pub same_staged : (a b : Staged) → ◌≡◌ {A = Result Staged Refusal} (Ok a) (Ok b) → a ≡ b
unfolding staged_or
same_staged a b e = ap (staged_or a) e

module _ (text : List ℕ) (lists : Lists) where
  abbrev sources : List ℕ
  sources = places text lists.sources

  abbrev segments : List ℕ
  segments = places text lists.segments

  -- what is counted of its sources
  abbrev count : Counted
  count = record { count = length sources; dates = length (dates_in text sources) }

  pub no-sources : None ≡ counted_of (are_sources text sources) count → ◌≡◌ {A = Result Staged Refusal} (Err (refusal_at reason.BadMember 0))
      (stage_lists text lists)
  unfolding stage_lists
  no-sources p = rw (not-counted _ _ p)

  module _ (s : Counted) (p : Some s ≡ counted_of (are_sources text sources) count) where
    sources-seen : (are_sources text sources ≡ true) × (count ≡ s)
    sources-seen = cond_some (are_sources text sources) count s (sym p)

    pub no-segments : None ≡ counted_of (are_segments text segments) (length segments) → ◌≡◌ {A = Result Staged Refusal}
        (Err (refusal_at reason.BadMember 0)) (stage_lists text lists)
    unfolding stage_lists
    no-segments q = rw (sources-seen.0, not-counted _ _ q)

    module _ (n : ℕ) (q : Some n ≡ counted_of (are_segments text segments) (length segments)) where
      segments-seen : (are_segments text segments ≡ true) × (length segments ≡ n)
      segments-seen = cond_some (are_segments text segments) (length segments) n (sym q)

      abbrev staged : Staged
      staged = record { lists = lists; sources = s.count; segments = n; dates = s.dates }

      sources-are : s.count ≡ length sources
      sources-are = ap (λ (x : Counted). x.count) (sym sources-seen.1)

      dates-are : s.dates ≡ length (dates_in text sources)
      dates-are = ap (λ (x : Counted). x.dates) (sym sources-seen.1)

      segments-are : n ≡ length segments
      segments-are = sym segments-seen.1

      over-is : over_limit s.count n ≡ over_limit (length sources) (length segments)
      over-is = λ i. over_limit (sources-are i) (segments-are i)

      pub too-many : over_limit s.count n ≡ true → ◌≡◌ {A = Result Staged Refusal} (Err (refusal_at reason.OverLimit 0)) (stage_lists text lists)
      unfolding stage_lists
      too-many e = rw (sources-seen.0, segments-seen.0, sym over-is ∙ e)

      pub all-staged : over_limit s.count n ≡ false → ◌≡◌ {A = Result Staged Refusal} (Ok staged) (stage_lists text lists)
      unfolding stage_lists
      all-staged e =
          rw (sources-seen.0, segments-seen.0, sym over-is ∙ e)
          (λ i. Ok (record { lists = lists; sources = sources-are i; segments = segments-are i; dates = dates-are i }))

      -- the words of sources lie in front, the places of segments behind them
      module _ (work a b : List ℕ) (k : ℕ) (room : least_work ≤ length work) (whole : length a ≡ 3328) (e : over_limit s.count n ≡ false) where
        abbrev joined : List ℕ
        joined = a ++ drop 3328 work

        abbrev now : List ℕ
        now = put_mid 3328 k joined b

        words-lie : (13 * length sources ≤ length (take 3328 work) → a ≡ laid (all_sources (map (staged_in text) sources)) (take 3328 work))
            → take (13 * s.count) now ≡ all_sources (map (staged_in text) sources)
        words-lie h =
            let f = few s.count n e in
            let ws = all_sources (map (staged_in text) sources) in
            let size : length ws ≡ 13 * s.count = omega (
              arith,
              length-sources (map (staged_in text) sources),
              length-map sources
                  (staged_in text),
              sources-are,
            ) in
            let fits : 13 * length sources ≤ length (take 3328 work) = omega (arith, length-take-le 3328 work (omega arith), sources-are, f.0) in
            take-put_mid_below 3328 k joined b (13 * s.count) (omega (arith, f.0)) (omega (arith, length-append a (drop 3328 work), whole))
            ∙ take-append-le (13 * s.count) a (drop 3328 work) (omega (arith, f.0, whole))
            ∙ ap (take (13 * s.count)) (h fits) ∙ taken ws (take 3328 work) (13 * s.count) size

        places-lie : k ≡ length joined - 3328 → (length segments ≤ length (take k (drop 3328 joined)) → b ≡ laid segments (take k (drop 3328 joined)))
            → take n (drop 3328 now) ≡ segments
        places-lie w h =
            let f = few s.count n e in
            let rest = drop 3328 work in
            let left : take k (drop 3328 joined) ≡ rest = ap (λ j. take j (drop 3328 joined)) w ∙ from 3328 joined ∙ drop_at a rest 3328 whole in
            let long : length rest ≡ length work - 3328 = length-drop 3328 work in
            let fits : length segments ≤ length (take k (drop 3328 joined)) = omega (arith, ap length left, long, room, segments-are, f.1) in
            let is = h fits in
            let lies : n ≤ length b = omega (arith, ap length is, length-append segments (drop (length segments) (take k (drop 3328 joined))), segments-are) in
            ap (take n) (drop_at (take 3328 joined) (b ++ post_of 3328 k joined) 3328 (length-take-le 3328 joined (omega (arith, length-append a rest, whole))))
            ∙ take-append-le n b (post_of 3328 k joined) lies
            ∙ ap (take n) is ∙ taken segments (take k (drop 3328 joined)) n (sym segments-are)

        pub holds : length text ≤ most_text → k ≡ length joined - 3328
            → (13 * length sources ≤ length (take 3328 work) → a ≡ laid (all_sources (map (staged_in text) sources)) (take 3328 work))
            → (length segments ≤ length (take k (drop 3328 joined)) → b ≡ laid segments (take k (drop 3328 joined)))
            → least_work ≤ length now → Holds text staged now
        holds within w h h' size = record { short = within; room = size; few = e; sources = sources-are; segments = segments-are; dates = dates-are; words = words-lie h; at = places-lie w h' }
