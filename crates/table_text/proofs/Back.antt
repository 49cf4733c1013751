-- The words of records that lie one after another, read back. Assumes nothing.
use Prim.Native.Nat.{ℕ, zero, suc, ◌+◌, ◌*◌, ◌/◌, ◌%◌, ◌<◌}
use native.Mathlib.Omega.{arith}
use mathlib.Core.Path.{◌≡◌, refl, ap, ◌∙◌}
use mathlib.Core.Bool.{false}
use mathlib.Core.List.{List, [], ◌∷◌, ◌++◌, map}
use lib.IntN.{ℤ, pos}
use lib.ListN.{length, get_or, length-append}
use borrow.Author.Tests.{eq-eqb}
use Rattle.std.proofs.lemmas.List.{ext_get_or, get_or-append-add}
use Rattle.rules.specs.declared.Source.{Source}
use Rattle.rules.specs.declared.Segment.{Segment}
use Rattle.rules.specs.Records.{no_source, no_segment}
use Rattle.table.specs.Layout.{source_words, segment_words, source_at, words_at, stamps_at, segment_at, sources_of, segments_of, uneven_sources, uneven_rows, table_of}
use Rattle.table.proofs.Lent.{sources_length, sources_get, segments_length, segments_get}
use Rattle.table_text.specs.declared.lists.Lists.{Lists}
use Rattle.table_text.specs.Lists.{places, segment_in}
use Rattle.table_text.specs.Tables.{sources_in, source_list, words_list, stamps_list, all_sources, all_words, all_stamps, table_in}
use Rattle.table_text.specs.Read as read

pub length-sources : (ss : List Source) → length (all_sources ss) ≡ 13 * length ss
unfolding all_sources
length-sources [] = refl
length-sources (s ∷ ss) = omega (arith, length-sources ss, length-append (source_list s) (all_sources ss))

pub length-words : (ss : List Segment) → length (all_words ss) ≡ 5 * length ss
unfolding all_words
length-words [] = refl
length-words (s ∷ ss) = omega (arith, length-words ss, length-append (words_list s.words) (all_words ss))

pub length-stamps : (ss : List Segment) → length (all_stamps ss) ≡ 7 * length ss
unfolding all_stamps
length-stamps [] = refl
length-stamps (s ∷ ss) = omega (arith, length-stamps ss, length-append (stamps_list s.stamps) (all_stamps ss))

-- what lies past the first record lies in the rest
past_first : {A : Type 0} (first rest : List A) (d : A) (m n : ℕ) → m ≡ length first + n → get_or (first ++ rest) m d ≡ get_or rest n d
past_first first rest d m n e = ap (λ j. get_or (first ++ rest) j d) e ∙ get_or-append-add first rest n d

module _ (s : Source) (rest : List ℕ) where
  first_source : source_at (source_list s ++ rest) 0 ≡ s
  first_source = refl

  module _ (k : ℕ) where
    word : (j m n : ℕ) → m ≡ suc k * 13 + j → n ≡ k * 13 + j → get_or (source_list s ++ rest) m 0 ≡ get_or rest n 0
    word j m n p q = past_first (source_list s) rest 0 m n (omega arith)

    next_source : source_at (source_list s ++ rest) (suc k) ≡ source_at rest k
    next_source =
        let a = word 0 (suc k * 13) (k * 13) (omega arith) (omega arith) in
        let b = word 1 (suc k * 13 + 1) (k * 13 + 1) refl refl in
        let c = word 2 (suc k * 13 + 2) (k * 13 + 2) refl refl in
        let d = word 3 (suc k * 13 + 3) (k * 13 + 3) refl refl in
        let e = word 4 (suc k * 13 + 4) (k * 13 + 4) refl refl in
        let f = word 5 (suc k * 13 + 5) (k * 13 + 5) refl refl in
        let g = word 6 (suc k * 13 + 6) (k * 13 + 6) refl refl in
        let h = word 7 (suc k * 13 + 7) (k * 13 + 7) refl refl in
        let j = word 8 (suc k * 13 + 8) (k * 13 + 8) refl refl in
        let l = word 9 (suc k * 13 + 9) (k * 13 + 9) refl refl in
        let m = word 10 (suc k * 13 + 10) (k * 13 + 10) refl refl in
        let n = word 11 (suc k * 13 + 11) (k * 13 + 11) refl refl in
        let o = word 12 (suc k * 13 + 12) (k * 13 + 12) refl refl in
        λ i. record { frames = a i; numerator = b i; denominator = c i; dated = d i; from = e i; size = f i; kind = g i; ticks = h i; per = j i; modulus = l i; file_size = m i; imu_known = n i; imu_origin = o i }

source_back : (ss : List Source) (k : ℕ) → k < length ss → source_at (all_sources ss) k ≡ get_or ss k no_source
unfolding all_sources
source_back [] k h = absurd (omega arith)
source_back (s ∷ ss) zero h = first_source s (all_sources ss)
source_back (s ∷ ss) (suc k) h = next_source s (all_sources ss) k ∙ source_back ss k (omega arith)

pub sources_back : (ss : List Source) → sources_of (all_sources ss) ≡ ss
sources_back ss =
    let n : length (all_sources ss) / source_words ≡ length ss = omega (arith, length-sources ss) in
    ext_get_or no_source (sources_of (all_sources ss)) ss (sources_length (all_sources ss) ∙ n)
    (λ k h. let b : k < length (all_sources ss) / source_words = omega (arith, sources_length (all_sources ss)) in
    sources_get (all_sources ss) k b ∙ source_back ss k (omega arith))

module _ (s : Segment) (us : List ℕ) (ts : List ℤ) where
  first_segment : segment_at (words_list s.words ++ us) (stamps_list s.stamps ++ ts) 0 ≡ s
  first_segment = refl

  module _ (k : ℕ) where
    unsigned : (j : ℕ) → get_or (words_list s.words ++ us) (suc k * 5 + j) 0 ≡ get_or us (k * 5 + j) 0
    unsigned j = past_first (words_list s.words) us 0 (suc k * 5 + j) (k * 5 + j) (omega arith)

    signed : (j : ℕ) → get_or (stamps_list s.stamps ++ ts) (suc k * 7 + j) (pos 0) ≡ get_or ts (k * 7 + j) (pos 0)
    signed j = past_first (stamps_list s.stamps) ts (pos 0) (suc k * 7 + j) (k * 7 + j) (omega arith)

    next_words : words_at (words_list s.words ++ us) (suc k) ≡ words_at us k
    next_words =
        let a = past_first (words_list s.words) us 0 (suc k * 5) (k * 5) (omega arith) in
        let b = unsigned 1 in
        let c = unsigned 2 in
        let d = unsigned 3 in
        let e = unsigned 4 in
        λ i. record { source = a i; first = b i; count = c i; out = d i; flag = e i }

    next_stamps : stamps_at (stamps_list s.stamps ++ ts) (suc k) ≡ stamps_at ts k
    next_stamps =
        let a = past_first (stamps_list s.stamps) ts (pos 0) (suc k * 7) (k * 7) (omega arith) in
        let b = signed 1 in
        let c = signed 2 in
        let d = signed 3 in
        let e = signed 4 in
        let f = signed 5 in
        let g = signed 6 in
        λ i. record { source_start = a i; out_start = b i; duration = c i; source_capture_start = d i; out_capture_start = e i; capture_duration = f i; shift = g i }

    next_segment : segment_at (words_list s.words ++ us) (stamps_list s.stamps ++ ts) (suc k) ≡ segment_at us ts k
    next_segment = λ i. record { words = next_words i; stamps = next_stamps i }

segment_back : (ss : List Segment) (k : ℕ) → k < length ss → segment_at (all_words ss) (all_stamps ss) k ≡ get_or ss k no_segment
unfolding all_words all_stamps
segment_back [] k h = absurd (omega arith)
segment_back (s ∷ ss) zero h = first_segment s (all_words ss) (all_stamps ss)
segment_back (s ∷ ss) (suc k) h = next_segment s (all_words ss) (all_stamps ss) k ∙ segment_back ss k (omega arith)

pub segments_back : (ss : List Segment) → segments_of (all_words ss) (all_stamps ss) ≡ ss
segments_back ss =
    let n : length (all_words ss) / segment_words ≡ length ss = omega (arith, length-words ss) in
    ext_get_or no_segment (segments_of (all_words ss) (all_stamps ss)) ss (segments_length (all_words ss) (all_stamps ss) ∙ n)
    (λ k h. let b : k < length (all_words ss) / segment_words = omega (arith, segments_length (all_words ss) (all_stamps ss)) in
    segments_get (all_words ss) (all_stamps ss) k b ∙ segment_back ss k (omega arith))

-- their lengths are even
pub even_sources : (ss : List Source) → uneven_sources (length (all_sources ss)) ≡ false
even_sources ss = let z : length (all_sources ss) % 13 ≡ 0 = omega (arith, length-sources ss) in rw (eq-eqb (length (all_sources ss) % 13) 0 z)

even_segments : (ss : List Segment) → uneven_rows (length (all_words ss)) (length (all_stamps ss)) ≡ false
even_segments ss =
    let a : length (all_words ss) % 5 ≡ 0 = omega (arith, length-words ss) in
    let b : length (all_stamps ss) % 7 ≡ 0 = omega (arith, length-stamps ss) in
    let c : length (all_words ss) / 5 ≡ length (all_stamps ss) / 7 = omega (arith, length-words ss, length-stamps ss) in
    rw (eq-eqb (length (all_words ss) % 5) 0 a, eq-eqb (length (all_stamps ss) % 7) 0 b, eq-eqb (length (all_words ss) / 5) (length (all_stamps ss) / 7) c)

-- THE WRITTEN WORDS ARE THE TABLE
pub table_back : (text : List ℕ) (lists : Lists)
    → table_of (read.source_words text lists) (read.segment_words text lists) (read.segment_stamps text lists) lists.log (read.date_bytes text lists)
    ≡ table_in text lists
unfolding table_of
table_back text lists =
    let ss = sources_in text 0 (places text lists.sources) in
    let es = map (segment_in text) (places text lists.segments) in
    rw (even_sources ss, even_segments es, sources_back ss, segments_back es)
