-- A lent table's records: how many, which, and that its lengths agree. Assumes nothing.
use Prim.Native.Nat.{ℕ, ◌*◌, ◌/◌, ◌%◌, ◌<◌}
use Rattle.std.proofs.lemmas.Bool.{or_parts}
use Rattle.std.proofs.lemmas.List.FromFn.{length-map-range_with_len, get_or-map-range_with_len}
use native.Mathlib.Nat.{zero-add}
use native.Mathlib.Omega.{arith}
use mathlib.Core.Path.{◌≡◌, ap, ◌∙◌, refl}
use mathlib.Core.Bool.{false, not, ◌||◌}
use mathlib.Core.List.{List}
use lib.ListN.{length, get_or}
use lib.Dec.{eqb}
use lib.IntN.{ℤ}
use borrow.Author.Tests.{eqb-true, not-false}
use Rattle.rules.specs.Records.{no_source, no_segment}
use Rattle.table.specs.Layout.{source_words, segment_words, segment_stamps, source_at, segment_at, sources_of, segments_of, uneven_rows}

pub sources_length : (s : List ℕ) → length (sources_of s) ≡ length s / source_words
unfolding sources_of
sources_length s = length-map-range_with_len (source_at s) 0 (length s / source_words)

pub sources_get : (s : List ℕ) (k : ℕ) → k < length s / source_words → get_or (sources_of s) k no_source ≡ source_at s k
unfolding sources_of
sources_get s k h = get_or-map-range_with_len (source_at s) 0 (length s / source_words) k _ no_source h refl ∙ ap (source_at s) (zero-add k)

pub segments_length : (u : List ℕ) (t : List ℤ) → length (segments_of u t) ≡ length u / segment_words
unfolding segments_of
segments_length u t = length-map-range_with_len (segment_at u t) 0 (length u / segment_words)

pub segments_get : (u : List ℕ) (t : List ℤ) (k : ℕ) → k < length u / segment_words
    → get_or (segments_of u t) k no_segment ≡ segment_at u t k
unfolding segments_of
segments_get u t k h = get_or-map-range_with_len (segment_at u t) 0 (length u / segment_words) k _ no_segment h refl ∙ ap (segment_at u t) (zero-add k)

-- what even lengths say
pub record Even (u t : ℕ) : Type 0 where
  pub words : u ≡ u / segment_words * segment_words
  pub agree : u / segment_words ≡ t / segment_stamps

pub even : (u t : ℕ) → uneven_rows u t ≡ false → Even u t
even u t e =
    let b = or_parts (not (eqb (u % segment_words) 0)) (not (eqb (t % segment_stamps) 0) || not (eqb (u / segment_words) (t / segment_stamps))) e in
    let c = or_parts (not (eqb (t % segment_stamps) 0)) (not (eqb (u / segment_words) (t / segment_stamps))) b.1 in
    let w : u % segment_words ≡ 0 = eqb-true (u % segment_words) 0 (not-false (eqb (u % segment_words) 0) b.0) in
    record {
      words = omega arith;
      agree = eqb-true (u / segment_words) (t / segment_stamps) (not-false (eqb (u / segment_words) (t / segment_stamps)) c.1);
    }
