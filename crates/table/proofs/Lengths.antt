-- Lengths of lent words that 1 refuses, as specs/Layout.antt has them in words. Assumes nothing.
use Prim.Native.Nat.{ℕ, ◌/◌, ◌%◌}
use mathlib.Core.Path.{◌≡◌}
use mathlib.Core.Bool.{Bool, true, ◌||◌}
use mathlib.Core.List.{List}
use mathlib.Core.Logic.{◌↔◌}
use lib.ListN.{length}
use lib.IntN.{ℤ}
use Rattle.conditions.proofs.Tests.{decide}
use Rattle.rules.proofs.Says.{Says, equal, either, unless}
use Rattle.table.specs.Layout.{source_words, segment_words, segment_stamps, uneven_sources, uneven_rows, Uneven, table_of}

-- a test that says the same as a condition holds exactly when it does
exactly : {b : Bool} {C : Type 0} → Says b C → (b ≡ true) ↔ C
exactly {b} s = (s.holds, λ x. decide b (λ e. e) (λ e. absurd (s.fails e x)))

lengths : (s u t : ℕ) → ((uneven_sources s || uneven_rows u t) ≡ true) ↔ Uneven s u t
lengths s u t =
    exactly (either (unless (equal (s % source_words) 0))
    (either (unless (equal (u % segment_words) 0))
    (either (unless (equal (t % segment_stamps) 0)) (unless (equal (u / segment_words) (t / segment_stamps))))))

-- of every table that is lent
pub uneven : (s u : List ℕ) (t : List ℤ) (log : Bool) (text : List ℕ)
    → ((table_of s u t log text).uneven ≡ true) ↔ Uneven (length s) (length u) (length t)
unfolding table_of
uneven s u t log text = lengths (length s) (length u) (length t)
