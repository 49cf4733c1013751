-- Of a track no answer is 36. Assumes nothing.
use mathlib.Core.Bool.{Bool}
use Rattle.std.specs.List.{list_any}
use mathlib.Core.List.{List, [], ◌∷◌}
use Prim.Native.Nat.{ℕ}
use native.Mathlib.Omega.{arith}
use lib.IntN.{ℤ, pos}
use lib.Signed.{le_z}
use lib.Dec.{ltb}
use Rattle.conditions.proofs.Tests.{either}
use Rattle.signed.specs.Signed.{is_outside}
use Rattle.tracks.specs.declared.Edit.{Edit}
use Rattle.tracks.specs.Tables.{table_entries, optional_entries, entries_of, entry_total}
use Rattle.tracks.specs.Edits.{edit_of}
use Rattle.std.specs.Prelude.{Result}
use Rattle.refusal.specs.declared.Reason.TheVariants as reason
use Rattle.refusal.specs.declared.Refusal.{Refusal}
use Rattle.frame_times.specs.Frames.{Frame}
use Rattle.frame_times.specs.Times.{Outcome, placed, shown, of_kept, Track, times_in, outcome_of}
use Rattle.frame_times.proofs.Steps.{by-needed, by-test}
use Rattle.stops.proofs.Answers.{Told}

-- an outcome that isn't 36
abbrev pub Plain : Outcome → Type 0
Plain o = Told reason.Broken (λ i. ⊥) o.answer

-- from the kept frames on
plain-placed : (scale : ℕ) (nominal end : ℤ) (starts : List ℤ) → Plain (placed scale nominal end starts)
unfolding placed
plain-placed scale nominal end starts = either Plain (list_any is_outside (end ∷ starts)) (λ t e. grind arith) (λ t. tt)

plain-kept : (scale : ℕ) (nominal : ℤ) (e : Edit) (l : List Frame) → Plain (of_kept scale nominal e l)
unfolding of_kept shown
plain-kept scale nominal e [] = λ e. grind arith
plain-kept scale nominal e (f ∷ fs) = either Plain (le_z nominal (pos 0)) (λ t e. grind arith) (λ t. plain-placed scale nominal _ _)

-- from the track on
pub plain-times : (standard : Bool) (room : ℕ) (t : Track) → Plain (outcome_of (times_in standard room t))
plain-times standard room t =
    let P : Result Outcome Refusal → Type 0 = λ r. Plain (outcome_of r) in
    by-needed P (table_entries t.stts) (λ e. grind arith)
    (λ n. by-test P (ltb t.most_frames (entry_total (entries_of n t.stts))) reason.Missing (λ e. grind arith)
    (by-test P (ltb room (entry_total (entries_of n t.stts))) reason.NoRoom (λ e. grind arith)
    (by-needed P (optional_entries t.ctts) (λ e. grind arith)
    (λ m. by-needed P (edit_of t.edts t.scale t.movie) (λ e. grind arith) (λ e. plain-kept t.scale _ e _)))))
