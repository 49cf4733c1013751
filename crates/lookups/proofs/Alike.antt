-- Words of absent things are ignored by the lookups of a list. Assumes nothing.
use Prim.Native.Nat.{ℕ}
use mathlib.Core.Path.{◌≡◌, ◌∙◌, ap}
use mathlib.Core.List.{List, map}
use lib.ListN.{length}
use lib.Dec.{ltb}
use Rattle.std.specs.Prelude.{Result, Ok, if◌then◌else◌}
use Rattle.std.specs.Result.{result_and}
use Rattle.refusal.specs.declared.Refusal.{Refusal}
use Rattle.refusal.specs.declared.Reason.TheVariants as reason
use Rattle.refusal.specs.Refusals.{refused}
use Rattle.slices.specs.Slices.{after}
use Rattle.rules.specs.Records.{Table}
use Rattle.rules.specs.Absent.{stripped}
use Rattle.rules.proofs.Ignored.{refusal-stripped, over-stripped, alike}
use Rattle.lookups.specs.Indices.{indices_of, indices_refusal, Indexing}

indices-stripped : (frames : List ℕ) (t : Table) → indices_of t frames ≡ indices_of (stripped t) frames
unfolding indices_of
indices-stripped frames t = λ i. map (λ k. over-stripped k t i) frames

room-stripped : (n room : ℕ) (t : Table) → indices_refusal t n room ≡ indices_refusal (stripped t) n room
unfolding indices_refusal
room-stripped n room t = λ i. result_and (refusal-stripped t i) (if ltb room n then refused reason.NoRoom 0 else Ok tt)

-- what segments_of_frames may answer and leave of one of two tables that are stripped alike, it may of the other
pub indices-alike : (a b : Table) → stripped a ≡ stripped b → (frames out out' : List ℕ) (r : Result ℕ Refusal)
    → Indexing a frames out r out' → Indexing b frames out r out'
indices-alike a b e frames out out' r p =
    let refusals = alike (λ t. indices_refusal t (length frames) (length out)) (room-stripped (length frames) (length out)) a b e in
    let indices = alike (λ t. indices_of t frames) (indices-stripped frames) a b e in
    record {
      answer = p.answer ∙ ap (λ (x : Result (Unit {0}) Refusal). result_and x (Ok (length frames))) refusals;
      indices = p.indices ∙ λ i. after (refusals i) (indices i) out;
    }
