-- What the calls on boxes and frame times promise of an answer: their own clauses, as the theorems take them.
use Rattle.std.specs.Prelude.{ℕ, Bool, List, ◌≡◌, ℤ, Result}
use Rattle.boxes.specs.Boxes.{children_at}
use Rattle.boxes.specs.Places.{child_place, find_box_place}
use Rattle.boxes.specs.declared.Place.{Place}
use Rattle.boxes.specs.declared.BoxAt.{BoxAt}
use Rattle.ticks.specs.declared.FrameTimes.{FrameTimes}
use Rattle.refusal.specs.declared.Refusal.{Refusal}
use Rattle.frame_times.specs.Times.{MoovAnswers}

abbrev pub ChildPlace : List ℕ → ℕ → Result Place Refusal → Type 0
ChildPlace bytes kind answer = answer ≡ child_place bytes kind

abbrev pub FindBoxPlace : List ℕ → ℕ → ℕ → ℕ → Bool → Result Place Refusal → Type 0
FindBoxPlace bytes start end kind text answer = answer ≡ find_box_place bytes start end kind text

abbrev pub Children : List ℕ → ℕ → Result BoxAt Refusal → Type 0
Children bytes at answer = answer ≡ children_at bytes at

abbrev pub FrameTimesOf : List ℕ → Bool → List ℤ → List ℤ → List ℤ → Result FrameTimes Refusal
    → List ℤ → List ℤ → List ℤ → Type 0
FrameTimesOf moov standard starts first_work second_work answer starts' first_work' second_work' =
    MoovAnswers standard moov starts first_work second_work answer starts' first_work' second_work'
