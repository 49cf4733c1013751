-- What a line asks for.
use Rattle.std.specs.Prelude.{ℕ, not, List, ℤ, length, codes, ◌==◌, if◌then◌else◌, Option, Some, None, Result, Ok, Err}
use Rattle.std.specs.Str.{bytes_eq}
use Rattle.conditions.specs.Results.{◌>>=◌, ◌>>◌}
use Rattle.steps.specs.declared.Fault.{Fault}
use Rattle.steps.specs.declared.Fault.TheVariants.{Unknown}
use Rattle.steps.specs.declared.Step.{Step}
use Rattle.steps.specs.declared.Step.TheVariants.{Row, Cut, Origin, Join, Merge}
use Rattle.steps.specs.Words.{code_of, word_of, rest_of}
use Rattle.steps.specs.Numbers.{number_in, integer_in}

-- the end of a line
abbrev pub end_in : List ℕ → Result (Unit {0}) Fault
end_in line = if length (word_of line) == 0 then Ok tt else Err Unknown

-- the first word of a line is a number, with which f goes on in the rest of the line
abbrev pub with_number : {A : Type 0} → List ℕ → (ℕ → List ℕ → Result A Fault) → Result A Fault
with_number line f = number_in (word_of line) >>= (λ n. f n (rest_of line))

-- shift SHIFT, or nothing
abbrev pub shift_in : List ℕ → Result (Option ℤ) Fault
shift_in line =
    if length (word_of line) == 0 then Ok None
    else if not (bytes_eq (word_of line) (codes "shift")) then Err Unknown
    else do
      shift ← integer_in (word_of (rest_of line))
      end_in (rest_of (rest_of line))
      Ok (Some shift)

-- row SOURCE FIRST COUNT, or row SOURCE FIRST COUNT shift SHIFT
abbrev pub row_in : List ℕ → Result Step Fault
row_in line =
    with_number line (λ source line. with_number line (λ first line. with_number line (λ count line.
    shift_in line >>= (λ shift. Ok (Row source first count shift)))))

-- cut START END
abbrev pub cut_in : List ℕ → Result Step Fault
cut_in line = with_number line (λ start line. with_number line (λ end line. end_in line >> Ok (Cut start end)))

-- origin FRAME
abbrev pub origin_in : List ℕ → Result Step Fault
origin_in line = with_number line (λ frame line. end_in line >> Ok (Origin frame))

-- a step without numbers
abbrev pub alone_in : Step → List ℕ → Result Step Fault
alone_in step line = end_in line >> Ok step

-- the step that begins with a word
abbrev pub step_in : List ℕ → List ℕ → Result Step Fault
step_in keyword line =
    if bytes_eq keyword (codes "row") then row_in line
    else if bytes_eq keyword (codes "cut") then cut_in line
    else if bytes_eq keyword (codes "origin") then origin_in line
    else if bytes_eq keyword (codes "join") then alone_in Join line
    else if bytes_eq keyword (codes "merge") then alone_in Merge line
    else Err Unknown

-- a line
abbrev pub step_of : List ℕ → Result (Option Step) Fault
step_of line =
    if length (word_of (code_of line)) == 0 then Ok None
    else do
      step ← step_in (word_of (code_of line)) (rest_of (code_of line))
      Ok (Some step)
