-- Frame times as text.
use Rattle.std.specs.Prelude.{ℕ, List, [], ◌∷◌, ◌++◌, ℤ, decimal, codes, flat_map}
use Rattle.std.specs.Fmt.{signed_decimal}
use Rattle.time_lines.specs.declared.Head.{Head}

-- a start a line
abbrev pub start_line : ℤ → List ℕ
start_line start = signed_decimal start ++ 10 ∷ []

abbrev pub start_lines : List ℤ → List ℕ
start_lines starts = flat_map start_line starts

-- the line of numbers
abbrev pub head_line : ℕ → ℕ → ℤ → ℤ → List ℕ
head_line frames scale nominal end =
    codes "frames " ++ (decimal frames ++ (codes " timescale " ++ (decimal scale ++ (codes " nominal " ++ (signed_decimal nominal
    ++ (codes " end " ++ (signed_decimal end ++ 10 ∷ [])))))))

-- both
abbrev pub times_text : Head → List ℤ → List ℕ
times_text head starts = head_line head.frames head.scale head.nominal head.end ++ start_lines starts
