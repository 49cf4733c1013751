-- A line as words: what stands before its comment, cut at blanks.
use Rattle.std.specs.Prelude.{ℕ, Bool, not, ◌||◌, List, drop, ◌==◌}
use Rattle.std.specs.List.{prefix_len, take_while}
use Rattle.steps.specs.declared.Kind.{Kind}
use Rattle.steps.specs.declared.Kind.TheVariants.{Blank, Word, Text}

-- space, tab, carriage return
abbrev pub blank : ℕ → Bool
blank byte = byte == 32 || byte == 9 || byte == 13

-- a byte is of a kind; a comment begins with #
abbrev pub passing : Kind → ℕ → Bool
passing Blank byte = blank byte
passing Word byte = not (blank byte)
passing Text byte = not (byte == 35)

-- a line before its comment
abbrev pub code_of : List ℕ → List ℕ
code_of line = take_while (passing Text) line

-- a line from its first word on
abbrev pub trimmed : List ℕ → List ℕ
trimmed line = drop (prefix_len (passing Blank) line) line

-- the first word, and what comes after it
abbrev pub word_of : List ℕ → List ℕ
word_of line = take_while (passing Word) (trimmed line)

abbrev pub rest_of : List ℕ → List ℕ
rest_of line = drop (prefix_len (passing Word) (trimmed line)) (trimmed line)
