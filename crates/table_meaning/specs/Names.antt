-- Where the names of a table's sources stand in its text: of each two words, the offset of its first byte and how many
-- bytes it has, without the quotation marks and with escapes as they are written.
use Rattle.std.specs.Prelude.{ℕ, ◌*◌, List, [], ◌∷◌, ◌++◌, length, Result, Ok, Err, nat_lt, replicate, ◌≡◌, if◌then◌else◌}
use Rattle.slices.specs.Slices.{laid}
use Rattle.refusal.specs.declared.Reason.TheVariants as reason
use Rattle.refusal.specs.declared.Refusal.{Refusal}
use Rattle.refusal.specs.Refusals.{refused}
use Rattle.table_text.specs.Tables.{span_at}
use Rattle.table_meaning.specs.Parsed.{ParsedSource, Parsed, parsing}

unfoldable pub name_words : List ℕ → List ParsedSource → List ℕ
name_words text [] = []
name_words text (o ∷ rest) = span_at text o.name_at ++ name_words text rest

-- 32, index 0: too little room for two words a source
unfoldable pub roomy : ℕ → Result Parsed Refusal → Result Parsed Refusal
roomy room (Ok t) = if nat_lt room (2 * length t.sources) then refused reason.NoRoom 0 else Ok t
roomy room (Err refusal) = Err refusal

-- THE NAMES IN A TABLE'S TEXT: `parsing` refuses with 60, 32 (index 1), 61 to 64 and 2, then 32 (index 0)
abbrev pub naming : List ℕ → ℕ → ℕ → Result Parsed Refusal
naming text room work = roomy room (parsing text work)

-- how many they are
unfoldable pub named_sources : Result Parsed Refusal → Result ℕ Refusal
named_sources (Ok t) = Ok (length t.sources)
named_sources (Err refusal) = Err refusal

-- the lent words afterwards
unfoldable pub names_left : List ℕ → Result Parsed Refusal → List ℕ → List ℕ
names_left text (Ok t) lent = laid (name_words text t.sources) lent
names_left text (Err refusal) lent = lent

-- ALL THAT `source_names` PROMISES, likewise
pub record NamesRead (text out work : List ℕ) (answer : Result ℕ Refusal) (out' work' : List ℕ) : Type 0 where
  pub answered : answer ≡ named_sources (naming text (length out) (length work))
  pub laid_out : out' ≡ names_left text (naming text (length out) (length work)) out
  pub cleared : work' ≡ replicate (length work) 0
