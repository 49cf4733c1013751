-- What reading one string of a text answers, and what it leaves in lent bytes.
use Rattle.std.specs.Prelude.{ℕ, List, ◌≡◌, length, Some, None, Result, Ok, Err, nat_lt, if◌then◌else◌}
use Rattle.slices.specs.Slices.{laid}
use Rattle.refusal.specs.declared.Reason.TheVariants as reason
use Rattle.refusal.specs.declared.Refusal.{Refusal}
use Rattle.refusal.specs.Refusals.{refused}
use Rattle.json_tokens.specs.Text.{most_text, Got}
use Rattle.json_tokens.specs.Strings.{string_at}
use Rattle.json_strings.specs.Texts.{utf8_of}

-- 61: no string stands there
unfoldable pub bytes_of : Got (List ℕ) → Result (List ℕ) Refusal
bytes_of None = refused reason.NotJson 0
bytes_of (Some (characters, e)) = Ok (utf8_of characters)

-- 60: the text is too long
abbrev pub bytes_at : List ℕ → ℕ → Result (List ℕ) Refusal
bytes_at text at = if nat_lt most_text (length text) then refused reason.TextTooLong 0 else bytes_of (string_at text at)

-- 32: so many bytes are too few
unfoldable pub within : ℕ → Result (List ℕ) Refusal → Result (List ℕ) Refusal
within room (Ok bytes) = if nat_lt room (length bytes) then refused reason.NoRoom 0 else Ok bytes
within room (Err refusal) = Err refusal

-- THE BYTES OF THE STRING AT AN OFFSET, where they fit into the room
abbrev pub string_within : List ℕ → ℕ → ℕ → Result (List ℕ) Refusal
string_within text at room = within room (bytes_at text at)

-- how many they are
unfoldable pub length_of : Result (List ℕ) Refusal → Result ℕ Refusal
length_of (Ok bytes) = Ok (length bytes)
length_of (Err refusal) = Err refusal

-- the lent bytes after it
unfoldable pub bytes_left : Result (List ℕ) Refusal → List ℕ → List ℕ
bytes_left (Ok bytes) lent = laid bytes lent
bytes_left (Err refusal) lent = lent

-- the promise of `string_into`: of the string at an offset, into lent bytes
pub record StringInto (text : List ℕ) (at : ℕ) (out : List ℕ) (answer : Result ℕ Refusal) (out' : List ℕ) : Type 0 where
  pub answered : answer ≡ length_of (string_within text at (length out))
  pub laid_out : out' ≡ bytes_left (string_within text at (length out)) out
