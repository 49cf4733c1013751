-- What a walk over a string has left. No call's promise names this.
use Rattle.std.specs.Prelude.{ℕ, List}
use Rattle.json_strings.specs.declared.Chars.{Chars}
use Rattle.json_strings.specs.Texts.{lead_chars}

abbrev pub chars_left : Chars → List ℕ
chars_left walk = lead_chars walk.text.now walk.at
