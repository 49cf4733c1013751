-- A number: RFC 8259, 6.
use Rattle.std.specs.Prelude.{if◌then◌else◌, ℕ, Option, Some, None, ◌+◌, ◌*◌, ◌-◌, ◌%◌, Bool, ◌||◌, ◌&&◌, not, List, [], ◌∷◌, take, drop, eqb}
use Rattle.json_tokens.specs.Text.{byte_at, digits, Got, ◌>>=◌}

-- 1*DIGIT: the digits from i on end at d, and there are some
unfoldable pub some : ℕ → ℕ → Option ℕ
some i d = if eqb d i then None else Some d

-- int = zero / ( digit1-9 *DIGIT ), zero = %x30: digits, of which the first is a 0 only where it is the only one
unfoldable pub int_end : List ℕ → ℕ → Option ℕ
int_end text i = if eqb (byte_at text i) 0x30 && not (eqb (digits text i) (i + 1)) then None else some i (digits text i)

-- [ frac ], frac = decimal-point 1*DIGIT, decimal-point = %x2E
unfoldable pub frac_end : List ℕ → ℕ → Option ℕ
frac_end text i = if eqb (byte_at text i) 0x2e then some (i + 1) (digits text (i + 1)) else Some i

-- [ minus / plus ], minus = %x2D, plus = %x2B
unfoldable pub signed : List ℕ → ℕ → ℕ
signed text i = if eqb (byte_at text i) 0x2b || eqb (byte_at text i) 0x2d then i + 1 else i

-- [ exp ], exp = e [ minus / plus ] 1*DIGIT, e = %x65 / %x45
unfoldable pub exp_end : List ℕ → ℕ → Option ℕ
exp_end text i = if eqb (byte_at text i) 0x65 || eqb (byte_at text i) 0x45 then some (signed text (i + 1)) (digits text (signed text (i + 1))) else Some i

-- the number that digits stand for, after those that make n; a digit stands for its byte's last four bits
unfoldable pub decimal : ℕ → List ℕ → ℕ
decimal n [] = n
decimal n (b ∷ s) = decimal (n * 10 + b % 16) s

-- what is read of a number: whether it has a minus, whether it is an int alone, and that int
pub record Figure : Type 0 where
  pub minus : Bool
  pub plain : Bool
  pub int : ℕ

-- [ minus ]
abbrev pub after_minus : List ℕ → ℕ → ℕ
after_minus text i = if eqb (byte_at text i) 0x2d then i + 1 else i

-- number = [ minus ] int [ frac ] [ exp ]
unfoldable pub number_at : List ℕ → ℕ → Got Figure
number_at text i = do
  d ← int_end text (after_minus text i)
  f ← frac_end text d
  e ← exp_end text f
  Some (record { minus = eqb (byte_at text i) 0x2d; plain = eqb e d; int = decimal 0 (take (d - after_minus text i) (drop (after_minus text i) text)) }, e)
