-- The UTC rule, RULES 5.1.
use Rattle.std.specs.Prelude.{ℕ, ◌+◌, ◌-◌, ◌*◌, ◌%◌, Bool, not, ◌||◌, ◌&&◌, List, get_or, length, ◌==◌, nat_lt, nat_le, if◌then◌else◌}

-- two figures stand at i: each byte is 48 to 57, `0` to `9`
abbrev pub figures : List ℕ → ℕ → Bool
figures bytes i =
    (nat_le 48 (get_or bytes i 0) && nat_le (get_or bytes i 0) 57)
    && (nat_le 48 (get_or bytes (i + 1) 0) && nat_le (get_or bytes (i + 1) 0) 57)

-- the number that they are
abbrev pub two : List ℕ → ℕ → ℕ
two bytes i = (get_or bytes i 0 - 48) * 10 + (get_or bytes (i + 1) 0 - 48)

-- figures of year, month, day, hour, minute and second
abbrev pub all_figures : List ℕ → Bool
all_figures bytes =
    ((figures bytes 0 && figures bytes 2) && (figures bytes 5 && figures bytes 8))
    && ((figures bytes 11 && figures bytes 14) && figures bytes 17)

-- `-` (45), `-`, `T` (84), `:` (58), `:` and `Z` (90) at their places
abbrev pub marks : List ℕ → Bool
marks bytes =
    ((get_or bytes 4 0 == 45 && get_or bytes 7 0 == 45) && (get_or bytes 10 0 == 84 && get_or bytes 13 0 == 58))
    && (get_or bytes 16 0 == 58 && get_or bytes 19 0 == 90)

-- every fourth year, but of the hundreds only every fourth
abbrev pub leap : ℕ → Bool
leap year = year % 4 == 0 && (not (year % 100 == 0) || year % 400 == 0)

-- how many days a month of a year has
abbrev pub days : ℕ → ℕ → ℕ
days year month =
    if month == 2 then if leap year then 29 else 28
    else if (month == 4 || month == 6) || (month == 9 || month == 11) then 30
    else 31

-- there is such a day in a month of a year
abbrev pub dated : ℕ → ℕ → ℕ → Bool
dated year month day = (nat_le 1 month && nat_le month 12) && (nat_le 1 day && nat_le day (days year month))

-- a time of day, with no leap second
abbrev pub time_of_day : ℕ → ℕ → ℕ → Bool
time_of_day hour minute second = (nat_lt hour 24 && nat_lt minute 60) && nat_lt second 60

-- the rule for 20 bytes
abbrev pub utc_bytes : List ℕ → Bool
utc_bytes bytes =
    (marks bytes && all_figures bytes)
    && (dated (two bytes 0 * 100 + two bytes 2) (two bytes 5) (two bytes 8)
    && time_of_day (two bytes 11) (two bytes 14) (two bytes 17))

-- the UTC rule, of any bytes
unfoldable pub utc_second : List ℕ → Bool
utc_second bytes = length bytes == 20 && utc_bytes bytes
