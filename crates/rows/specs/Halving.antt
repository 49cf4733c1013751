-- What a halving finds among things that pass a test before those that don't.
use Rattle.std.specs.Prelude.{ℕ, ◌+◌, ◌<◌, Bool, true, false}

-- the last of n that passes, or the first; `gives k passes` says whether the test passes number k
pub record LastThat (gives : ℕ → Bool → Type 0) (n last : ℕ) : Type 0 where
  pub within : last < n
  pub low : 0 < last → gives last true
  pub high : last + 1 < n → gives (last + 1) false
