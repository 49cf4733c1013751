-- A sum that passes a bound, or doesn't, by its test. Assumes nothing.
use mathlib.Core.Path.{◌≡◌}
use mathlib.Core.Bool.{false}
use Prim.Native.Nat.{ℕ, ◌+◌, ◌≤◌}
use borrow.Author.Tests.{ltb-false, le-ltb}
use Rattle.conditions.specs.Conditions.{past}

pub past-not : (a b m : ℕ) → past a b m ≡ false → a + b ≤ m
unfolding past
past-not a b m e = ltb-false m (a + b) e

pub not-past : (a b m : ℕ) → a + b ≤ m → past a b m ≡ false
unfolding past
not-past a b m h = le-ltb m (a + b) h
