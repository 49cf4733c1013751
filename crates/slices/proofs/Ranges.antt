-- Lists over a range of numbers, as a loop visits them: a law for a turn, one for a find and one for the end. Assumes
-- nothing.
use Prim.Native.Nat.{ℕ, suc, ◌+◌, ◌-◌, ◌≤◌, ◌<◌}
use native.Mathlib.Omega.{arith}
use mathlib.Core.Path.{◌≡◌, sym, ap, ◌∙◌}
use mathlib.Core.Bool.{Bool, true, false}
use mathlib.Core.List.{List, [], ◌∷◌, map}
use Rattle.std.specs.List.{list_any, range_with_len}

-- f i, f (i + 1), .., n of them
abbrev pub run : {A : Type 0} → (ℕ → A) → ℕ → ℕ → List A
run f i n = map f (range_with_len i n)

module _ {A : Type 0} (f : ℕ → A) where
  pub run-cons : (k m : ℕ) → k < m → run f k (m - k) ≡ f k ∷ run f (k + 1) (m - (k + 1))
  run-cons k m h =
      let e : m - k ≡ suc (m - (k + 1)) = omega arith in
      rw e

  pub run-nil : (k m : ℕ) → m ≤ k → run f k (m - k) ≡ []
  run-nil k m h =
      let e : m - k ≡ 0 = omega arith in
      rw e

  -- a loop's invariant is `list_any p (run f k (m - k)) ≡ x`, with x the whole answer
  module _ (p : A → Bool) (k m : ℕ) {x : Bool} where
    pub any-turn : k < m → p (f k) ≡ false → list_any p (run f k (m - k)) ≡ x
        → list_any p (run f (k + 1) (m - (k + 1))) ≡ x
    any-turn h e i = sym (ap (list_any p) (run-cons k m h) ∙ rw e) ∙ i

    pub any-hit : k < m → p (f k) ≡ true → list_any p (run f k (m - k)) ≡ x → true ≡ x
    any-hit h e i = sym (ap (list_any p) (run-cons k m h) ∙ rw e) ∙ i

    pub any-end : m ≤ k → list_any p (run f k (m - k)) ≡ x → false ≡ x
    any-end h i = sym (ap (list_any p) (run-nil k m h)) ∙ i
