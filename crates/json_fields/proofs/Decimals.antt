-- Digits, one after another: the loop's invariant is `decimal n (span text k to) ≡ x`, with x the whole number. Assumes nothing.
use Rattle.std.specs.Prelude.{Some, None}
use mathlib.Core.Path.{◌≡◌, sym, ap, ◌∙◌}
use mathlib.Core.List.{List, [], ◌∷◌}
use Prim.Native.Nat.{ℕ, suc, ◌+◌, ◌-◌, ◌*◌, ◌%◌, ◌≤◌, ◌<◌}
use native.Mathlib.Omega.{arith}
use native.Mathlib.Numerals.{add-one}
use lib.ListN.{length, get_or, take, drop}
use lib.Seq.{drop-cons}
use borrow.Author.Tests.{le-leb, lt-leb}
use Rattle.json_tokens.specs.Numbers.{decimal}
use Rattle.json_fields.specs.Whole.{max_u64, fitting, span}

grows : (n : ℕ) (l : List ℕ) → n ≤ decimal n l
unfolding decimal
grows n [] = omega arith
grows n (b ∷ l) = omega (arith, grows (n * 10 + b % 16) l)

span-cons : (text : List ℕ) (k to : ℕ) → k < to → to ≤ length text → span text k to ≡ get_or text k 0 ∷ span text (k + 1) to
span-cons text k to h l =
    let e : to - k ≡ suc (to - (k + 1)) = omega arith in
    ap (λ (m : ℕ). take m (drop k text)) e ∙ ap (take (suc (to - (k + 1)))) (drop-cons text k 0 (omega arith)) ∙ rw add-one

module _ (text : List ℕ) (to n k : ℕ) {x : ℕ} (inv : decimal n (span text k to) ≡ x) where
  pub digit-on : k < to → to ≤ length text → decimal (n * 10 + get_or text k 0 % 16) (span text (k + 1) to) ≡ x
  unfolding decimal
  digit-on h l = sym (ap (decimal n) (span-cons text k to h l)) ∙ inv

  pub digit-large : k < to → to ≤ length text → max_u64 < n * 10 + get_or text k 0 % 16 → None ≡ fitting x
  unfolding fitting
  digit-large h l o =
      let g = grows (n * 10 + get_or text k 0 % 16) (span text (k + 1) to) in
      let e = digit-on h l in
      rw (lt-leb x max_u64 (omega arith))

  pub digits-end : to ≤ k → n ≤ max_u64 → Some n ≡ fitting x
  unfolding fitting decimal
  digits-end h l =
      let z : to - k ≡ 0 = omega arith in
      let e : n ≡ x = sym (ap (λ (m : ℕ). decimal n (take m (drop k text))) z) ∙ inv in
      rw (le-leb x max_u64 (omega arith)) (ap (λ (m : ℕ). Some m) e)
