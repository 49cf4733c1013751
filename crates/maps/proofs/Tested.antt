-- A row's tests, one after another: a sum that wraps is found by what it comes to. Assumes nothing.
use Rattle.std.proofs.Common.{◌≡◌, ℕ, ◌+◌, ◌%◌, ◌^◌, ◌<◌, ◌≤◌, false, sym, arith}
use Rattle.conditions.proofs.Tests.{Test, was, wasnt, test}
use Rattle.rows.specs.declared.Row.{Row}
use Rattle.rows.specs.Rows.{ok_shift, ok_row}
use Rattle.rows.proofs.Well.{OkRow, ok-shift, ok-facts}

not-ok : (p : ℕ) (r : Row) → (OkRow p r → ⊥) → false ≡ ok_row p r
not-ok p r h = go (test (ok_row p r))
  where
    go : Test (ok_row p r) → false ≡ ok_row p r
    go (was e) = absurd (h (ok-facts p r e))
    go (wasnt e) = sym e

-- e is the source's end as it was computed, and n the output frame after the row
module _ (p n e : ℕ) (r : Row) (fp : p < 2 ^ 64) (ff : r.first < 2 ^ 64) (fc : r.count < 2 ^ 64) (source : e ≡ (r.first + r.count) % 2 ^ 64) (next : n ≡ (p + r.count) % 2 ^ 64) where
  pub no_source : e ≤ r.first → false ≡ ok_row p r
  no_source h = not-ok p r (λ o. omega (arith, o.some, o.source))

  pub wraps : n < p → false ≡ ok_row p r
  wraps h = not-ok p r (λ o. omega (arith, o.out, o.last))

  pub but-shift : r.first < e → p ≤ n → r.out ≡ p → ok_row p r ≡ ok_shift r
  but-shift h l c = ok-shift p r (record { some = omega arith; source = omega arith; last = omega arith; out = c })

-- for the tests one after another
pub ruleset tested = (no_source, wraps, but-shift)
