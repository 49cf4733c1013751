-- A loop that goes from turn to turn: its invariant is `end_of (items v c text turn) ≡ x`, with x the whole answer. Assumes nothing.
use Rattle.std.specs.Prelude.{Option, Some, None}
use mathlib.Core.Path.{◌≡◌, sym, ap, ◌∙◌}
use mathlib.Core.List.{List}
use Prim.Native.Nat.{ℕ, suc, ◌≤◌, ◌<◌}
use native.Mathlib.Omega.{arith}
use lib.ListN.{length}
use Rattle.json_values.specs.declared.Turn.{Turn}
use Rattle.json_values.specs.declared.Turn.TheVariants.{Done, Next, Bad}
use Rattle.json_tokens.specs.Text.{Got, end_of}
use Rattle.json_values.specs.Grammar.{items, after_at, rank}
use Rattle.json_values.proofs.Series.{Ends, Inside, item_on, item-torn, items-done, items-bad, after-falls}

pub ends_at : {A : Type 0} (len i e : ℕ) (g : Got A) → Ends len i g → Some e ≡ end_of g → (i < e) × (e ≤ len)
unfolding Ends end_of
ends_at len i e None x h = let z : ◌≡◌ {A = ℕ} 0 1 = cc in absurd (omega arith)
ends_at len i e (Some (a, f)) x h = let z : f ≡ e = cc in (omega (arith, x.0, z), omega (arith, x.1, z))

module _ {A : Type 0} (v : ℕ → Got A) (c : ℕ) (text : List ℕ) (inside : Inside (length text) v) {turn : Turn} {x : Option ℕ}
    (inv : end_of (items v (suc c) text turn) ≡ x) where
  pub walk-done : (k : ℕ) → turn ≡ Done k → Some k ≡ x
  walk-done k e = sym (items-done v c text inside k) ∙ ap (λ (t : Turn). end_of (items v (suc c) text t)) (sym e) ∙ inv

  pub walk-bad : turn ≡ Bad → None ≡ x
  walk-bad e = sym (items-bad v c text inside) ∙ ap (λ (t : Turn). end_of (items v (suc c) text t)) (sym e) ∙ inv

  pub walk-torn : (i : ℕ) → turn ≡ Next i → None ≡ end_of (v i) → None ≡ x
  walk-torn i e h = sym (item-torn v c text inside i h) ∙ ap (λ (t : Turn). end_of (items v (suc c) text t)) (sym e) ∙ inv

  pub walk-on : (i e : ℕ) (n : Turn) → turn ≡ Next i → Some e ≡ end_of (v i) → n ≡ after_at (suc c) text e → end_of (items v (suc c) text n) ≡ x
  walk-on i e n q h r =
      ap (λ (t : Turn). end_of (items v (suc c) text t)) r
      ∙ sym (item_on v c text inside i e h)
      ∙ ap (λ (t : Turn). end_of (items v (suc c) text t)) (sym q)
      ∙ inv

  pub walk-less : (i e : ℕ) (n : Turn) → turn ≡ Next i → Some e ≡ end_of (v i) → n ≡ after_at (suc c) text e → rank (length text) n < rank (length text) turn
  unfolding rank
  walk-less i e n q h r =
      let b = ends_at (length text) i e (v i) (inside i) h in
      rw (r, q) (omega (arith, after-falls c text e))
