-- The walk `children` meets the boxes: by the laws of boxes on the header at an offset. Assumes nothing.
use mathlib.Core.Path.{◌≡◌, refl, sym, subst}
use mathlib.Core.List.{List}
use Prim.Native.Nat.{ℕ, ◌≤◌, ◌<◌}
use native.Mathlib.Omega.{arith}
use lib.Dec.{ltb}
use lib.ListN.{length}
use Rattle.conditions.proofs.Tests.{either}
use Rattle.boxes.specs.Boxes.{most_bytes, clean, bad, box, header_at, after_header, boxes_at, reached_by, children_at}
use Rattle.boxes.specs.declared.Header.{Header}
use Rattle.boxes.specs.declared.Header.TheVariants.{Whole, Short, Bad}
use Rattle.boxes.specs.declared.BoxAt.{BoxAt}
use Rattle.std.specs.Prelude.{Result, Ok, Err}
use Rattle.refusal.specs.declared.Refusal.{Refusal}
use Rattle.refusal.specs.declared.Reason.TheVariants as reason
use Rattle.boxes.proofs.Sizes.{Lies, header-lies}
use Rattle.boxes.proofs.Walks.{at-header}
use Rattle.audit.specs.Claims.{Walking}

-- what an answer says of the boxes from its offset on
abbrev Meets : List ℕ → ℕ → Result BoxAt Refusal → Type 0
Meets b at (Ok found) = (boxes_at b at ≡ box at found.kind found.start found.len (boxes_at b found.next)) × (at < found.next) × (found.next ≤ length b)
Meets b at (Err refusal) = (refusal.reason ≡ reason.Missing → boxes_at b at ≡ clean) × (refusal.reason ≡ reason.Broken → boxes_at b at ≡ bad refusal.index)

by-header : (b : List ℕ) (at : ℕ) (h : Header) → Lies at (length b) h → boxes_at b at ≡ after_header h at (boxes_at b)
    → Meets b at (reached_by h at)
by-header b at Short z e = (λ n. e, λ n. absurd (grind arith))
by-header b at Bad z e = (λ n. absurd (grind arith), λ n. e)
by-header b at (Whole found) z e = (e, omega arith, omega arith)

met : (b : List ℕ) (at : ℕ) → Meets b at (children_at b at)
met b at =
    either (Meets b at) (ltb most_bytes (length b)) (λ e. (λ n. absurd (grind arith), λ n. absurd (grind arith)))
    (λ e. either (Meets b at) (ltb (length b) at) (λ e. (λ n. absurd (grind arith), λ n. absurd (grind arith)))
    (λ e. by-header b at (header_at b at) (header-lies b at) (at-header b at refl)))

pub walked : Walking
walked = record {
  turn = λ b at kind start len next p. (subst (Meets b at) (sym p) (met b at)).0;
  on = λ b at kind start len next p. let m = subst (Meets b at) (sym p) (met b at) in (m.1, m.2);
  end = λ b at p. (subst (Meets b at) (sym p) (met b at)).0 refl;
  bad = λ b at i p. (subst (Meets b at) (sym p) (met b at)).1 refl;
}
