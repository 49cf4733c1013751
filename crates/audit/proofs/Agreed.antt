-- Both modes of composition offsets answer the same: by modes' theorem on the definition. Assumes nothing.
use Prim.Native.Nat.{ℕ}
use mathlib.Core.Path.{◌≡◌, sym, ap, ◌∙◌}
use mathlib.Core.Bool.{Bool}
use mathlib.Core.List.{List}
use lib.IntN.{ℤ}
use Rattle.slices.specs.Slices.{laid}
use Rattle.ticks.specs.declared.FrameTimes.{FrameTimes}
use Rattle.std.specs.Prelude.{Result}
use Rattle.refusal.specs.declared.Refusal.{Refusal}
use Rattle.frame_times.specs.Times.{Outcome, MoovAnswers, room, times_of_moov}
use Rattle.audit.specs.Claims.{Agreeing}
use Rattle.audit.proofs.Theorems.{Theorems}

-- what a mode answers, another one does that has the same outcome
same : {moov : List ℕ} {m n : Bool} {starts a b starts' a' b' : List ℤ} {r : Result FrameTimes Refusal}
    → times_of_moov m moov (room starts a b) ≡ times_of_moov n moov (room starts a b)
    → MoovAnswers m moov starts a b r starts' a' b' → MoovAnswers n moov starts a b r starts' a' b'
same {starts = starts} e p = record {
  answer = p.answer ∙ ap (λ (o : Outcome). o.answer) e;
  starts = p.starts ∙ ap (λ (o : Outcome). laid o.starts starts) e;
  first_clear = p.first_clear;
  second_clear = p.second_clear;
}

pub agreeing : Theorems → Agreeing
agreeing by = record { frame_times = λ moov starts a b starts' a' b' r h. let e = by.modes moov (room starts a b) h in (same e, same (sym e)) }
