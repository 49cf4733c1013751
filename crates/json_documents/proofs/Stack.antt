-- Places put on a stack: what lies from one height to another. Assumes nothing.
use mathlib.Core.Path.{◌≡◌, sym, ap, ◌∙◌}
use mathlib.Core.List.{List, [], ◌∷◌, ◌++◌}
use Prim.Native.Nat.{ℕ, ◌+◌, ◌-◌, ◌≤◌, ◌<◌}
use native.Mathlib.Omega.{arith}
use lib.ListN.{length, take, drop, set}
use Rattle.std.proofs.lemmas.List.{drop-take, drop-append-le, take-append-drop, take-append-le, take_more_set, length-take-le}

between : (bottom top : ℕ) (w : List ℕ) → bottom ≤ top → take (top - bottom) (drop bottom w) ≡ drop bottom (take top w)
between bottom top w h =
    let e : bottom + (top - bottom) ≡ top = omega arith in
    sym (drop-take bottom (top - bottom) w) ∙ ap (λ n. drop bottom (take n w)) e

-- one more, on a stack that was kept up to there
pub put-on : (bottom top : ℕ) (w old : List ℕ) (v : ℕ) → bottom ≤ top → top < length w → take top w ≡ take top old
    → take (top + 1 - bottom) (drop bottom (set w top v)) ≡ take (top - bottom) (drop bottom old) ++ v ∷ []
put-on bottom top w old v h l e =
    between bottom (top + 1) (set w top v) (omega arith)
    ∙ ap (drop bottom) (take_more_set w top v l)
    ∙ drop-append-le bottom (take top w) (v ∷ []) (omega (arith, length-take-le top w (omega arith)))
    ∙ ap (λ t. drop bottom t ++ v ∷ []) e
    ∙ ap (λ t. t ++ v ∷ []) (sym (between bottom top old h))

lower : (bottom top : ℕ) (w : List ℕ) → bottom ≤ top → top ≤ length w → take bottom w ≡ take bottom (take top w)
lower bottom top w h l =
    ap (take bottom) (sym (take-append-drop top w)) ∙ take-append-le bottom (take top w) (drop top w) (omega (arith, length-take-le top w l))

-- what is kept up to a height is kept below it
pub kept-below : (bottom top : ℕ) (w old : List ℕ) → bottom ≤ top → top ≤ length w → top ≤ length old → take top w ≡ take top old
    → take bottom w ≡ take bottom old
kept-below bottom top w old h l m e = lower bottom top w h l ∙ ap (take bottom) e ∙ sym (lower bottom top old h m)
