-- A list laid over the first elements of what is lent, and stores that lay one more. Assumes nothing.
use Prim.Native.Nat.{ℕ, suc, ◌+◌, ◌-◌, ◌≤◌, ◌<◌}
use native.Mathlib.Omega.{arith}
use mathlib.Core.List.{List, [], ◌∷◌, ◌++◌, append_assoc, append-nil}
use mathlib.Core.Path.{◌≡◌, sym, ◌∙◌, ap}
use lib.ListN.{length, get_or, set, take, drop, length-append, length-drop, drop_of_length-le}
use lib.Seq.{drop-cons, set-append_seam, sets, take-append_seam, drop-append_seam, take_all, drop-drop}
use Rattle.slices.specs.Slices.{laid}

-- what is lent, with a list laid over its first elements
module _ {A : Type 0} where
  pub length-laid : (p o : List A) → length p ≤ length o → length (laid p o) ≡ length o
  length-laid p o h = length-append p (drop (length p) o) ∙ simp length-drop (omega arith)

  length-snoc : (p : List A) (v : A) → length (p ++ v ∷ []) ≡ suc (length p)
  length-snoc p v = length-append p (v ∷ []) ∙ omega arith

  pub set-laid : (p o : List A) (v : A) → length p < length o → set (laid p o) (length p) v ≡ laid (p ++ v ∷ []) o
  set-laid p o v h =
      ap (λ (x : List A). set (p ++ x) (length p) v) (drop-cons o (length p) v h)
      ∙ set-append_seam p (get_or o (length p) v) (drop (suc (length p)) o) v
      ∙ sym (append_assoc p (v ∷ []) (drop (suc (length p)) o))
      ∙ ap (λ (k : ℕ). (p ++ v ∷ []) ++ drop k o) (sym (length-snoc p v))

  pub sets-laid : (vs p o : List A) → length p + length vs ≤ length o → sets (laid p o) (length p) vs ≡ laid (p ++ vs) o
  sets-laid [] p o h = ap (λ (x : List A). laid x o) (sym (append-nil p))
  sets-laid (v ∷ vs) p o h =
      let e = length-snoc p v in
      ap (λ (x : List A). sets x (suc (length p)) vs) (set-laid p o v (omega arith))
      ∙ ap (λ (k : ℕ). sets (laid (p ++ v ∷ []) o) k vs) (sym e)
      ∙ sets-laid vs (p ++ v ∷ []) o (omega arith)
      ∙ ap (λ (x : List A). laid x o) (append_assoc p (v ∷ []) vs)

-- p is laid over o, and then q over the part of that from n on, which is put back: p and q are laid over o
pub laid-laid : {A : Type 0} (p q o l₁ l₂ : List A) (n : ℕ) → l₁ ≡ laid p o → n ≡ length p
    → length p + length q ≤ length o
    → l₂ ≡ laid q (take (length l₁ - n) (drop n l₁)) → take n l₁ ++ (l₂ ++ drop (length l₁ - n) (drop n l₁)) ≡ laid (p ++ q) o
laid-laid {A} p q o l₁ l₂ n e₁ en h e₂ =
    let lx : length l₁ ≡ length o = ap length e₁ ∙ length-laid p o (omega arith) in
    let dr : drop n l₁ ≡ drop (length p) o = ap (λ (k : ℕ). drop k l₁) en ∙ ap (drop (length p)) e₁ ∙ drop-append_seam p (drop (length p) o) in
    let tk : take n l₁ ≡ p = ap (λ (k : ℕ). take k l₁) en ∙ ap (take (length p)) e₁ ∙ take-append_seam p (drop (length p) o) in
    let ld = length-drop (length p) o in
    let whole : take (length l₁ - n) (drop n l₁) ≡ drop (length p) o = ap (take (length l₁ - n)) dr ∙ take_all (length l₁ - n) (drop (length p) o) (omega arith) in
    let none : drop (length l₁ - n) (drop n l₁) ≡ [] = ap (drop (length l₁ - n)) dr ∙ drop_of_length-le (drop (length p) o) {i = length l₁ - n} (omega arith) in
    let e₃ : l₂ ≡ laid q (drop (length p) o) = e₂ ∙ ap (laid q) whole in
    cong3 tk e₃ none ∙ simp (append-nil, drop-drop, append_assoc, length-append)
  where
    cong3 : {x x' y y' z z' : List A} → x ≡ x' → y ≡ y' → z ≡ z' → x ++ (y ++ z) ≡ x' ++ (y' ++ z')
    cong3 a b c = cc
