-- What is held of a reader that has no byte left. Assumes nothing.
use Rattle.std.proofs.Common.{◌≡◌, ℕ, List, None, Some, IfSome, sym, ap, ◌∙◌, append-nil, ◌++◌, take}
use Rattle.std.specs.Io.KnownBytes.{Consumes, IsAtEnd}
use Rattle.std.specs.declared.option.Option.{Option}

-- all that it had
pub all_held : (a b : Option (List ℕ)) (bs : List ℕ) → Consumes a b bs → IsAtEnd b → IfSome a (λ xs. bs ≡ xs)
all_held None b bs p e = tt
all_held (Some x) None bs p e = absurd p
all_held (Some x) (Some y) bs p e = sym (p ∙ ap (λ l. bs ++ l) e ∙ append-nil bs)

-- a reader that gave none had none
pub none_left : (a b : Option (List ℕ)) (bs : List ℕ) → Consumes a b (take 0 bs) → IsAtEnd b → IsAtEnd a
none_left None b bs p e = tt
none_left (Some x) None bs p e = absurd p
none_left (Some x) (Some y) bs p e = p ∙ e
