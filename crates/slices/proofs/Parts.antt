-- Parts of lists. Assumes nothing.
use mathlib.Core.Path.{◌≡◌}
use mathlib.Core.List.{List}
use Prim.Native.Nat.{ℕ, suc, ◌-◌, ◌<◌}
use native.Mathlib.Omega.{arith}
use lib.ListN.{length, get_or, take, drop, length-drop}
use lib.Seq.{drop-cons, take_all}

-- what `&s[a..]` is
pub from : {A : Type 0} (a : ℕ) (s : List A) → take (length s - a) (drop a s) ≡ drop a s
from a s = take_all (length s - a) (drop a s) (simp length-drop (omega arith))

-- two lists that agree from j on
module _ {A : Type 0} (xs ys : List A) (j : ℕ) (d : A) (h : j < length xs) (k : j < length ys) (e : drop j xs ≡ drop j ys) where
  pub same_at : get_or xs j d ≡ get_or ys j d
  same_at = cc (drop-cons xs j d h, drop-cons ys j d k)

  pub same_after : drop (suc j) xs ≡ drop (suc j) ys
  same_after = cc (drop-cons xs j d h, drop-cons ys j d k)
