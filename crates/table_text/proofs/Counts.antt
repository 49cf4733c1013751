-- How many items a list has, and the k-th of a list that is mapped. Assumes nothing.
use mathlib.Core.Path.{◌≡◌, refl}
use mathlib.Core.List.{List, [], ◌∷◌, map}
use Prim.Native.Nat.{ℕ, zero, suc, ◌+◌, ◌≤◌, ◌<◌}
use native.Mathlib.Omega.{arith}
use lib.ListN.{length, get_or}
use Rattle.std.specs.Prelude.{Some, None}
use Rattle.json_values.specs.declared.Turn.{Turn}
use Rattle.json_values.specs.declared.Turn.TheVariants.{Done, Next, Bad}
use Rattle.json_tokens.specs.Text.{Got}
use Rattle.json_values.specs.Grammar.{rank, after_at, opened_at}
use Rattle.json_walks.specs.Walks.{listed_then, listed_from, listed, item_place}
use Rattle.table_text.specs.Lists.{places, in_list}

then-short : {A : Type 0} (n : ℕ) (g : Got A) (f : ℕ → List A) → ((e : ℕ) → length (f e) ≤ n) → length (listed_then g f) ≤ suc n
unfolding listed_then
then-short n None f h = omega arith
then-short n (Some (a, e)) f h = omega (arith, h e)

from-short : {A : Type 0} (n : ℕ) (v : ℕ → Got A) (next : ℕ → Turn) (t : Turn) → length (listed_from n v next t) ≤ n
unfolding listed_from
from-short zero v next t = omega arith
from-short (suc n) v next Bad = omega arith
from-short (suc n) v next (Done k) = omega arith
from-short (suc n) v next (Next i) = then-short n (v i) (λ e. listed_from n v next (next e)) (λ e. from-short n v next (next e))

rank-short : (len : ℕ) (t : Turn) → rank len t ≤ suc len
unfolding rank
rank-short len Bad = omega arith
rank-short len (Done k) = omega arith
rank-short len (Next i) = omega arith

listed-short : {A : Type 0} (v : ℕ → Got A) (c : ℕ) (text : List ℕ) (t : Turn) → length (listed v c text t) ≤ suc (length text)
unfolding listed
listed-short v c text t = let a = from-short (rank (length text) t) v (after_at c text) t in let b = rank-short (length text) t in omega arith

pub places_short : (text : List ℕ) (list : ℕ) → length (places text list) ≤ length text + 1
places_short text list = omega (arith, listed-short {A = ℕ} (item_place in_list text) 0x5d text (opened_at 0x5d text list))

-- the k-th of a list that is mapped
pub get_or_mapped : {A : Type 0} (f : ℕ → A) (l : List ℕ) (k : ℕ) (d : A) → k < length l → f (get_or l k 0) ≡ get_or (map f l) k d
get_or_mapped f [] k d h = absurd (omega arith)
get_or_mapped f (x ∷ l) zero d h = refl
get_or_mapped f (x ∷ l) (suc k) d h = get_or_mapped f l k d (omega arith)
