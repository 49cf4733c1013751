-- Chains of tests and lists of conditions: a chain refuses for the reason of the first condition that holds. Assumes
-- nothing.
use Prim.Native.Nat.{ℕ, suc, ◌+◌, ◌<◌, zero-le, suc-le-suc}
use native.Mathlib.Nat.{add-zero}
use native.Mathlib.Omega.{arith}
use mathlib.Core.Path.{◌≡◌, refl, sym, ap, ◌∙◌, subst}
use mathlib.Core.Bool.{Bool, true, false}
use mathlib.Core.List.{List, [], ◌∷◌, ◌++◌}
use mathlib.Core.Logic.{◌↔◌, inl, inr}
use lib.ListN.{length, get_or}
use Rattle.std.specs.Prelude.{Result, Ok, Err, if◌then◌else◌}
use Rattle.std.specs.Result.{result_and}
use Rattle.refusal.specs.declared.Reason.{Reason}
use Rattle.refusal.specs.declared.Refusal.{Refusal}
use Rattle.refusal.specs.Refusals.{refused, indexed, first_refused}
use Rattle.rules.specs.Grounds.{Test, given, each, First, None, Rightly}
use Rattle.rules.proofs.Says.{Says}

-- a chain's reason, at an index, is that of the first condition that holds
unfoldable pub Finds : ℕ → Result (Unit {0}) Reason → List Test → Type 0
Finds i (Ok u) l = None l
Finds i (Err why) l = First l why i

-- so is a refusal
unfoldable pub Agrees : Result (Unit {0}) Refusal → List Test → Type 0
Agrees (Ok u) l = None l
Agrees (Err r) l = First l r.reason r.index

-- one test more in front of a chain; what comes after it may use that it failed
pub link : {b : Bool} {C : Type 0} (n : Reason) (i : ℕ) (rest : Result (Unit {0}) Reason) (l : List Test) → Says b C
    → ((C → ⊥) → Finds i rest l) → Finds i (if b then Err n else rest) (given C n i ∷ l)
unfolding Finds
link {b} {C} n i rest l s k = go b s
  where
    pass : (r : Result (Unit {0}) Reason) → (C → ⊥) → Finds i r l → Finds i r (given C n i ∷ l)
    pass (Ok u) f x = (f, x)
    pass (Err r) f x = inr (f, x)

    go : (b : Bool) → Says b C → Finds i (if b then Err n else rest) (given C n i ∷ l)
    go true s = inl (s.holds refl, refl, refl)
    go false s = pass rest (s.fails refl) (k (s.fails refl))

pub front : {b : Bool} {C : Type 0} (n : Reason) (i : ℕ) (rest : Result (Unit {0}) Refusal) (l : List Test) → Says b C
    → Agrees rest l → Agrees (if b then refused n i else rest) (given C n i ∷ l)
unfolding Agrees
front {b} {C} n i rest l s k = go b s rest k
  where
    go : (b : Bool) → Says b C → (r : Result (Unit {0}) Refusal) → Agrees r l
        → Agrees (if b then refused n i else r) (given C n i ∷ l)
    go true s r x = inl (s.holds refl, refl, refl)
    go false s (Ok u) x = (s.fails refl, x)
    go false s (Err r) x = inr (s.fails refl, x)

first-append : (l m : List Test) (n : Reason) (i : ℕ) → First l n i → First (l ++ m) n i
first-append [] m n i x = absurd x
first-append (c ∷ l) m n i (inl x) = inl x
first-append (c ∷ l) m n i (inr x) = inr (x.0, first-append l m n i x.1)

none-append : (l m : List Test) (r : Result (Unit {0}) Refusal) → None l → Agrees r m → Agrees r (l ++ m)
unfolding Agrees
none-append [] m r x y = y
none-append (c ∷ l) m r x y = go r (none-append l m r x.1 y)
  where
    go : (r : Result (Unit {0}) Refusal) → Agrees r (l ++ m) → Agrees r (c ∷ (l ++ m))
    go (Ok u) z = (x.0, z)
    go (Err e) z = inr (x.0, z)

pub append : (r s : Result (Unit {0}) Refusal) (l m : List Test) → Agrees r l → Agrees s m
    → Agrees (result_and r s) (l ++ m)
unfolding Agrees
append (Ok u) s l m x y = none-append l m s x y
append (Err e) s l m x y = first-append l m e.reason e.index x

-- a record's reason, and then the records after it
pub record-first : (v : Result (Unit {0}) Reason) (i : ℕ) (rest : Result (Unit {0}) Refusal) (l m : List Test)
    → Finds i v l → (v ≡ Ok tt → Agrees rest m) → Agrees (result_and (indexed i v) rest) (l ++ m)
unfolding Finds Agrees
record-first (Ok u) i rest l m x y = none-append l m rest x (y refl)
record-first (Err why) i rest l m x y = first-append l m why i x

pub first-agrees : {A : Type 0} (g : A → Result (Unit {0}) Reason) (d : A) (h : ℕ → List Test) (i : ℕ) (l : List A)
    → ((k : ℕ) → k < length l → Finds (i + k) (g (get_or l k d)) (h (i + k))) → Agrees (first_refused g i l) (each h i (length l))
unfolding first_refused Agrees
first-agrees g d h i [] q = tt
first-agrees g d h i (a ∷ l) q =
    record-first (g a) i _ (h i) (each h (suc i) (length l)) (subst (λ (j : ℕ). Finds j (g a) (h j)) (add-zero i) (q 0 (suc-le-suc zero-le)))
    (λ z. first-agrees g d h (suc i) l (λ k b. subst (λ (j : ℕ). Finds j (g (get_or l k d)) (h j)) (omega arith) (q (suc k) (suc-le-suc b))))

-- ---- answers
first_one : (l : List Test) (n : Reason) (i : ℕ) (m : Reason) (j : ℕ) → First l n i → First l m j → (n ≡ m) × (i ≡ j)
first_one [] n i m j x y = absurd x
first_one (c ∷ l) n i m j (inl x) (inl y) = (x.1 ∙ sym y.1, x.2 ∙ sym y.2)
first_one (c ∷ l) n i m j (inl x) (inr y) = absurd (y.0 x.0)
first_one (c ∷ l) n i m j (inr x) (inl y) = absurd (x.0 y.0)
first_one (c ∷ l) n i m j (inr x) (inr y) = first_one l n i m j x.1 y.1

none_first : (l : List Test) (n : Reason) (i : ℕ) → None l → First l n i → ⊥
none_first [] n i x y = y
none_first (c ∷ l) n i x (inl y) = x.0 y.0
none_first (c ∷ l) n i x (inr y) = none_first l n i x.1 y.1

refuses : (r : Result (Unit {0}) Refusal) (l : List Test) (T : ℕ) → Agrees r l → (n : Reason) (i : ℕ)
    → (result_and r (Ok T) ≡ refused n i) ↔ First l n i
unfolding Agrees
refuses (Ok u) l T a n i = (λ e. absurd (grind arith), λ x. absurd (none_first l n i a x))
refuses (Err r) l T a n i = (
  λ e. let p : r.reason ≡ n = grind arith in let q : r.index ≡ i = grind arith in rw p at (rw q at a),
  λ x. let o = first_one l r.reason r.index n i a x in λ j. refused (o.0 j) (o.1 j),
)

accepts : (r : Result (Unit {0}) Refusal) (l : List Test) (T : ℕ) → Agrees r l → (N : ℕ)
    → (result_and r (Ok T) ≡ Ok N) ↔ (None l × (N ≡ T))
unfolding Agrees
accepts (Ok u) l T a N = (λ e. (a, grind arith), λ x. ap Ok (sym x.1))
accepts (Err r) l T a N = (λ e. absurd (grind arith), λ x. absurd (none_first l r.reason r.index x.0 a))

-- an answer by such a refusal is right
pub right : (r : Result (Unit {0}) Refusal) (l : List Test) (T : ℕ) → Agrees r l → Rightly (result_and r (Ok T)) l T
right r l T a = record { refuses = refuses r l T a; accepts = accepts r l T a }
