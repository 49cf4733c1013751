-- What a loop over items meets: the items from a turn on, with no count; where each reading ends. Assumes nothing.
use Rattle.std.specs.Prelude.{Option, Some, None}
use mathlib.Core.Path.{◌≡◌, refl, sym, ap, ◌∙◌}
use mathlib.Core.Bool.{true}
use mathlib.Core.List.{List}
use Prim.Native.Nat.{ℕ, zero, suc, ◌+◌, ◌-◌, ◌≤◌, ◌<◌}
use native.Mathlib.Omega.{arith}
use lib.ListN.{length}
use lib.Dec.{eqb}
use borrow.Author.Tests.{eqb-true}
use Rattle.conditions.proofs.Tests.{either}
use Rattle.json_values.specs.declared.Turn.{Turn}
use Rattle.json_values.specs.declared.Turn.TheVariants.{Done, Next, Bad}
use Rattle.json_tokens.specs.Text.{Got, end_of, and_then, byte_at, blanks, is_blank}
use Rattle.json_tokens.specs.Strings.{cons}
use Rattle.json_values.specs.Grammar.{turned, items_from, rank, items, after_at}
use Rattle.json_tokens.proofs.Texts.{lies, past_from}

-- a reading from i on ends after i and within the text
unfoldable pub Ends : {A : Type 0} → ℕ → ℕ → Got A → Type 0
Ends len i None = Unit
Ends len i (Some (a, e)) = (i < e) × (e ≤ len)

-- every item does
abbrev pub Inside : {A : Type 0} → ℕ → (ℕ → Got A) → Type 0
Inside len v = (i : ℕ) → Ends len i (v i)

-- a turn from i on leads on after i and within the text
unfoldable pub Leads : ℕ → ℕ → Turn → Type 0
Leads len i Bad = Unit
Leads len i (Done k) = (i < k) × (k ≤ len)
Leads len i (Next k) = i < k

pub a_byte : (text : List ℕ) (i b : ℕ) → eqb (byte_at text i) (suc b) ≡ true → i < length text
a_byte text i b e = let h = eqb-true (byte_at text i) (suc b) e in lies text i (λ z. let q : 0 ≡ suc b = sym z ∙ h in absurd (omega arith))

pub after-leads : (c : ℕ) (text : List ℕ) (i : ℕ) → Leads (length text) i (after_at (suc c) text i)
unfolding Leads after_at
after-leads c text i =
    let a = past_from is_blank text i in
    either (Leads (length text) i) (eqb (byte_at text (blanks text i)) (suc c))
    (λ e. let h = a_byte text (blanks text i) c e in (omega arith, omega arith))
    (λ _. either (Leads (length text) i) (eqb (byte_at text (blanks text i)) 0x2c)
    (λ e. let b = past_from is_blank text (blanks text i + 1) in omega arith)
    (λ _. tt))

-- a comma or a closing bracket uses up a byte
pub after-falls : (c : ℕ) (text : List ℕ) (i : ℕ) → rank (length text) (after_at (suc c) text i) ≤ length text - i
unfolding rank after_at
after-falls c text i =
    let a = past_from is_blank text i in
    either (λ t. rank (length text) t ≤ length text - i) (eqb (byte_at text (blanks text i)) (suc c))
    (λ e. omega arith)
    (λ _. either (λ t. rank (length text) t ≤ length text - i) (eqb (byte_at text (blanks text i)) 0x2c)
    (λ e. let b = past_from is_blank text (blanks text i + 1) in let h = a_byte text (blanks text i) 0x2b e in omega arith)
    (λ _. omega arith))

pub ends-weaken : {A : Type 0} (len i j : ℕ) (g : Got A) → i ≤ j → Ends len j g → Ends len i g
unfolding Ends
ends-weaken len i j None h x = tt
ends-weaken len i j (Some (a, e)) h x = (omega arith, x.1)

pub ends-then : {A B : Type 0} (len i j : ℕ) (g : Got A) (f : A → ℕ → Got B) → Ends len j g → ((a : A) (e : ℕ) → j < e → e ≤ len → Ends len i (f a e))
    → Ends len i (and_then g f)
unfolding Ends and_then
ends-then len i j None f x k = tt
ends-then len i j (Some (a, e)) f x k = k a e x.0 x.1

pub ends-cons : {A : Type 0} (len i : ℕ) (a : A) (g : Got (List A)) → Ends len i g → Ends len i (cons a g)
unfolding Ends cons
ends-cons len i a None x = tt
ends-cons len i a (Some (l, e)) x = x

then_same : {A B : Type 0} (len i : ℕ) (g : Got A) (f f' : A → ℕ → Got B) → Ends len i g → ((a : A) (e : ℕ) → i < e → e ≤ len → f a e ≡ f' a e)
    → and_then g f ≡ and_then g f'
unfolding Ends and_then
then_same len i None f f' x q = refl
then_same len i (Some (a, e)) f f' x q = q a e x.0 x.1

-- where two things end, one after the other
pub then-end : {A B : Type 0} (g : Got A) (f : A → ℕ → Got B) (x : Option ℕ) (e : ℕ) → Some e ≡ end_of g → ((a : A) → end_of (f a e) ≡ x)
    → end_of (and_then g f) ≡ x
unfolding and_then end_of
then-end None f x e h q = let z : ◌≡◌ {A = ℕ} 0 1 = cc in absurd (omega arith)
then-end (Some (a, k)) f x e h q = let z : k ≡ e = cc in ap (λ (m : ℕ). end_of (f a m)) z ∙ q a

pub then-torn : {A B : Type 0} (g : Got A) (f : A → ℕ → Got B) → None ≡ end_of g → end_of (and_then g f) ≡ None
unfolding and_then end_of
then-torn None f h = refl
then-torn (Some (a, k)) f h = let x : ◌≡◌ {A = ℕ} 0 1 = cc in absurd (omega arith)

end-cons : {A : Type 0} (a : A) (g : Got (List A)) → end_of (cons a g) ≡ end_of g
unfolding cons end_of
end-cons a None = refl
end-cons a (Some (l, e)) = refl

module _ {A : Type 0} (v : ℕ → Got A) (c : ℕ) (text : List ℕ) (inside : Inside (length text) v) where
  pub items-end : (n i : ℕ) (t : Turn) → Leads (length text) i t → Ends (length text) i (items_from n v (after_at (suc c) text) t)
  unfolding Leads Ends items_from turned
  items-end zero i Bad l = tt
  items-end zero i (Done k) l = l
  items-end zero i (Next k) l = tt
  items-end (suc n) i Bad l = tt
  items-end (suc n) i (Done k) l = l
  items-end (suc n) i (Next k) l =
      ends-then (length text) i k (v k) (λ a e. cons a (items_from n v (after_at (suc c) text) (after_at (suc c) text e))) (inside k)
      (λ a e h _. ends-cons (length text) i a (items_from n v (after_at (suc c) text) (after_at (suc c) text e))
      (ends-weaken (length text) i e (items_from n v (after_at (suc c) text) (after_at (suc c) text e)) (omega arith)
      (items-end n e (after_at (suc c) text e) (after-leads c text e))))

  -- any count that is enough gives the same items
  enough : (m n : ℕ) (t : Turn) → rank (length text) t ≤ m → rank (length text) t ≤ n
      → items_from m v (after_at (suc c) text) t ≡ items_from n v (after_at (suc c) text) t
  unfolding rank items_from turned
  enough zero zero t p q = refl
  enough zero (suc n) Bad p q = refl
  enough zero (suc n) (Done k) p q = refl
  enough zero (suc n) (Next i) p q = absurd (omega arith)
  enough (suc m) zero Bad p q = refl
  enough (suc m) zero (Done k) p q = refl
  enough (suc m) zero (Next i) p q = absurd (omega arith)
  enough (suc m) (suc n) Bad p q = refl
  enough (suc m) (suc n) (Done k) p q = refl
  enough (suc m) (suc n) (Next i) p q =
      then_same (length text) i (v i) (λ a e. cons a (items_from m v (after_at (suc c) text) (after_at (suc c) text e)))
      (λ a e. cons a (items_from n v (after_at (suc c) text) (after_at (suc c) text e))) (inside i)
      (λ a e h _. ap (cons a) (enough m n (after_at (suc c) text e) (omega (arith, after-falls c text e)) (omega (arith, after-falls c text e))))

  -- the items from a turn on, with no count
  pub unrolled : (i : ℕ) → items v (suc c) text (Next i) ≡ and_then (v i) (λ a e. cons a (items v (suc c) text (after_at (suc c) text e)))
  unfolding rank items_from turned items
  unrolled i =
      then_same (length text) i (v i) (λ a e. cons a (items_from (length text - i) v (after_at (suc c) text) (after_at (suc c) text e)))
      (λ a e. cons a (items v (suc c) text (after_at (suc c) text e))) (inside i)
      (λ a e h _. ap (cons a) (enough (length text - i) (rank (length text) (after_at (suc c) text e)) (after_at (suc c) text e)
      (omega (arith, after-falls c text e)) (omega arith)))

  -- an item that ends at e; one that isn't there
  pub item_on : (i e : ℕ) → Some e ≡ end_of (v i) → end_of (items v (suc c) text (Next i)) ≡ end_of (items v (suc c) text (after_at (suc c) text e))
  item_on i e h =
      ap end_of (unrolled i)
      ∙ then-end (v i) (λ a e. cons a (items v (suc c) text (after_at (suc c) text e))) (end_of (items v (suc c) text (after_at (suc c) text e))) e h
      (λ a. end-cons a (items v (suc c) text (after_at (suc c) text e)))

  pub item-torn : (i : ℕ) → None ≡ end_of (v i) → end_of (items v (suc c) text (Next i)) ≡ None
  item-torn i h = ap end_of (unrolled i) ∙ then-torn (v i) (λ a e. cons a (items v (suc c) text (after_at (suc c) text e))) h

  pub items-done : (k : ℕ) → end_of (items v (suc c) text (Done k)) ≡ Some k
  unfolding items rank items_from turned end_of
  items-done k = refl

  pub items-bad : end_of (items v (suc c) text Bad) ≡ None
  unfolding items rank items_from turned end_of
  items-bad = refl
