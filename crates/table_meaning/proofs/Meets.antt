-- What stands at an offset whose value was read, by what the value is. Assumes nothing.
use Rattle.std.specs.Prelude.{Some, None, if◌then◌else◌}
use mathlib.Core.Path.{◌≡◌, refl, sym, ap, subst, ◌∙◌}
use mathlib.Core.Bool.{Bool, true, false, ◌&&◌, true≢false}
use mathlib.Core.Logic.{◌⊎◌, inl, inr, ⊎_elim}
use mathlib.Core.List.{List}
use Prim.Native.Nat.{ℕ, zero, suc, ◌+◌}
use native.Mathlib.Omega.{arith}
use lib.ListN.{length}
use lib.Dec.{eqb}
use borrow.Author.Tests.{eqb-true, eq-eqb, ne_eqb}
use Rattle.conditions.proofs.Tests.{decide, le-or-lt}
use Rattle.json_tokens.specs.Text.{byte_at, digits, is_digit, Got, and_then}
use Rattle.json_tokens.specs.Strings.{string_at}
use Rattle.json_tokens.specs.Numbers.{Figure, some, int_end, number_at}
use Rattle.json_tokens.proofs.Texts.{past_stop, past_out}
use Rattle.json_values.specs.Grammar.{Json, null, bool, number, string, list, object, Values, Members, Item, Member, values_of, members_of, value_at}
use Rattle.json_values.specs.Grammar.{values_at, members_at, plain_by, plain_at, true_at, false_at, null_at, three_at}

-- nothing that begins with neither a digit nor a minus is a number
module _ (text : List ℕ) (p : ℕ) (d : is_digit (byte_at text p) ≡ false) (m : byte_at text p ≡ 0x2d → ⊥) where
  no-digits : digits text p ≡ p
  no-digits = ⊎_elim (λ h. past_out is_digit text p h) (λ h. past_stop is_digit text p h d) (le-or-lt (length text) p)

  no-zero : (b : ℕ) → is_digit b ≡ false → eqb b 0x30 ≡ false
  no-zero b e = decide (eqb b 0x30) (λ t. let z = eqb-true b 0x30 t in absurd (true≢false (ap is_digit (sym z) ∙ e))) (λ f. f)

  pub not-number : number_at text p ≡ None
  unfolding number_at int_end some
  not-number = rw (ne_eqb (byte_at text p) 0x2d m, no-zero (byte_at text p) d, no-digits, eq-eqb p p refl)

pub not-number-at : (text : List ℕ) (p b : ℕ) → byte_at text p ≡ b → is_digit b ≡ false → (b ≡ 0x2d → ⊥) → number_at text p ≡ None
not-number-at text p b q d m = not-number text p (ap is_digit q ∙ d) (λ z. m (sym q ∙ z))

-- a list and an object, by their items
pub record ListAt (left : ℕ) (text : List ℕ) (p e : ℕ) (vs : Values) : Type 0 where
  pub opens : byte_at text p ≡ 0x5b
  pub of : List Item
  pub is : vs ≡ values_of of
  pub read : values_at left text (p + 1) ≡ Some (of, e)

pub record ObjectAt (left : ℕ) (text : List ℕ) (p e : ℕ) (ms : Members) : Type 0 where
  pub opens : byte_at text p ≡ 0x7b
  pub of : List Member
  pub is : ms ≡ members_of of
  pub read : members_at left text (p + 1) ≡ Some (of, e)

pub record StringAt (text : List ℕ) (p e : ℕ) (s : List ℕ) : Type 0 where
  pub opens : byte_at text p ≡ 0x22
  pub read : string_at text p ≡ Some (s, e)

unfoldable pub Meets : ℕ → List ℕ → ℕ → ℕ → Json → Type 0
Meets left text p e null = byte_at text p ≡ 0x6e
Meets left text p e (bool b) = (byte_at text p ≡ 0x74) ⊎ (byte_at text p ≡ 0x66)
Meets left text p e (number f) = number_at text p ≡ Some (f, e)
Meets left text p e (string s) = StringAt text p e s
Meets zero text p e (list vs) = ⊥
Meets (suc left) text p e (list vs) = ListAt left text p e vs
Meets zero text p e (object ms) = ⊥
Meets (suc left) text p e (object ms) = ObjectAt left text p e ms

-- every reading that gives a value meets it
abbrev All : ℕ → List ℕ → ℕ → Got Json → Type 0
All left text p g = (j : Json) (e : ℕ) → g ≡ Some (j, e) → Meets left text p e j

module _ (left : ℕ) (text : List ℕ) (p : ℕ) where
  all-none : All left text p None
  all-none j e q = let z : ◌≡◌ {A = ℕ} 0 1 = cc in absurd (omega arith)

  all-some : (k : Json) (f : ℕ) → Meets left text p f k → All left text p (Some (k, f))
  all-some k f m j e q =
      let a : k ≡ j = ap (λ (g : Got Json). first g) q in
      let b : f ≡ e = ap (λ (g : Got Json). second g) q in
      subst (λ (x : Json). Meets left text p e x) a (subst (λ (x : ℕ). Meets left text p x k) b m)
    where
      first : Got Json → Json
      first None = null
      first (Some (x, y)) = x

      second : Got Json → ℕ
      second None = 0
      second (Some (x, y)) = y

  all-if : (b : Bool) (x y : Got Json) → (b ≡ true → All left text p x) → (b ≡ false → All left text p y) → All left text p (if b then x else y)
  all-if true x y f g = f refl
  all-if false x y f g = g refl

  all-string : byte_at text p ≡ 0x22 → (g : Got (List ℕ)) → string_at text p ≡ g → All left text p (and_then g (λ s e. Some (string s, e)))
  unfolding and_then Meets
  all-string b None q = all-none
  all-string b (Some (s, e)) q = all-some (string s) e (record { opens = b; read = q })

  all-number : (g : Got Figure) → number_at text p ≡ g → All left text p (and_then g (λ n e. Some (number n, e)))
  unfolding and_then Meets
  all-number None q = all-none
  all-number (Some (f, e)) q = all-some (number f) e q

  pub plain-meets : All left text p (plain_at text p)
  unfolding plain_by true_at false_at null_at Meets
  plain-meets =
      let b = byte_at text p in
      all-if (eqb b 0x22) _ _ (λ t. all-string (eqb-true b 0x22 t) (string_at text p) refl)
      (λ _. all-if (eqb b 0x74) _ _
      (λ t. all-if (three_at text (p + 1) 0x72 0x75 0x65) _ _ (λ _. all-some (bool true) (p + 4) (inl (eqb-true b 0x74 t))) (λ _. all-none))
      (λ _. all-if (eqb b 0x66) _ _
      (λ t. all-if (three_at text (p + 1) 0x61 0x6c 0x73 && eqb (byte_at text (p + 4)) 0x65) _ _
      (λ _. all-some (bool false) (p + 5) (inr (eqb-true b 0x66 t))) (λ _. all-none))
      (λ _. all-if (eqb b 0x6e) _ _ (λ t. all-if (three_at text (p + 1) 0x75 0x6c 0x6c) _ _ (λ _. all-some null (p + 4) (eqb-true b 0x6e t)) (λ _. all-none))
      (λ _. all-number (number_at text p) refl))))

module _ (left : ℕ) (text : List ℕ) (p : ℕ) where
  all-list : byte_at text p ≡ 0x5b → (g : Got (List Item)) → values_at left text (p + 1) ≡ g
      → All (suc left) text p (and_then g (λ l e. Some (list (values_of l), e)))
  unfolding and_then Meets
  all-list b None q = all-none (suc left) text p
  all-list b (Some (l, e)) q = all-some (suc left) text p (list (values_of l)) e (record { opens = b; of = l; is = refl; read = q })

  all-object : byte_at text p ≡ 0x7b → (g : Got (List Member)) → members_at left text (p + 1) ≡ g
      → All (suc left) text p (and_then g (λ l e. Some (object (members_of l), e)))
  unfolding and_then Meets
  all-object b None q = all-none (suc left) text p
  all-object b (Some (l, e)) q = all-some (suc left) text p (object (members_of l)) e (record { opens = b; of = l; is = refl; read = q })

pub value-meets : (left : ℕ) (text : List ℕ) (p : ℕ) → All left text p (value_at left text p)
unfolding value_at
value-meets zero text p = plain-meets zero text p
value-meets (suc left) text p =
    let b = byte_at text p in
    all-if (suc left) text p (eqb b 0x5b) _ _ (λ t. all-list left text p (eqb-true b 0x5b t) (values_at left text (p + 1)) refl)
    (λ _. all-if (suc left) text p (eqb b 0x7b) _ _ (λ t. all-object left text p (eqb-true b 0x7b t) (members_at left text (p + 1)) refl)
    (λ _. plain-meets (suc left) text p))

-- a value was read at an offset
pub record Stands (left : ℕ) (text : List ℕ) (p : ℕ) (j : Json) : Type 0 where
  pub end : ℕ
  pub read : value_at left text p ≡ Some (j, end)

pub meets : (left : ℕ) (text : List ℕ) (p : ℕ) (j : Json) (s : Stands left text p j) → Meets left text p s.end j
meets left text p j s = value-meets left text p j s.end s.read
