-- A turn of a walk over a list or an object. Assumes nothing.
use Rattle.std.specs.Prelude.{Option, Some, None, option_map, option_and_then}
use mathlib.Core.Path.{◌≡◌, refl, ap, ◌∙◌}
use mathlib.Core.List.{List, [], ◌∷◌}
use Prim.Native.Nat.{ℕ, zero, suc, ◌-◌, ◌≤◌, ◌<◌}
use native.Mathlib.Omega.{arith}
use lib.ListN.{length}
use Rattle.json_values.specs.declared.Turn.{Turn}
use Rattle.json_values.specs.declared.Turn.TheVariants.{Done, Next, Bad}
use Rattle.json_tokens.specs.Text.{Got, end_of}
use Rattle.json_values.specs.Grammar.{value_at, named_at, after_at, rank}
use Rattle.json_values.proofs.Series.{Ends, Inside, after-falls}
use Rattle.json_values.proofs.Loops.{ends_at}
use Rattle.json_values.proofs.Values.{value-ends, named-ends}
use Rattle.json_walks.specs.declared.Member.{Member}
use Rattle.json_walks.specs.Walks.{listed_then, listed_from, listed, item_place, member_place, items_from_turn, members_from_turn}

listed-same : {A : Type 0} (len i : ℕ) (g : Got A) (f f' : ℕ → List A) → Ends len i g → ((e : ℕ) → i < e → e ≤ len → f e ≡ f' e) → listed_then g f ≡ listed_then g f'
unfolding Ends listed_then
listed-same len i None f f' x q = refl
listed-same len i (Some (a, e)) f f' x q = ap (λ l. a ∷ l) (q e x.0 x.1)

module _ {A : Type 0} (v : ℕ → Got A) (c : ℕ) (text : List ℕ) (inside : Inside (length text) v) where
  -- any count that is enough gives the same
  enough : (m n : ℕ) (t : Turn) → rank (length text) t ≤ m → rank (length text) t ≤ n → listed_from m v (after_at (suc c) text) t ≡ listed_from n v (after_at (suc c) text) t
  unfolding rank listed_from
  enough zero zero t p q = refl
  enough zero (suc n) Bad p q = refl
  enough zero (suc n) (Done k) p q = refl
  enough zero (suc n) (Next i) p q = absurd (omega arith)
  enough (suc m) zero Bad p q = refl
  enough (suc m) zero (Done k) p q = refl
  enough (suc m) zero (Next i) p q = absurd (omega arith)
  enough (suc m) (suc n) Bad p q = refl
  enough (suc m) (suc n) (Done k) p q = refl
  enough (suc m) (suc n) (Next i) p q =
      listed-same (length text) i (v i) (λ e. listed_from m v (after_at (suc c) text) (after_at (suc c) text e)) (λ e. listed_from n v (after_at (suc c) text) (after_at (suc c) text e)) (inside i)
      (λ e h _. enough m n (after_at (suc c) text e) (omega (arith, after-falls c text e)) (omega (arith, after-falls c text e)))

  pub unrolled : (i : ℕ) → listed v (suc c) text (Next i) ≡ listed_then (v i) (λ e. listed v (suc c) text (after_at (suc c) text e))
  unfolding rank listed_from listed
  unrolled i =
      listed-same (length text) i (v i) (λ e. listed_from (length text - i) v (after_at (suc c) text) (after_at (suc c) text e)) (λ e. listed v (suc c) text (after_at (suc c) text e)) (inside i)
      (λ e h _. enough (length text - i) (rank (length text) (after_at (suc c) text e)) (after_at (suc c) text e) (omega (arith, after-falls c text e)) (omega arith))

pub listed-done : {A : Type 0} (v : ℕ → Got A) (c : ℕ) (text : List ℕ) (k : ℕ) → listed v c text (Done k) ≡ []
unfolding listed listed_from rank
listed-done v c text k = refl

pub listed-bad : {A : Type 0} (v : ℕ → Got A) (c : ℕ) (text : List ℕ) → listed v c text Bad ≡ []
unfolding listed listed_from rank
listed-bad v c text = refl

ended : {B : Type 0} (len i : ℕ) (b : B) (g : Option ℕ) → ((e : ℕ) → Some e ≡ g → (i < e) × (e ≤ len)) → Ends len i (option_map (λ e. (b, e)) g)
unfolding Ends
ended len i b None h = tt
ended len i b (Some e) h = h e refl

pub items-inside : (left : ℕ) (text : List ℕ) → Inside (length text) (item_place left text)
unfolding item_place
items-inside left text i = ended (length text) i i (end_of (value_at left text i)) (λ e h. ends_at (length text) i e (value_at left text i) (value-ends text left i) h)

members-by : (left : ℕ) (text : List ℕ) (i : ℕ) (g : Option ℕ) → ((p : ℕ) → Some p ≡ g → i < p) → Ends {A = Member} (length text) i (option_and_then (λ p. option_map (λ e. (record { name = i; value = p }, e)) (end_of (value_at left text p))) g)
unfolding Ends
members-by left text i None h = tt
members-by left text i (Some p) h =
    ended (length text) i (record { name = i; value = p }) (end_of (value_at left text p))
    (λ e q. let b = ends_at (length text) p e (value_at left text p) (value-ends text left p) q in let a = h p refl in (omega (arith, a, b.0), b.1))

pub members-inside : (left : ℕ) (text : List ℕ) → Inside (length text) (member_place left text)
unfolding member_place
members-inside left text i =
    members-by left text i (end_of (named_at text i)) (λ p h. (ends_at (length text) i p (named_at text i) (named-ends text i) h).0)

module _ (left : ℕ) (text : List ℕ) (turn : Turn) where
  pub items-done : (k : ℕ) → turn ≡ Done k → items_from_turn left text turn ≡ []
  items-done k q = rw q (listed-done (item_place left text) 0x5d text k)

  pub items-bad : turn ≡ Bad → items_from_turn left text turn ≡ []
  items-bad q = rw q (listed-bad (item_place left text) 0x5d text)

  pub items-torn : (i : ℕ) → turn ≡ Next i → None ≡ end_of (value_at left text i) → items_from_turn left text turn ≡ []
  unfolding item_place listed_then
  items-torn i q h = rw q (unrolled (item_place left text) 0x5c text (items-inside left text) i ∙ rw (← h))

  pub items-more : (i e : ℕ) (n : Turn) → turn ≡ Next i → Some e ≡ end_of (value_at left text i) → n ≡ after_at 0x5d text e → items_from_turn left text turn ≡ i ∷ items_from_turn left text n
  unfolding item_place listed_then
  items-more i e n q h r = rw (q, r) (unrolled (item_place left text) 0x5c text (items-inside left text) i ∙ rw (← h))

  pub members-done : (k : ℕ) → turn ≡ Done k → members_from_turn left text turn ≡ []
  members-done k q = rw q (listed-done (member_place left text) 0x7d text k)

  pub members-bad : turn ≡ Bad → members_from_turn left text turn ≡ []
  members-bad q = rw q (listed-bad (member_place left text) 0x7d text)

  pub members-none : (i : ℕ) → turn ≡ Next i → None ≡ end_of (named_at text i) → members_from_turn left text turn ≡ []
  unfolding member_place listed_then
  members-none i q h = rw q (unrolled (member_place left text) 0x7c text (members-inside left text) i ∙ rw (← h))

  pub members-torn : (i p : ℕ) → turn ≡ Next i → Some p ≡ end_of (named_at text i) → None ≡ end_of (value_at left text p) → members_from_turn left text turn ≡ []
  unfolding member_place listed_then
  members-torn i p q g h = rw q (unrolled (member_place left text) 0x7c text (members-inside left text) i ∙ rw (← g, ← h))

  pub members-more : (i p e : ℕ) (n : Turn) → turn ≡ Next i → Some p ≡ end_of (named_at text i) → Some e ≡ end_of (value_at left text p) → n ≡ after_at 0x7d text e
      → members_from_turn left text turn ≡ record { name = i; value = p } ∷ members_from_turn left text n
  unfolding member_place listed_then
  members-more i p e n q g h r = rw (q, r) (unrolled (member_place left text) 0x7c text (members-inside left text) i ∙ rw (← g, ← h))

pub ruleset item_turns = (items-done, items-bad, items-torn, items-more)

pub ruleset member_turns = (members-done, members-bad, members-none, members-torn, members-more)
