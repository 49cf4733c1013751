-- Worked examples: what a definition computes, beside what it is by the rules.
use Rattle.std.specs.Prelude.{◌≡◌, List, map}

pub record Worked (A : Type 0) : Type 0 where
  pub got : A
  pub want : A

abbrev pub is : {A : Type 0} → A → A → Worked A
is computed right = record { got = computed; want = right }

-- each is what it should be
abbrev pub AllRight : {A : Type 0} → List (Worked A) → Type 0
AllRight {A} examples = map (λ (one : Worked A). one.got) examples ≡ map (λ (one : Worked A). one.want) examples
