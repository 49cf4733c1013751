-- What is seen of an object or a list, by what was read of it and what is left. Assumes nothing.
use Rattle.std.specs.Prelude.{Option, Some, None, nat_eq}
use mathlib.Core.Path.{◌≡◌, refl, sym, ap, ◌∙◌}
use mathlib.Core.Bool.{Bool, true, false, ◌||◌}
use mathlib.Core.List.{List, [], ◌∷◌, ◌++◌}
use Prim.Native.Nat.{ℕ}
use Rattle.std.specs.Cmp.Lexicographic.{pointwise}
use Rattle.std.specs.List.{list_any}
use Rattle.std.proofs.lemmas.List.{append_assoc, append-nil}
use Rattle.json_tokens.specs.Text.{Got, and_then, end_of}
use Rattle.json_tokens.specs.Strings.{cons}
use Rattle.json_values.specs.Grammar.{Json, Item, Member, values_of, members_of}
use Rattle.json_documents.specs.declared.seen.Document.{Document}
use Rattle.json_documents.specs.Names.{has, repeats, in_values, in_members}
use Rattle.json_documents.specs.Seen.{seen_of, seen_values, seen_members}
use Rattle.json_documents.proofs.Leaves.{no_some}
use Rattle.json_documents.proofs.Named.{some_twice}

-- ---- names that repeat, apart from values that do
unfoldable pub names_of : List Member → List (List ℕ)
names_of [] = []
names_of (m ∷ rest) = m.name ∷ names_of rest

unfoldable pub any_value : List Member → Bool
any_value [] = false
any_value (m ∷ rest) = repeats m.value || any_value rest

has-any : (n : List ℕ) (l : List Member) → has n (members_of l) ≡ list_any (pointwise nat_eq n) (names_of l)
unfolding has members_of names_of
has-any n [] = refl
has-any n (m ∷ l) = ap (λ x. pointwise nat_eq n m.name || x) (has-any n l)

or-swap : (a b c d : Bool) → (a || b) || (c || d) ≡ (b || c) || (a || d)
or-swap true true c d = refl
or-swap true false true d = refl
or-swap true false false d = refl
or-swap false true c d = refl
or-swap false false c d = refl

apart : (l : List Member) → in_members (members_of l) ≡ any_value l || some_twice (names_of l)
unfolding in_members members_of any_value names_of some_twice
apart [] = refl
apart (m ∷ l) =
    (λ i. (has-any m.name l i || repeats m.value) || apart l i)
    ∙ or-swap (list_any (pointwise nat_eq m.name) (names_of l)) (repeats m.value) (any_value l) (some_twice (names_of l))

-- ---- the members of an object, of which those with these names were read, and one of their values repeats a name or none does
unfoldable pub finish : List (List ℕ) → Bool → Got (List Member) → Option Document
finish names repeated None = None
finish names repeated (Some (l, e)) = Some (record { end = e; repeats = repeated || (any_value l || some_twice (names ++ names_of l)) })

pub finish-all : (g : Got (List Member)) → finish [] false g ≡ seen_members g
unfolding finish seen_members
finish-all None = refl
finish-all (Some (l, e)) = λ i. Some (record { end = e; repeats = sym (apart l) i })

pub finish-none : (ns : List (List ℕ)) (b : Bool) → finish ns b None ≡ None
unfolding finish
finish-none ns b = refl

or-on : (b r a t : Bool) → b || ((r || a) || t) ≡ (b || r) || (a || t)
or-on true r a t = refl
or-on false true a t = refl
or-on false false a t = refl

finish-cons : (ns : List (List ℕ)) (b : Bool) (m : Member) (g : Got (List Member))
    → finish ns b (cons m g) ≡ finish (ns ++ m.name ∷ []) (b || repeats m.value) g
unfolding finish cons any_value names_of
finish-cons ns b m None = refl
finish-cons ns b m (Some (l, e)) =
    let one : b || ((repeats m.value || any_value l) || some_twice (ns ++ m.name ∷ names_of l))
    ≡ (b || repeats m.value) || (any_value l || some_twice ((ns ++ m.name ∷ []) ++ names_of l))
    = or-on b (repeats m.value) (any_value l) (some_twice (ns ++ m.name ∷ names_of l))
    ∙ ap (λ k. (b || repeats m.value) || (any_value l || some_twice k)) (sym (append_assoc ns (m.name ∷ []) (names_of l))) in
    λ i. Some (record { end = e; repeats = one i })

module _ (ns : List (List ℕ)) (b : Bool) (d : Document) (rest : ℕ → Got (List Member)) where
  by-value : (n : List ℕ) (p : ℕ) (g : Got Json) → Some d ≡ seen_of g
      → finish ns b (and_then (and_then g (λ j e. Some (record { name = n; at = p; value = j }, e))) (λ m e. cons m (rest e)))
      ≡ finish (ns ++ n ∷ []) (b || d.repeats) (rest d.end)
  unfolding and_then seen_of
  by-value n p None h = no_some d (sym h)
  by-value n p (Some (j, e)) h =
      let z : record { end = e; repeats = repeats j } ≡ d = cc in
      finish-cons ns b (record { name = n; at = p; value = j }) (rest e) ∙ ap (λ (x : Document). finish (ns ++ n ∷ []) (b || x.repeats) (rest x.end)) z

  pub by-name : (v : ℕ → Got Json) (name : List ℕ) (p : ℕ) (g : Got (List ℕ)) → ((n : List ℕ) (k : ℕ) → g ≡ Some (n, k) → name ≡ n) → Some p ≡ end_of g
      → Some d ≡ seen_of (v p)
      → finish ns b (and_then (and_then g (λ n k. and_then (v k) (λ j e. Some (record { name = n; at = k; value = j }, e)))) (λ m e. cons m (rest e)))
      ≡ finish (ns ++ name ∷ []) (b || d.repeats) (rest d.end)
  unfolding and_then end_of
  by-name v name p None is h q = no_some p (sym h)
  by-name v name p (Some (n, k)) is h q =
      let z : p ≡ k = cc in
      by-value n k (v k) (q ∙ ap (λ m. seen_of (v m)) z) ∙ ap (λ m. finish (ns ++ m ∷ []) (b || d.repeats) (rest d.end)) (sym (is n k refl))

pub finish-end : (ns : List (List ℕ)) (b t : Bool) (k : ℕ) → t ≡ some_twice ns → Some (record { end = k; repeats = b || t }) ≡ finish ns b (Some ([], k))
unfolding finish any_value names_of
finish-end ns b t k h = λ i. Some (record { end = k; repeats = b || (h ∙ ap some_twice (sym (append-nil ns))) i })

-- ---- the items of a list, of which some were read, and one of those repeats a name or none does
unfoldable pub also : Bool → Got (List Item) → Option Document
also repeated None = None
also repeated (Some (l, e)) = Some (record { end = e; repeats = repeated || in_values (values_of l) })

pub also-all : (g : Got (List Item)) → also false g ≡ seen_values g
unfolding also seen_values
also-all None = refl
also-all (Some (l, e)) = refl

pub also-none : (b : Bool) → also b None ≡ None
unfolding also
also-none b = refl

or-nil : (b : Bool) → b ≡ b || false
or-nil true = refl
or-nil false = refl

pub also-end : (b : Bool) (k : ℕ) → Some (record { end = k; repeats = b }) ≡ also b (Some ([], k))
unfolding also in_values values_of
also-end b k = λ i. Some (record { end = k; repeats = or-nil b i })

or-assoc : (b r a : Bool) → b || (r || a) ≡ (b || r) || a
or-assoc true r a = refl
or-assoc false r a = refl

also-cons : (b : Bool) (m : Item) (g : Got (List Item)) → also b (cons m g) ≡ also (b || repeats m.value) g
unfolding also cons in_values values_of
also-cons b m None = refl
also-cons b m (Some (l, e)) = λ i. Some (record { end = e; repeats = or-assoc b (repeats m.value) (in_values (values_of l)) i })

pub by-item : (b : Bool) (d : Document) (rest : ℕ → Got (List Item)) (i : ℕ) (g : Got Json) → Some d ≡ seen_of g
    → also b (and_then (and_then g (λ j e. Some (record { at = i; value = j }, e))) (λ m e. cons m (rest e))) ≡ also (b || d.repeats) (rest d.end)
unfolding and_then seen_of
by-item b d rest i None h = no_some d (sym h)
by-item b d rest i (Some (j, e)) h =
    let z : record { end = e; repeats = repeats j } ≡ d = cc in
    also-cons b (record { at = i; value = j }) (rest e) ∙ ap (λ (x : Document). also (b || x.repeats) (rest x.end)) z
