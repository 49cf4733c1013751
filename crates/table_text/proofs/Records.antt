-- What loops lay over lent slices, record by record: each law is of one more record, or of none left. Assumes nothing.
use mathlib.Core.Path.{◌≡◌, refl, sym, ap, ◌∙◌}
use mathlib.Core.List.{List, [], ◌∷◌, ◌++◌, map}
use Prim.Native.Nat.{ℕ, suc, ◌+◌, ◌-◌, ◌*◌, ◌≤◌, ◌<◌}
use native.Mathlib.Omega.{arith}
use native.Mathlib.Nat.{add-zero}
use lib.ListN.{length, take, drop, length-append}
use Rattle.std.specs.Prelude.{Option, Some, None}
use Rattle.std.proofs.lemmas.List.{take-append-drop}
use Rattle.slices.specs.Slices.{laid}
use Rattle.rules.specs.declared.Source.{Source}
use Rattle.rules.specs.declared.Segment.{Segment}
use Rattle.json_tokens.specs.Text.{most_text, end_of}
use Rattle.json_tokens.specs.Strings.{string_at}
use Rattle.json_values.proofs.Loops.{ends_at}
use Rattle.json_values.proofs.Values.{string-ends}
use Rattle.json_strings.proofs.Sizes.{bytes_bounded}
use Rattle.json_strings.proofs.Lay.{lay-more, lay-end}
use Rattle.table_text.specs.Lists.{date_in, created_bytes, original_in}
use Rattle.table_text.specs.Tables.{source_in, sources_in, dates_in, names_in, span_of, span_at, source_list, words_list, stamps_list, all_sources, all_words, all_stamps}

-- nothing written leaves all as it was
pub nothing_written : {A : Type 0} (out : List A) (n : ℕ) → out ≡ take n out ++ drop (n + 0) out
nothing_written out n = sym (ap (λ k. take n out ++ drop k out) (add-zero n) ∙ take-append-drop n out)

-- a record laid after those before it, and no record left
pub lay-on : {A : Type 0} (out part first ws words : List A) (n : ℕ) {whole now : List A} → words ≡ first ++ ws → part ≡ first → n + length part ≤ length out
    → now ≡ take n out ++ (part ++ drop (n + length part) out)
    → take n out ++ laid words (drop n out) ≡ whole
    → take (n + length part) now ++ laid ws (drop (n + length part) now) ≡ whole
lay-on out part first ws words n more is room written inv =
    lay-more out part ws n room written (ap (λ l. take n out ++ laid l (drop n out)) (sym (more ∙ ap (λ p. p ++ ws) (sym is))) ∙ inv)

pub lay-last : {A : Type 0} (out words : List A) (n : ℕ) {whole : List A} → words ≡ [] → n ≤ length out → take n out ++ laid words (drop n out) ≡ whole
    → out ≡ whole
lay-last out words n {whole} none room inv = lay-end out whole n room (ap (λ l. take n out ++ laid l (drop n out)) (sym none) ∙ inv)

module _ {l rest : List ℕ} {at : ℕ} (q : l ≡ at ∷ rest) where
  pub left-more : length l ≡ suc (length rest)
  left-more = ap length q

  pub sources-more : (text : List ℕ) (from : ℕ) → all_sources (sources_in text from l) ≡ source_list (source_in text from at) ++ all_sources
      (sources_in text (from + length (date_in text at)) rest)
  unfolding sources_in all_sources
  sources-more text from = ap (λ m. all_sources (sources_in text from m)) q

  pub dates-more : (text : List ℕ) → dates_in text l ≡ date_in text at ++ dates_in text rest
  unfolding dates_in
  dates-more text = ap (dates_in text) q

  pub names-more : (text : List ℕ) → names_in text l ≡ span_at text (original_in text at).name ++ names_in text rest
  unfolding names_in
  names-more text = ap (names_in text) q

  pub dates-size-more : (text : List ℕ) → length (dates_in text l) ≡ length (date_in text at) + length (dates_in text rest)
  dates-size-more text = ap length (dates-more text) ∙ length-append (date_in text at) (dates_in text rest)

  pub words-more : (f : ℕ → Segment) → all_words (map f l) ≡ words_list (f at).words ++ all_words (map f rest)
  unfolding all_words
  words-more f = ap (λ m. all_words (map f m)) q

  pub stamps-more : (f : ℕ → Segment) → all_stamps (map f l) ≡ stamps_list (f at).stamps ++ all_stamps (map f rest)
  unfolding all_stamps
  stamps-more f = ap (λ m. all_stamps (map f m)) q

  pub staged-more : (f : ℕ → Source) → all_sources (map f l) ≡ source_list (f at) ++ all_sources (map f rest)
  unfolding all_sources
  staged-more f = ap (λ m. all_sources (map f m)) q

module _ {l : List ℕ} (q : l ≡ []) where
  pub left-none : length l ≡ 0
  left-none = ap length q

  pub sources-none : (text : List ℕ) (from : ℕ) → all_sources (sources_in text from l) ≡ []
  unfolding sources_in all_sources
  sources-none text from = ap (λ m. all_sources (sources_in text from m)) q

  pub dates-none : (text : List ℕ) → dates_in text l ≡ []
  unfolding dates_in
  dates-none text = ap (dates_in text) q

  pub names-none : (text : List ℕ) → names_in text l ≡ []
  unfolding names_in
  names-none text = ap (names_in text) q

  pub dates-size-none : (text : List ℕ) → length (dates_in text l) ≡ 0
  dates-size-none text = ap length (dates-none text)

  pub words-none : (f : ℕ → Segment) → all_words (map f l) ≡ []
  unfolding all_words
  words-none f = ap (λ m. all_words (map f m)) q

  pub stamps-none : (f : ℕ → Segment) → all_stamps (map f l) ≡ []
  unfolding all_stamps
  stamps-none f = ap (λ m. all_stamps (map f m)) q

  pub staged-none : (f : ℕ → Source) → all_sources (map f l) ≡ []
  unfolding all_sources
  staged-none f = ap (λ m. all_sources (map f m)) q

created-bounded : (text : List ℕ) (created : Option ℕ) → length (created_bytes text created) ≤ 4 * length text
unfolding created_bytes
created-bounded text None = omega arith
created-bounded text (Some at) = bytes_bounded text (at + 1)

pub dates_bounded : (text : List ℕ) (l : List ℕ) → length text ≤ most_text → length (dates_in text l) ≤ 4194304 * length l
unfolding dates_in
dates_bounded text [] h = omega arith
dates_bounded text (at ∷ l) h =
    omega (arith, dates_bounded text l h, created-bounded text (original_in text at).created, length-append (date_in text at) (dates_in text l))

-- where a string ends
pub string_lies : (text : List ℕ) (at e : ℕ) → Some e ≡ end_of (string_at text at) → (at < e) × (e ≤ length text)
string_lies text at e h = ends_at (length text) at e (string_at text at) (string-ends text at) h

pub span-size : (at : ℕ) (x : Option ℕ) → length (span_of at x) ≡ 2
unfolding span_of
span-size at None = refl
span-size at (Some e) = refl

pub span-some : (at e n : ℕ) (x : Option ℕ) → Some e ≡ x → n ≡ e - (at + 2) → (at + 1) ∷ n ∷ [] ≡ span_of at x
unfolding span_of
span-some at e n x h m = rw (← h, m)

pub span-none : (at : ℕ) (x : Option ℕ) → None ≡ x → ◌≡◌ {A = List ℕ} (0 ∷ 0 ∷ []) (span_of at x)
unfolding span_of
span-none at x h = rw (← h)
