-- What the lookups of a list answer, and that each index is the single lookup's. Assumes nothing.
use Prim.Native.Nat.{ℕ, ◌+◌, ◌≤◌, ◌<◌}
use Rattle.std.proofs.lemmas.List.{get_or-map}
use native.Mathlib.Omega.{arith}
use mathlib.Core.Path.{◌≡◌, sym, ap, ◌∙◌}
use mathlib.Core.Bool.{Bool}
use mathlib.Core.List.{List, map}
use lib.ListN.{length, get_or, drop, length-map, length-append, length-drop, get_or-append}
use lib.Seq.{drop_at}
use lib.Dec.{ltb}
use borrow.Author.Tests.{lt-ltb, le-ltb, ltb-false}
use Rattle.std.specs.Prelude.{Result, Ok, Err, if◌then◌else◌}
use Rattle.refusal.specs.declared.Refusal.{Refusal}
use Rattle.refusal.specs.declared.Reason.TheVariants as reason
use Rattle.refusal.specs.Refusals.{refused}
use Rattle.refusal.proofs.Chains.{if-ok, and-ok, ok-of, err-of}
use Rattle.slices.specs.Slices.{laid, after}
use Rattle.rules.specs.Records.{Table}
use Rattle.rules.specs.Rules.{refusal, check_of}
use Rattle.rules.specs.Lookups.{segment_of_frame}
use Rattle.rules.proofs.Answers.{check-first, then-rest}
use Rattle.lookups.specs.Pieces.{index_in}
use Rattle.lookups.specs.Indices.{indices_of, indices_refusal, Indexing}

-- ---- the refusal
module _ (t : Table) (frames out : List ℕ) where
  refused-first : {why : Refusal} → check_of t ≡ Err why → indices_refusal t (length frames) (length out) ≡ Err why
  unfolding indices_refusal
  refused-first e = check-first _ _ e

  then-room : {N : ℕ} {b : Bool} → check_of t ≡ Ok N → ltb (length out) (length frames) ≡ b
      → indices_refusal t (length frames) (length out) ≡ (if b then refused reason.NoRoom 0 else Ok tt)
  unfolding indices_refusal
  then-room e h = then-rest _ _ e ∙ rw h

-- ---- the call
module _ (t : Table) (frames out : List ℕ) where
  pub list-refused : {why : Refusal} → check_of t ≡ Err why → Indexing t frames out (Err why) out
  list-refused e = let q = refused-first t frames out e in record { answer = rw q; indices = rw q }

  module _ {N : ℕ} (e : check_of t ≡ Ok N) where
    pub list-short : length out < length frames → Indexing t frames out (refused reason.NoRoom 0) out
    list-short h = let q = then-room t frames out e (lt-ltb _ _ h) in record { answer = rw q; indices = rw q }

    pub list_written : {out' : List ℕ} → length frames ≤ length out → out' ≡ laid (map (index_in t) frames) out
        → Indexing t frames out (Ok (length frames)) out'
    unfolding indices_of
    list_written {out'} h w = let q = then-room t frames out e (le-ltb _ _ h) in record { answer = rw q; indices = rw q w }

-- ---- what the promise says, of any table
module _ (t : Table) (frames out : List ℕ) where
  -- the one answer that a refusal leaves
  module _ {r : Result ℕ Refusal} {out' : List ℕ} (p : Indexing t frames out r out') where
    pub answer-refused : {why : Refusal} → check_of t ≡ Err why → r ≡ Err why
    answer-refused e = p.answer ∙ rw (refused-first t frames out e)

    pub answer-short : {N : ℕ} → check_of t ≡ Ok N → length out < length frames → r ≡ refused reason.NoRoom 0
    answer-short e h = p.answer ∙ rw (then-room t frames out e (lt-ltb _ _ h))

    pub answer-all : {N : ℕ} → check_of t ≡ Ok N → length frames ≤ length out → r ≡ Ok (length frames)
    answer-all e h = p.answer ∙ rw (then-room t frames out e (le-ltb _ _ h))

  -- what was written
  module _ {n : ℕ} {out' : List ℕ} (p : Indexing t frames out (Ok n) out') where
    none : indices_refusal t (length frames) (length out) ≡ Ok tt
    none = (ok-of _ _ _ (sym p.answer)).0

    over : out' ≡ laid (indices_of t frames) out
    over = p.indices ∙ ap (λ (x : Result (Unit {0}) Refusal). after x (indices_of t frames) out) none

    many : length (indices_of t frames) ≡ length frames
    unfolding indices_of
    many = length-map frames _

    pub rest-kept : drop (length frames) out' ≡ drop (length frames) out
    rest-kept = ap (drop (length frames)) over ∙ drop_at (indices_of t frames) _ (length frames) many ∙ ap (λ (k : ℕ). drop k out) many

    accepted : (refusal t ≡ Ok tt) × (length frames ≤ length out)
    unfolding indices_refusal
    accepted = let a = and-ok _ _ _ none in (a.0, ltb-false _ _ (if-ok _ _ _ _ a.1).0)

    long-written : length out' ≡ length out
    long-written =
        let i = indices_of t frames in
        ap length over ∙ length-append i (drop (length i) out) ∙ ap (λ (n : ℕ). length i + n) (length-drop (length i) out) ∙ omega (arith, many, accepted.1)

    -- each index is the single lookup's
    pub each_index : (k : ℕ) → k < length frames → Ok (get_or out' k 0) ≡ segment_of_frame t (get_or frames k 0)
    unfolding segment_of_frame check_of indices_of
    each_index k h =
        let i = indices_of t frames in
        rw accepted.0 (ap Ok
        (ap (λ (l : List ℕ). get_or l k 0) over ∙ get_or-append i (drop (length i) out) 0 k (omega (arith, many)) ∙ get_or-map _ frames k 0 0 h))

  -- a refusal leaves all as lent
  pub all-kept : {why : Refusal} {out' : List ℕ} → Indexing t frames out (Err why) out' → out' ≡ out
  all-kept p = p.indices ∙ ap (λ (x : Result (Unit {0}) Refusal). after x (indices_of t frames) out) (err-of _ _ _ (sym p.answer))

  pub same_length : {r : Result ℕ Refusal} {out' : List ℕ} → Indexing t frames out r out' → length out' ≡ length out
  same_length {r = Ok n} p = long-written p
  same_length {r = Err why} p = ap length (all-kept p)
