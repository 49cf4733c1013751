-- Tables whose sources differ in where their creation times lie, and alike in whether the UTC rule passes them, get the
-- same answer of a check. Assumes nothing.
use Prim.Native.Nat.{ℕ, zero, suc}
use Rattle.std.specs.List.{list_any}
use mathlib.Core.Path.{◌≡◌, refl, ap}
use mathlib.Core.Bool.{Bool, false}
use mathlib.Core.List.{List, [], ◌∷◌}
use lib.ListN.{length, get_or}
use lib.Dec.{leb}
use Rattle.std.specs.Prelude.{Result, Err, if◌then◌else◌}
use Rattle.refusal.specs.declared.Reason.{Reason}
use Rattle.refusal.specs.declared.Reason.TheVariants as reason
use Rattle.refusal.specs.Refusals.{first_refused}
use Rattle.rules.specs.declared.Source.{Source}
use Rattle.rules.specs.declared.Ends.{Ends}
use Rattle.rules.specs.declared.Words.{Words}
use Rattle.rules.specs.declared.SixTimes.{SixTimes}
use Rattle.rules.specs.declared.Segment.{Segment}
use Rattle.rules.specs.Records.{Table, no_source, source_of}
use Rattle.rules.specs.Rules.{bad_source, malformed, source_refusal, stamp_times, judged, segment_refusal, start, ends, segments_from, front_refusal, refusal, check_of}

-- what segments are judged by is the same
pub record Same (s s' : Source) : Type 0 where
  pub frames : s.frames ≡ s'.frames
  pub kind : s.kind ≡ s'.kind
  pub modulus : s.modulus ≡ s'.modulus

module _ (log : Bool) (text text' : List ℕ) where
  pub record Alike (s s' : Source) : Type 0 where
    pub same : Same s s'
    pub bad : bad_source (length text) s ≡ bad_source (length text') s'
    pub refused : source_refusal log text s ≡ source_refusal log text' s'

  unfoldable pub AllAlike : List Source → List Source → Type 0
  AllAlike [] [] = Unit
  AllAlike [] (s' ∷ l') = ⊥
  AllAlike (s ∷ l) [] = ⊥
  AllAlike (s ∷ l) (s' ∷ l') = Alike s s' × AllAlike l l'

  any-alike : (l l' : List Source) → AllAlike l l' → list_any (bad_source (length text)) l ≡ list_any (bad_source (length text')) l'
  unfolding AllAlike
  any-alike [] [] a = refl
  any-alike [] (s' ∷ l') a = absurd a
  any-alike (s ∷ l) [] a = absurd a
  any-alike (s ∷ l) (s' ∷ l') a = rw (a.0.bad, any-alike l l' a.1)

  first-alike : (i : ℕ) (l l' : List Source) → AllAlike l l' → first_refused (source_refusal log text) i l ≡ first_refused (source_refusal log text') i l'
  unfolding AllAlike first_refused
  first-alike i [] [] a = refl
  first-alike i [] (s' ∷ l') a = absurd a
  first-alike i (s ∷ l) [] a = absurd a
  first-alike i (s ∷ l) (s' ∷ l') a = rw (a.0.refused, first-alike (suc i) l l' a.1)

  length-alike : (l l' : List Source) → AllAlike l l' → length l ≡ length l'
  unfolding AllAlike
  length-alike [] [] a = refl
  length-alike [] (s' ∷ l') a = absurd a
  length-alike (s ∷ l) [] a = absurd a
  length-alike (s ∷ l) (s' ∷ l') a = ap suc (length-alike l l' a.1)

  at-alike : (k : ℕ) (l l' : List Source) → AllAlike l l' → Same (get_or l k no_source) (get_or l' k no_source)
  unfolding AllAlike
  at-alike k [] [] a = record { frames = refl; kind = refl; modulus = refl }
  at-alike k [] (s' ∷ l') a = absurd a
  at-alike k (s ∷ l) [] a = absurd a
  at-alike zero (s ∷ l) (s' ∷ l') a = a.0.same
  at-alike (suc k) (s ∷ l) (s' ∷ l') a = at-alike k l l' a.1

judged-alike : (s s' : Source) (p : Ends) (w : Words) (t : SixTimes) → Same s s' → judged s p w t ≡ judged s' p w t
unfolding judged
judged-alike s s' p w t a = rw (a.frames, a.kind, a.modulus)

module _ (log : Bool) (text text' : List ℕ) (l l' : List Source) (a : AllAlike log text text' l l') where
  segment-alike : (p : Ends) (e : Segment) → segment_refusal l p e ≡ segment_refusal l' p e
  unfolding segment_refusal
  segment-alike p e =
      rw (length-alike log text text' l l' a)
      (ap (λ (r : Result (Unit {0}) Reason). if leb (length l') e.words.source then Err reason.NoSuchSource else r)
      (judged-alike (source_of l e) (source_of l' e) p e.words (stamp_times e.stamps) (at-alike log text text' e.words.source l l' a)))

  segments-alike : (i : ℕ) (p : Ends) (es : List Segment) → segments_from l i p es ≡ segments_from l' i p es
  unfolding segments_from
  segments-alike i p [] = refl
  segments-alike i p (e ∷ es) = rw (segment-alike p e, segments-alike (suc i) (ends e) es)

  front-alike : (bad : Bool) (n : ℕ) → front_refusal log text l bad n ≡ front_refusal log text' l' bad n
  unfolding front_refusal
  front-alike bad n = rw (length-alike log text text' l l' a, first-alike log text text' 0 l l' a)

  abbrev table : List ℕ → List Source → List Segment → Table
  table text sources segments = record { uneven = false; log = log; text = text; sources = sources; segments = segments }

  malformed-alike : (es : List Segment) → malformed (table text l es) ≡ malformed (table text' l' es)
  unfolding malformed
  malformed-alike es = rw (any-alike log text text' l l' a)

  pub check-alike : (es : List Segment) → check_of (table text l es) ≡ check_of (table text' l' es)
  unfolding check_of refusal
  check-alike es = rw (malformed-alike es, front-alike (malformed (table text' l' es)) (length es), segments-alike 0 start es)
