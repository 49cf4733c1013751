-- Words of an absent thing are ignored by every answer. Assumes nothing.
use Prim.Native.Nat.{ℕ, suc, ◌+◌, ◌-◌}
use Rattle.std.specs.List.{list_any, count_by}
use Rattle.std.proofs.lemmas.List.Folds.{fold-map}
use Rattle.std.proofs.lemmas.Simd.{map-map}
use native.Mathlib.Omega.{arith}
use mathlib.Core.Path.{◌≡◌, refl, sym, ap, ◌∙◌}
use mathlib.Core.Bool.{Bool, cond, true, false, ◌||◌, ◌&&◌}
use mathlib.Core.List.{List, [], ◌∷◌, map}
use lib.ListN.{length, get_or, length-map, get_or-map}
use lib.Dec.{eqb, leb, ltb}
use lib.IntN.{ℤ, pos, nat_abs}
use borrow.Author.Tests.{eqb-true, ne_eqb}
use Rattle.std.specs.Prelude.{Result, Ok, Err, if◌then◌else◌}
use Rattle.std.specs.Result.{result_and}
use Rattle.conditions.proofs.Tests.{decide}
use Rattle.refusal.specs.declared.Reason.{Reason}
use Rattle.refusal.specs.declared.Reason.TheVariants as reason
use Rattle.refusal.specs.Refusals.{first_refused}
use Rattle.rules.specs.declared.Source.{Source}
use Rattle.rules.specs.declared.Ends.{Ends}
use Rattle.rules.specs.declared.Segment.{Segment}
use Rattle.rules.specs.Records.{Table, no_source, no_segment, segment, source_of, frame_total}
use Rattle.rules.specs.Rules.{negative, bad_words, bad_source, bad_segment, malformed, bad_date, bad_clock, bad_shift, source_refusal, stamp_times, judged, segment_refusal, start, ends_of, ends, segments_from, front_refusal, refusal, check_of}
use Rattle.rules.specs.Lookups.{ended, over_by, over_by_us, segment_of_frame, segment_of_time, same_shift, segment_runs_on, continues_at}
use Rattle.rules.specs.Absent.{stripped_source, stripped_segment, stripped, unread_source, unread}

-- ---- lists of records that are changed where no one looks
any-map : {A : Type 0} (p : A → Bool) (f : A → A) (l : List A) → ((a : A) → p (f a) ≡ p a)
    → list_any p (map f l) ≡ list_any p l
any-map p f [] h = refl
any-map p f (a ∷ l) h = rw (h a, any-map p f l h)

count_map : {A : Type 0} (p : A → Bool) (f : A → A) (l : List A) → ((a : A) → p (f a) ≡ p a)
    → count_by p (map f l) ≡ count_by p l
count_map p f l h = fold-map (λ s a. s + cond (p a) 1 0) f 0 l ∙ (λ i. count_by (λ a. h a i) l)

pub first-map : {A : Type 0} (g : A → Result (Unit {0}) Reason) (f : A → A) (i : ℕ) (l : List A)
    → ((a : A) → g (f a) ≡ g a) → first_refused g i (map f l) ≡ first_refused g i l
unfolding first_refused
first-map g f i [] h = refl
first-map g f i (a ∷ l) h = rw (h a, first-map g f (suc i) l h)

-- ---- the rules that look at words of what may be absent
-- where a flag is 0 the test for 1 fails
not-one : (n : ℕ) → eqb n 0 ≡ true → eqb n 1 ≡ false
not-one n e = ne_eqb n 1 (λ q. omega (arith, eqb-true n 0 e))

-- a flag says the same of 1 whether it is 0 or 1
abbrev flag_only : ℕ → ℕ
flag_only known = if ltb 1 known then known else 0

flag-kept : (known : ℕ) → ltb 1 (flag_only known) ≡ ltb 1 known
flag-kept known = decide (ltb 1 known) (λ e. rw e e) (λ e. rw e)

flag-once : (known : ℕ) → flag_only (flag_only known) ≡ flag_only known
flag-once known = decide (ltb 1 known) (λ e. rw e (λ i. if e i then known else 0)) (λ e. rw e)

words-stripped : (n dated from size kind known : ℕ)
    → bad_words n dated (if eqb dated 0 then 0 else from)
    (if eqb dated 0 then 0 else size) kind (flag_only known) ≡ bad_words n dated from size kind known
words-stripped n dated from size kind known = decide (eqb dated 0) (λ e. rw (not-one dated e, flag-kept known)) (λ e. rw (e, flag-kept known))

date-stripped : (text : List ℕ) (dated from size : ℕ)
    → bad_date text dated (if eqb dated 0 then 0 else from)
    (if eqb dated 0 then 0 else size) ≡ bad_date text dated from size
date-stripped text dated from size = decide (eqb dated 0) (λ e. rw (not-one dated e)) (λ e. rw e)

clock-stripped : (kind ticks per modulus : ℕ)
    → bad_clock kind (if eqb kind 0 then 0 else ticks) (if eqb kind 0 then 0 else per) (if eqb kind 0 || eqb kind 1 then 0 else modulus) ≡ bad_clock kind ticks per modulus
clock-stripped kind ticks per modulus =
    decide (eqb kind 0) (λ e. rw e)
    (λ e. decide (eqb kind 1) (λ q. rw (e, q, ne_eqb kind 2 (λ z. omega (arith, eqb-true kind 1 q)))) (λ q. rw (e, q)))

shift-stripped : (kind modulus flag : ℕ) (z : ℤ)
    → bad_shift kind (if eqb kind 0 || eqb kind 1 then 0 else modulus) flag (negative (if eqb flag 0 then pos 0 else z)) (nat_abs (if eqb flag 0 then pos 0 else z))
    ≡ bad_shift kind modulus flag (negative z) (nat_abs z)
shift-stripped kind modulus flag z =
    decide (eqb kind 0) (λ e. rw (e, ne_eqb kind 2 (λ q. omega (arith, eqb-true kind 0 e))))
    (λ e. decide (eqb flag 0) (λ q. rw (e, q))
    (λ q. decide (eqb kind 1) (λ o. rw (e, q, o, ne_eqb kind 2 (λ y. omega (arith, eqb-true kind 1 o)))) (λ o. rw (e, q, o))))

-- ---- a record's refusals
source-stripped : (log : Bool) (text : List ℕ) (s : Source)
    → source_refusal log text (stripped_source s) ≡ source_refusal log text s
unfolding source_refusal stripped_source
source-stripped log text s =
    rw (date-stripped text s.dated s.from s.size, clock-stripped s.kind s.ticks s.per s.modulus)

judged-stripped : (s : Source) (previous : Ends) (e : Segment)
    → judged (stripped_source s) previous e.words (stamp_times (stripped_segment e).stamps) ≡ judged s previous e.words (stamp_times e.stamps)
unfolding judged stamp_times stripped_source stripped_segment
judged-stripped s previous e = rw (shift-stripped s.kind s.modulus e.words.flag e.stamps.shift)

no_source-stripped : stripped_source no_source ≡ no_source
unfolding stripped_source no_source
no_source-stripped = refl

no-segment : stripped_segment no_segment ≡ no_segment
unfolding stripped_segment no_segment
no-segment = refl

pub source-at : (l : List Source) (k : ℕ)
    → get_or (map stripped_source l) k no_source ≡ stripped_source (get_or l k no_source)
source-at l k = ap (get_or (map stripped_source l) k) (sym no_source-stripped) ∙ get_or-map stripped_source l k no_source

pub segment-at : (l : List Segment) (k : ℕ)
    → get_or (map stripped_segment l) k no_segment ≡ stripped_segment (get_or l k no_segment)
segment-at l k = ap (get_or (map stripped_segment l) k) (sym no-segment) ∙ get_or-map stripped_segment l k no_segment

segment-stripped : (sources : List Source) (previous : Ends) (e : Segment)
    → segment_refusal (map stripped_source sources) previous (stripped_segment e) ≡ segment_refusal sources previous e
unfolding segment_refusal stripped_segment
segment-stripped sources previous e =
    rw (length-map sources stripped_source) (ap (λ (r : Result (Unit {0}) Reason). if leb (length sources) e.words.source then Err reason.NoSuchSource else r) (rest sources previous e))
  where
    rest : (sources : List Source) (previous : Ends)
        (e : Segment) → judged (get_or (map stripped_source sources) (stripped_segment e).words.source no_source) previous (stripped_segment e).words (stamp_times (stripped_segment e).stamps)
        ≡ judged (source_of sources e) previous e.words (stamp_times e.stamps)
    rest sources previous e = rw (source-at sources e.words.source) (judged-stripped (source_of sources e) previous e)

ends-stripped : (e : Segment) → ends (stripped_segment e) ≡ ends e
unfolding ends ends_of stamp_times stripped_segment
ends-stripped e = refl

segments-stripped : (sources : List Source) (i : ℕ) (previous : Ends)
    (l : List Segment) → segments_from (map stripped_source sources) i previous (map stripped_segment l)
    ≡ segments_from sources i previous l
unfolding segments_from
segments-stripped sources i previous [] = refl
segments-stripped sources i previous (e ∷ l) = rw (segment-stripped sources previous e, ends-stripped e, segments-stripped sources (suc i) (ends e) l)

pub total-stripped : (l : List Segment) → frame_total (map stripped_segment l) ≡ frame_total l
unfolding frame_total stripped_segment
total-stripped [] = refl
total-stripped (e ∷ l) = ap (λ (n : ℕ). e.words.count + n) (total-stripped l)

malformed-stripped : (t : Table) → malformed (stripped t) ≡ malformed t
unfolding malformed stripped bad_source bad_segment stripped_source stripped_segment
malformed-stripped t =
    rw (any-map (bad_source (length t.text)) stripped_source t.sources (bad-source (length t.text)), any-map bad_segment stripped_segment t.segments bad-segment)
  where
    bad-source : (n : ℕ) (s : Source) → bad_source n (stripped_source s) ≡ bad_source n s
    bad-source n s = words-stripped n s.dated s.from s.size s.kind s.imu_known

    bad-segment : (e : Segment) → bad_segment (stripped_segment e) ≡ bad_segment e
    bad-segment e = refl

front-stripped : (log : Bool) (text : List ℕ) (sources : List Source) (bad : Bool) (n : ℕ)
    → front_refusal log text (map stripped_source sources) bad n ≡ front_refusal log text sources bad n
unfolding front_refusal
front-stripped log text sources bad n = rw (length-map sources stripped_source, first-map (source_refusal log text) stripped_source 0 sources (source-stripped log text))

pub refusal-stripped : (t : Table) → refusal t ≡ refusal (stripped t)
unfolding refusal stripped
refusal-stripped t = sym λ i. result_and (first i) (segments-stripped t.sources 0 start t.segments i)
  where
    first :
        front_refusal t.log t.text (map stripped_source t.sources) (malformed (stripped t)) (length (map stripped_segment t.segments))
        ≡ front_refusal t.log t.text t.sources (malformed t) (length t.segments)
    first =
        rw (malformed-stripped t, length-map t.segments stripped_segment)
        (front-stripped t.log t.text t.sources (malformed t) (length t.segments))

pub check-stripped : (t : Table) → check_of t ≡ check_of (stripped t)
unfolding check_of stripped
check-stripped t = λ i. result_and (refusal-stripped t i) (Ok (sym (total-stripped t.segments) i))

ended-stripped : (p : Segment → Bool) (l : List Segment) → ((e : Segment) → p (stripped_segment e) ≡ p e)
    → ended p l ≡ ended p (map stripped_segment l)
unfolding ended
ended-stripped p l h = rw (count_map p stripped_segment l h, length-map l stripped_segment)

same-stripped : (flag flag' : ℕ)
    (z z' : ℤ) → same_shift flag (if eqb flag 0 then pos 0 else z) flag' (if eqb flag' 0 then pos 0 else z')
    ≡ same_shift flag z flag' z'
same-stripped flag flag' z z' =
    decide (eqb flag 0) (λ e. rw e)
    (λ e. decide (eqb flag flag') (λ q. rw (e, rw (eqb-true flag flag' q) at e)) (λ q. rw q))

runs-stripped : (p e : Segment) → segment_runs_on (stripped_segment p) (stripped_segment e) ≡ segment_runs_on p e
unfolding segment_runs_on stripped_segment
runs-stripped p e = rw (same-stripped p.words.flag e.words.flag p.stamps.shift e.stamps.shift)

-- ---- of every table: each answer is that of the stripped one
pub over-stripped : (k : ℕ) (t : Table) → ended (over_by k) t.segments ≡ ended (over_by k) (stripped t).segments
unfolding stripped stripped_segment
over-stripped k t = ended-stripped (over_by k) t.segments (λ e. refl)

pub frame-stripped : (k : ℕ) (t : Table) → segment_of_frame t k ≡ segment_of_frame (stripped t) k
unfolding segment_of_frame
frame-stripped k t = λ i. result_and (check-stripped t i) (Ok (over-stripped k t i))

pub time-stripped : (z : ℤ) (t : Table) → segment_of_time t z ≡ segment_of_time (stripped t) z
unfolding segment_of_time stripped stripped_segment
time-stripped z t = λ i. result_and (check-stripped t i) (Ok (ended-stripped (over_by_us z) t.segments (λ e. refl) i))

pub continues-stripped : (r : ℕ) (t : Table) → continues_at t r ≡ continues_at (stripped t) r
unfolding continues_at stripped stripped_segment
continues-stripped r t = λ i. result_and (check-stripped t i) (Ok (asked i))
  where
    asked : ((leb 1 r && ltb r (length t.segments)) && segment_runs_on (segment t (r - 1)) (segment t r))
        ≡ ((leb 1 r && ltb r (length (map stripped_segment t.segments))) && segment_runs_on (segment (stripped t) (r - 1)) (segment (stripped t) r))
    asked = rw (length-map t.segments stripped_segment, segment-at t.segments (r - 1), segment-at t.segments r, runs-stripped (segment t (r - 1)) (segment t r))

-- a table of which the words are set to 0 that no call reads is stripped as it is
unread-stripped-source : (s : Source) → stripped_source (unread_source s) ≡ stripped_source s
unfolding stripped_source unread_source
unread-stripped-source s = rw (flag-once s.imu_known)

pub unread-stripped : (t : Table) → stripped t ≡ stripped (unread t)
unfolding stripped unread
unread-stripped t = λ i. record {
  uneven = t.uneven;
  log = t.log;
  text = t.text;
  sources = (sym (map-map stripped_source unread_source t.sources ∙ λ j. map (λ s. unread-stripped-source s j) t.sources)) i;
  segments = map stripped_segment t.segments;
}

-- so it is the same of tables that are stripped alike
pub alike : {A : Type 0} (f : Table → A) → ((t : Table) → f t ≡ f (stripped t)) → (a b : Table)
    → stripped a ≡ stripped b → f a ≡ f b
alike f h a b e = h a ∙ ap f e ∙ sym (h b)
