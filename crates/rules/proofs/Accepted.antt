-- What an accepted table gives, whatever its layout: `accepted`. Read off the conditions of specs/Grounds.antt, none of
-- which holds. Assumes nothing.
use Prim.Native.Nat.{ℕ, zero, suc, ◌+◌, ◌-◌, ◌≤◌, ◌<◌, zero-le, suc-le-suc}
use Rattle.std.proofs.lemmas.Bool.Decides.{Decides-int_eq}
use Rattle.std.specs.Ordering.{int_eq}
use native.Mathlib.Nat.{le_of_suc-le-suc, not-suc-le-zero, add-zero, zero-add}
use native.Mathlib.Omega.{arith}
use mathlib.Core.Path.{◌≡◌, refl, sym, ap, ◌∙◌, subst}
use mathlib.Core.Bool.{Bool, true, false}
use mathlib.Core.List.{List, [], ◌∷◌, ◌++◌}
use mathlib.Core.Logic.{inl, inr}
use lib.ListN.{length, get_or, take, drop}
use lib.Dec.{ltb, leb}
use lib.IntN.{ℤ, pos, negsuc, nat_abs, ◌+ℤ◌}
use lib.Signed.{◌<ℤ◌, ◌≤ℤ◌}
use Rattle.std.specs.Prelude.{Ok}
use borrow.Author.Tests.{ltb-false, leb-false}
use Rattle.conditions.specs.Conditions.{max_u64}
use Rattle.conditions.proofs.Tests.{decide, tf}
use Rattle.utc.specs.Utc.{utc_second}
use Rattle.rules.specs.declared.Source.{Source}
use Rattle.rules.specs.Limits.{max_sources, max_segments, max_i64}
use Rattle.rules.specs.declared.Segment.{Segment}
use Rattle.rules.specs.Records.{Table, no_segment, source, segment, source_of, out_end, out_end_us, capture_end_us, frame_total}
use Rattle.rules.specs.Rules.{check_of}
use Rattle.rules.specs.Grounds.{Test, of_source, of_segment, each, None}
use Rattle.rules.proofs.Says.{Says, equal, below, no-more}
use Rattle.rules.proofs.Exact.{rightly}

-- a start and its duration: neither is negative, and the sum is at most 2^63 - 1
pub record Timely (a b : ℤ) : Type 0 where
  pub start : a ≡ pos (nat_abs a)
  pub duration : b ≡ pos (nat_abs b)
  pub sum : a +ℤ b ≡ pos (nat_abs a + nat_abs b)
  pub fits : nat_abs a + nat_abs b ≤ max_i64

-- a source that 4 to 7 don't refuse
pub record SoundSource (log : Bool) (text : List ℕ) (s : Source) : Type 0 where
  pub frames : 0 < s.frames
  pub numerator : 0 < s.numerator
  pub denominator : 0 < s.denominator
  pub date : s.dated ≡ 1 → utc_second (take s.size (drop s.from text)) ≡ true
  pub ticks : (s.kind ≡ 0 → ⊥) → 0 < s.ticks
  pub per : (s.kind ≡ 0 → ⊥) → 0 < s.per
  pub modulus : s.kind ≡ 2 → 0 < s.modulus
  pub clock : log ≡ true → s.kind ≡ 0 → ⊥

-- a segment that 9 to 17 don't refuse, by itself
pub record Sound (sources : List Source) (e : Segment) : Type 0 where
  pub named : e.words.source < length sources
  pub some : 0 < e.words.count
  pub out-fits : out_end e ≤ max_u64
  pub src-fits : e.words.first + e.words.count ≤ max_u64
  pub src-inside : e.words.first + e.words.count ≤ (source_of sources e).frames
  pub src-time : Timely e.stamps.source_start e.stamps.duration
  pub src-capture : Timely e.stamps.source_capture_start e.stamps.capture_duration
  pub out-time : Timely e.stamps.out_start e.stamps.duration
  pub out-capture : Timely e.stamps.out_capture_start e.stamps.capture_duration
  -- a shift exactly where there is a clock, and in 0..modulus where there is a modulus
  pub absent : (source_of sources e).kind ≡ 0 → e.words.flag ≡ 0
  pub present : ((source_of sources e).kind ≡ 0 → ⊥) → e.words.flag ≡ 1
  pub shift : (source_of sources e).kind ≡ 2
      → (e.stamps.shift ≡ pos (nat_abs e.stamps.shift)) × (nat_abs e.stamps.shift < (source_of sources e).modulus)

-- segment e begins where segment p ends
pub record Follows (p e : Segment) : Type 0 where
  pub frame : e.words.out ≡ out_end p
  pub time : e.stamps.out_start ≡ out_end_us p
  pub capture : e.stamps.out_capture_start ≡ capture_end_us p

-- an accepted table of N frames: its frames chain from 0 to N, and its times chain
pub record Accepted (t : Table) (N : ℕ) : Type 0 where
  pub even : t.uneven ≡ false
  pub some-sources : 0 < length t.sources
  pub few-sources : length t.sources ≤ max_sources
  pub some-segments : 0 < length t.segments
  pub few-segments : length t.segments ≤ max_segments
  pub sources : (k : ℕ) → k < length t.sources → SoundSource t.log t.text (source t k)
  pub segments : (k : ℕ) → k < length t.segments → Sound t.sources (segment t k)
  pub flags : (k : ℕ) → k < length t.segments → (segment t k).words.flag ≤ 1
  pub first : (segment t 0).words.out ≡ 0
  pub follows : (k : ℕ) → suc k < length t.segments → Follows (segment t k) (segment t (suc k))
  pub sum : frame_total t.segments ≡ N
  pub last : out_end (segment t (length t.segments - 1)) ≡ N

-- ---- from conditions that don't hold
none_left : (l m : List Test) → None (l ++ m) → None l
none_left [] m x = tt
none_left (c ∷ l) m x = (x.0, none_left l m x.1)

none_right : (l m : List Test) → None (l ++ m) → None m
none_right [] m x = x
none_right (c ∷ l) m x = none_right l m x.1

none_each : (f : ℕ → List Test) (i n : ℕ) → None (each f i n) → (k : ℕ) → k < n → None (f (i + k))
none_each f i zero x k h = absurd (not-suc-le-zero h)
none_each f i (suc n) x zero h = subst (λ (j : ℕ). None (f j)) (sym (add-zero i)) (none_left (f i) (each f (suc i) n) x)
none_each f i (suc n) x (suc k) h =
    subst (λ (j : ℕ). None (f j)) (omega arith) (none_each f (suc i) n (none_right (f i) (each f (suc i) n) x) k (le_of_suc-le-suc h))

-- a test that isn't false
holds : {b : Bool} {C : Type 0} → Says b C → ((C → ⊥) → ⊥) → C
holds {b} {C} s f = decide b s.holds (λ e. absurd (f (s.fails e)))

same : (a b : ℤ) → ((a ≡ b → ⊥) → ⊥) → a ≡ b
same a b f = decide (int_eq a b) (Decides-int_eq a b).0 (λ e. absurd (f (λ q. tf (sym ((Decides-int_eq a b).1 q) ∙ e))))

not_above : (m n : ℕ) → ((pos m <ℤ pos n) → ⊥) → n ≤ m
not_above m n f = decide (ltb m n) (λ e. absurd (f ((below (pos m) (pos n)).holds e))) (ltb-false m n)

timely : (a b : ℤ) → ((a <ℤ pos 0) → ⊥) → ((b <ℤ pos 0) → ⊥) → ((pos max_i64 <ℤ (a +ℤ b)) → ⊥) → Timely a b
timely (pos m) (pos n) p q r = record { start = refl; duration = refl; sum = refl; fits = not_above max_i64 (m + n) r }
timely (pos m) (negsuc n) p q r = absurd (q (record { lt = tt }))
timely (negsuc m) b p q r = absurd (p (record { lt = tt }))

in-modulus : (z : ℤ) (m : ℕ) → ((z <ℤ pos 0) → ⊥) → ((pos m ≤ℤ z) → ⊥) → (z ≡ pos (nat_abs z)) × (nat_abs z < m)
in-modulus (pos n) m p q = (refl, decide (leb m n) (λ e. absurd (q ((no-more (pos m) (pos n)).holds e))) (leb-false m n))
in-modulus (negsuc n) m p q = absurd (p (record { lt = tt }))

nonzero : (n : ℕ) → (n ≡ 0 → ⊥) → 0 < n
nonzero n f = omega arith

at_most : (a b : ℕ) → (b < a → ⊥) → a ≤ b
at_most a b f = omega arith

not-true : (b : Bool) → (b ≡ true → ⊥) → b ≡ false
not-true true f = absurd (f refl)
not-true false f = refl

utc-true : (b : Bool) → (b ≡ false → ⊥) → b ≡ true
utc-true true f = refl
utc-true false f = absurd (f refl)

sound-source : (t : Table) (k : ℕ) → None (of_source t k) → SoundSource t.log t.text (source t k)
sound-source t k x =
    let n4 = x.0 in
    let n5 = x.1.0 in
    let n6 = x.1.1.0 in
    let n7 = x.1.1.1.0 in
    record {
      frames = nonzero _ (λ z. n4 (inl z));
      numerator = nonzero _ (λ z. n4 (inr (inl z)));
      denominator = nonzero _ (λ z. n4 (inr (inr z)));
      date = λ d. utc-true _ (λ u. n5 (d, u));
      ticks = λ c. nonzero _ (λ z. n6 (c, inl z));
      per = λ c. nonzero _ (λ z. n6 (c, inr (inl z)));
      modulus = λ c. nonzero _ (λ z. n6 (λ y. omega arith, inr (inr (c, z))));
      clock = λ l c. n7 (l, c);
    }

sound-segment : (t : Table) (k : ℕ) → (segment t k).words.flag ≤ 1 → None (of_segment t k)
    → Sound t.sources (segment t k)
sound-segment t k flag x =
    let e = segment t k in
    let n11 = x.1.1.0 in
    let n13 = x.1.1.1.1.0 in
    let n14 = x.1.1.1.1.1.0 in
    let n14b = x.1.1.1.1.1.1.1.1.0 in
    let n17 = x.1.1.1.1.1.1.1.1.1.0 in
    record {
      named = at_most _ _ (λ h. x.0 (le_of_suc-le-suc h));
      some = nonzero _ x.1.0;
      out-fits = at_most _ _ (λ h. n11 (inl h));
      src-fits = at_most _ _ (λ h. n11 (inr h));
      src-inside = at_most _ _ x.1.1.1.0;
      src-time = timely _ _ (λ h. n13 (inl (inl h))) (λ h. n13 (inr (inl (inl h)))) (λ h. n14 (inl h));
      src-capture = timely _ _ (λ h. n13 (inr (inl (inr h)))) (λ h. n13 (inr (inr (inr h)))) (λ h. n14 (inr h));
      out-time = timely _ _ (λ h. n13 (inl (inr h))) (λ h. n13 (inr (inl (inl h)))) (λ h. n14b (inl h));
      out-capture = timely _ _ (λ h. n13 (inr (inr (inl h)))) (λ h. n13 (inr (inr (inr h)))) (λ h. n14b (inr h));
      absent = λ z. none-flag _ flag (λ h. n17 (inl (z, h)));
      present = λ z. one-flag _ flag (λ h. n17 (inr (inl (z, h))));
      shift = λ z. in-modulus _ _ (λ h. n17 (inr (inr (z, inl h)))) (λ h. n17 (inr (inr (z, inr h))));
    }
  where
    none-flag : (n : ℕ) → n ≤ 1 → (n ≡ 1 → ⊥) → n ≡ 0
    none-flag n h f = omega arith

    one-flag : (n : ℕ) → n ≤ 1 → (n ≡ 0 → ⊥) → n ≡ 1
    one-flag n h f = omega arith

-- a list's frames, where each segment follows the one before: its last segment ends past them
ends_at : (p : ℕ) (l : List Segment) → 0 < length l → (get_or l 0 no_segment).words.out ≡ p
    → ((k : ℕ) → suc k < length l → (get_or l (suc k) no_segment).words.out ≡ out_end (get_or l k no_segment))
    → out_end (get_or l (length l - 1) no_segment) ≡ p + frame_total l
unfolding frame_total
ends_at p [] h z f = absurd (not-suc-le-zero h)
ends_at p (e ∷ []) h z f = omega arith
ends_at p (e ∷ d ∷ l) h z f =
    let n : suc (suc (length l)) - 1 ≡ suc (suc (length l) - 1) = omega arith in
    ap (λ (j : ℕ). out_end (get_or (e ∷ d ∷ l) j no_segment)) n
    ∙ ends_at (out_end e) (d ∷ l) (suc-le-suc zero-le) (f 0 (suc-le-suc (suc-le-suc zero-le))) (λ k b. f (suc k) (suc-le-suc b))
    ∙ omega arith

pub accepted : (t : Table) (N : ℕ) → check_of t ≡ Ok N → Accepted t N
accepted t N e =
    let r = ((rightly t).accepts N).0 e in
    let n1 = r.0.0 in
    let n2 = r.0.1.0 in
    let n3 = r.0.1.1.0 in
    let rest = r.0.1.1.1 in
    let sources = none_left (each (of_source t) 0 (length t.sources)) _ rest in
    let after = none_right (each (of_source t) 0 (length t.sources)) _ rest in
    let segments : (k : ℕ) → k < length t.segments → None (of_segment t k) = λ k b. subst (λ (j : ℕ). None (of_segment t j)) (zero-add k) (none_each (of_segment t) 0 (length t.segments) after.1 k b) in
    let flag : (k : ℕ) → k < length t.segments → (segment t k).words.flag ≤ 1 = λ k b. at_most _ _ (λ h. n1 (inr (inr (k, b, h)))) in
    let some = nonzero _ after.0 in
    let begin = holds (equal _ _) (segments 0 some).1.1.1.1.1.1.0 in
    let next : (k : ℕ) → suc k < length t.segments → Follows (segment t k) (segment t (suc k)) = λ k b.
    let x = segments (suc k) b in
    record {
      frame = holds (equal _ _) x.1.1.1.1.1.1.0;
      time = same _ _ (λ h. x.1.1.1.1.1.1.1.0 (inl h));
      capture = same _ _ (λ h. x.1.1.1.1.1.1.1.0 (inr h));
    } in
    record {
      even = not-true t.uneven (λ h. n1 (inl h));
      some-sources = nonzero _ n3;
      few-sources = at_most _ _ (λ h. n2 (inl h));
      some-segments = some;
      few-segments = at_most _ _ (λ h. n2 (inr h));
      sources = λ k b. sound-source t k (subst (λ (j : ℕ). None (of_source t j)) (zero-add k) (none_each (of_source t) 0 (length t.sources) sources k b));
      segments = λ k b. sound-segment t k (flag k b) (segments k b);
      flags = flag;
      first = begin;
      follows = next;
      sum = sym r.1;
      last = ends_at 0 t.segments some begin (λ k b. (next k b).frame) ∙ zero-add (frame_total t.segments) ∙ sym r.1;
    }
