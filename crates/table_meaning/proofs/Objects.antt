-- A table's segments, sources and log read by offsets are their values read. Assumes nothing.
use Rattle.std.specs.Prelude.{Option, Some, None, if◌then◌else◌, option_map, option_and_then, codes}
use mathlib.Core.Path.{◌≡◌, refl, ap, ◌∙◌}
use mathlib.Core.Bool.{true, false, ◌&&◌}
use mathlib.Core.List.{List}
use Prim.Native.Nat.{ℕ, ◌+◌}
use Rattle.json_tokens.specs.Text.{◌>>=◌}
use Rattle.json_values.specs.Grammar.{Json, null, bool, number, string, list, object}
use Rattle.json_fields.specs.Fields.{member_at, pair_at}
use Rattle.json_strings.specs.Texts.{string_bytes, lead_chars}
use Rattle.table_fields.specs.declared.sources.Rates.{Rates}
use Rattle.table_fields.specs.declared.sources.Clock.{Clock}
use Rattle.table_fields.specs.declared.sources.Original.{Original}
use Rattle.table_fields.specs.Typed.{segment_of, told_by, clock_of, rates_of, log_of, no_clock}
use Rattle.table_fields.specs.Found as found
use Rattle.json_documents.proofs.Named.{name-is}
use Rattle.table_meaning.specs.Tree as tree
use Rattle.table_meaning.specs.Parsed as parsed
use Rattle.table_meaning.specs.Parsed.{ParsedSource}
use Rattle.table_meaning.proofs.Meets.{Meets, Stands, StringAt, meets}
use Rattle.table_meaning.proofs.Leaves.{Opt, opt-then, member-alike, place-same, null-leaf, text-leaf, object-leaf, shift-leaf, modulus-leaf}
use Rattle.table_meaning.proofs.Agree.{made, created-leaf, pair-leaf, u64-field, i64-field, text-field, object-null-field, text-null-field}

-- ---- a segment
module _ (text : List ℕ) (p : ℕ) (j : Json) (s : Stands 30 text p j) where
  shift-field : found.shift_in 29 text p ≡ option_and_then parsed.as_shift (tree.member_of j (codes "clock_shift"))
  shift-field =
      opt-then (Stands 29 text) (found.shift_at text) parsed.as_shift (shift-leaf 29 text) (member_at 29 text p (codes "clock_shift"))
      (tree.member_of j (codes "clock_shift"))
      (member-alike 29 text p j s (codes "clock_shift"))

  told-field : found.told_at 29 text p ≡ told_by (tree.object_or_null_in j (codes "requested")) (tree.text_in j)
  told-field = λ i. told_by (object-null-field 29 text p j s (codes "requested") i) (λ key. text-field 29 text p j s key i)

  pub segment-leaf : found.segment_at 29 text p ≡ parsed.as_segment j
  segment-leaf = λ i. segment_of (λ key. u64-field 29 text p j s key i) (λ key. i64-field 29 text p j s key i) (shift-field i) (told-field i)

-- ---- a source
module _ (text : List ℕ) (q : ℕ) (c : Json) (s : Stands 29 text q c) where
  rate-field : found.pair_in 28 text q (codes "rate") ≡ tree.pair_in c (codes "rate")
  rate-field =
      opt-then (Stands 28 text) (pair_at 27 text) tree.as_pair (pair-leaf 27 text) (member_at 28 text q (codes "rate")) (tree.member_of c (codes "rate"))
      (member-alike 28 text q c s (codes "rate"))

  modulus-field : found.modulus_in 28 text q ≡ option_and_then parsed.as_modulus (tree.member_of c (codes "modulus"))
  modulus-field =
      opt-then (Stands 28 text) (found.modulus_at text) parsed.as_modulus (modulus-leaf 28 text) (member_at 28 text q (codes "modulus"))
      (tree.member_of c (codes "modulus"))
      (member-alike 28 text q c s (codes "modulus"))

  pub clock-leaf : found.clock_at 28 text q ≡ parsed.as_clock c
  unfolding found.clock_at parsed.as_clock
  clock-leaf =
      λ i. if null-leaf 29 text q c s i then Some no_clock
      else clock_of (text-field 28 text q c s (codes "name") i) (rate-field i) (modulus-field i)

-- a source, with its name's characters and the bytes of its creation time
abbrev pub origin_of : List ℕ → Original → ParsedSource
origin_of text o = record {
  name_at = o.name;
  name = lead_chars text (o.name + 1);
  file_size = o.file_size;
  rates = o.rates;
  created = option_map (string_bytes text) o.created;
  clock = o.clock;
  imu_origin = o.imu_origin;
}

-- a name: where it stands, and its characters
abbrev named : List ℕ → ℕ → ℕ × List ℕ
named text q = (q, lead_chars text (q + 1))

abbrev pair : Option ℕ → Option (List ℕ) → Option (ℕ × List ℕ)
pair at name = at >>= (λ q. name >>= (λ s. Some (q, s)))

name-not : (text : List ℕ) (q : ℕ) → found.is_text text q ≡ false → option_map (named text) (found.name_at text q) ≡ None
unfolding found.name_at
name-not text q h = rw h refl

name-text : (text : List ℕ) (q e : ℕ) (s : List ℕ) → found.is_text text q ≡ true → StringAt text q e s
    → option_map (named text) (found.name_at text q) ≡ Some (q, s)
unfolding found.name_at
name-text text q e s h a = rw h (ap (λ l. Some (q, l)) (name-is text q s e a.read))

name-by : (text : List ℕ) (left q e : ℕ) (j : Json) → Meets left text q e j → found.is_text text q ≡ tree.is_text j
    → option_map (named text) (found.name_at text q) ≡ (tree.as_text j >>= (λ s. Some (q, s)))
unfolding Meets tree.as_text
name-by text left q e null m a = name-not text q a
name-by text left q e (bool x) m a = name-not text q a
name-by text left q e (number f) m a = name-not text q a
name-by text left q e (string s) m a = name-text text q e s a m
name-by text left q e (list vs) m a = name-not text q a
name-by text left q e (object ms) m a = name-not text q a

name-opt : (left : ℕ) (text : List ℕ) (x : Option ℕ) (y : Option Json) → Opt (Stands left text) x y
    → option_map (named text) (option_and_then (found.name_at text) x) ≡ pair x (option_and_then tree.as_text y)
unfolding Opt
name-opt left text None None o = refl
name-opt left text None (Some j) o = absurd o
name-opt left text (Some q) None o = absurd o
name-opt left text (Some q) (Some j) o = name-by text left q o.end j (meets left text q j o) (text-leaf left text q j o)

map-then : {A B C : Type 0} (f : B → C) (g : A → Option B) (x : Option A) → option_map f (option_and_then g x) ≡ option_and_then (λ a. option_map f (g a)) x
map-then f g None = refl
map-then f g (Some a) = refl

abbrev pub origin : ℕ → List ℕ → ℕ → Rates → Option (List ℕ) → Clock → Option ℕ → Option ParsedSource
origin at name size rates created clock imu =
    Some (record { name_at = at; name = name; file_size = size; rates = rates; created = created; clock = clock; imu_origin = imu })

abbrev pub origin-then : Option ℕ → Option Rates → Option (Option (List ℕ)) → Option Clock → Option ℕ → ℕ → List ℕ → Option ParsedSource
origin-then f r c k imu at name = f >>= (λ size. r >>= (λ rates. c >>= (λ created. k >>= (λ clock. origin at name size rates created clock imu))))

origin-by : (text : List ℕ) (n : Option ℕ) (f : Option ℕ) (r : Option Rates) (c : Option (Option ℕ)) (k : Option Clock) (imu : Option ℕ)
    → option_map (origin_of text) (n >>= (λ name. f >>= (λ size. r >>= (λ rates. c >>= (λ created. k >>= (λ clock.
    Some (record { name = name; file_size = size; rates = rates; created = created; clock = clock; imu_origin = imu })))))))
    ≡ (option_map (named text) n >>= (λ p. origin-then f r (option_map (option_map (string_bytes text)) c) k imu p.0 p.1))
origin-by text None f r c k imu = refl
origin-by text (Some n) None r c k imu = refl
origin-by text (Some n) (Some f) None c k imu = refl
origin-by text (Some n) (Some f) (Some r) None k imu = refl
origin-by text (Some n) (Some f) (Some r) (Some c) None imu = refl
origin-by text (Some n) (Some f) (Some r) (Some c) (Some k) imu = refl

pair-then : {C : Type 0} (at : Option ℕ) (name : Option (List ℕ)) (g : ℕ → List ℕ → Option C)
    → (pair at name >>= (λ p. g p.0 p.1)) ≡ (at >>= (λ q. name >>= (λ s. g q s)))
pair-then None name g = refl
pair-then (Some q) None g = refl
pair-then (Some q) (Some s) g = refl

module _ (text : List ℕ) (p : ℕ) (j : Json) (s : Stands 30 text p j) where
  name-field : option_map (named text) (found.name_in 29 text p) ≡ pair (tree.place_in j (codes "name")) (tree.characters_in j (codes "name"))
  name-field =
      name-opt 29 text (member_at 29 text p (codes "name")) (tree.member_of j (codes "name")) (member-alike 29 text p j s (codes "name"))
      ∙ ap (λ x. pair x (tree.characters_in j (codes "name"))) (place-same 29 text p j s (codes "name"))

  fps-field : found.pair_in 29 text p (codes "fps") ≡ tree.pair_in j (codes "fps")
  fps-field =
      opt-then (Stands 29 text) (pair_at 28 text) tree.as_pair (pair-leaf 28 text) (member_at 29 text p (codes "fps")) (tree.member_of j (codes "fps"))
      (member-alike 29 text p j s (codes "fps"))

  rates-field : found.rates_at 29 text p ≡ rates_of (tree.u64_in j) (tree.pair_in j (codes "fps"))
  rates-field = λ i. rates_of (λ key. u64-field 29 text p j s key i) (fps-field i)

  created-field : made text (found.created_in 29 text p) ≡ option_and_then parsed.as_created (tree.member_of j (codes "creation_time"))
  created-field =
      map-then (option_map (string_bytes text)) (found.created_at text) (member_at 29 text p (codes "creation_time"))
      ∙ opt-then (Stands 29 text) (λ q. made text (found.created_at text q)) parsed.as_created (λ q c t. created-leaf text 29 q c t)
      (member_at 29 text p (codes "creation_time")) (tree.member_of j (codes "creation_time")) (member-alike 29 text p j s (codes "creation_time"))

  clock-field : found.clock_in 29 text p ≡ option_and_then parsed.as_clock (tree.member_of j (codes "clock"))
  clock-field =
      opt-then (Stands 29 text) (found.clock_at 28 text) parsed.as_clock (clock-leaf text) (member_at 29 text p (codes "clock"))
      (tree.member_of j (codes "clock"))
      (member-alike 29 text p j s (codes "clock"))

  pub origin-leaf : option_map (origin_of text) (found.original_at 29 text p) ≡ parsed.as_origin j
  unfolding found.original_at parsed.as_origin
  origin-leaf =
      origin-by text (found.name_in 29 text p) (found.u64_in 29 text p (codes "size")) (found.rates_at 29 text p) (found.created_in 29 text p)
      (found.clock_in 29 text p)
      (found.u64_in 29 text p (codes "zcam_imu_origin_us"))
      ∙ (λ i. name-field i >>= (λ n.
      origin-then (u64-field 29 text p j s (codes "size") i) (rates-field i) (created-field i) (clock-field i)
      (u64-field 29 text p j s (codes "zcam_imu_origin_us") i) n.0 n.1))
      ∙ pair-then (tree.place_in j (codes "name")) (tree.characters_in j (codes "name"))
      (origin-then (tree.u64_in j (codes "size")) (rates_of (tree.u64_in j) (tree.pair_in j (codes "fps")))
      (option_and_then parsed.as_created (tree.member_of j (codes "creation_time")))
      (option_and_then parsed.as_clock (tree.member_of j (codes "clock"))) (tree.u64_in j (codes "zcam_imu_origin_us")))

-- ---- the log
log-leaf : (text : List ℕ) (q : ℕ) (j : Json) → Stands 31 text q j
    → found.log_at 30 text q ≡ (tree.is_object j && log_of (tree.u64_in j) (tree.text_or_null_in j (codes "name")) (tree.text_in j))
log-leaf text q j s =
    λ i. object-leaf 31 text q j s i
    && log_of (λ key. u64-field 30 text q j s key i) (text-null-field 30 text q j s (codes "name") i) (λ key. text-field 30 text q j s key i)

log-by : (text : List ℕ) (x : Option ℕ) (y : Option Json) → Opt (Stands 31 text) x y → found.logged_by (found.log_at 30 text) x ≡ parsed.as_log y
unfolding Opt found.logged_by parsed.as_log
log-by text None None o = refl
log-by text None (Some j) o = absurd o
log-by text (Some q) None o = absurd o
log-by text (Some q) (Some j) o = λ i. if log-leaf text q j o i then Some true else None

pub log-field : (text : List ℕ) (p : ℕ) (j : Json) → Stands 32 text p j → found.log_in 31 text p ≡ parsed.as_log (tree.member_of j (codes "telemetry_log"))
log-field text p j s =
    log-by text (member_at 31 text p (codes "telemetry_log")) (tree.member_of j (codes "telemetry_log"))
    (member-alike 31 text p j s (codes "telemetry_log"))
