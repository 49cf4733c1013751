-- Reading a table's text by offsets is reading it by its value. Assumes nothing.
use Rattle.std.specs.Prelude.{Option, Some, None, if◌then◌else◌, option_map, option_and_then, codes, is_some, unwrap_or, Result, Ok, Err}
use Rattle.std.specs.List.{list_all}
use Rattle.std.proofs.lemmas.List.{length-map}
use Rattle.std.proofs.lemmas.Iterator.Adapters.{option_map_id}
use mathlib.Core.Path.{◌≡◌, refl, sym, ap, ◌∙◌}
use mathlib.Core.Bool.{Bool, true, false, not, ◌||◌, ◌&&◌}
use mathlib.Core.List.{List, [], ◌∷◌, ◌++◌, map}
use Prim.Native.Nat.{ℕ, ◌+◌, ◌*◌}
use lib.ListN.{length}
use lib.IntN.{ℤ}
use lib.Dec.{eqb, ltb}
use borrow.Author.Tests.{eq-eqb}
use Rattle.refusal.specs.declared.Reason.TheVariants as reason
use Rattle.refusal.specs.declared.Refusal.{Refusal}
use Rattle.refusal.specs.Refusals.{refused}
use Rattle.rules.specs.declared.Segment.{Segment}
use Rattle.slices.specs.Slices.{laid}
use Rattle.rules.specs.Records.{no_segment}
use Rattle.rules.specs.Rules.{over_limit, check_of}
use Rattle.json_tokens.specs.Text.{most_text, byte_at, blanks, Got, and_then, ◌>>=◌}
use Rattle.json_values.specs.Grammar.{Json, null, bool, number, string, list, object, Values, whole_of, document_of, value_at}
use Rattle.json_fields.specs.Fields.{member_at}
use Rattle.json_documents.specs.Names.{repeats}
use Rattle.json_documents.specs.Seen.{seen_of}
use Rattle.json_strings.specs.Texts.{string_bytes}
use Rattle.table_fields.specs.declared.sources.Original.{Original}
use Rattle.table_fields.specs.Found.{segment_at, original_at, log_in, u64_in}
use Rattle.table_text.specs.declared.lists.Lists.{Lists}
use Rattle.table_text.specs.declared.staging.Staged.{Staged}
use Rattle.table_text.specs.declared.reader.Room.{Room}
use Rattle.table_text.specs.Lists as at
use Rattle.table_text.specs.Tables as at_tables
use Rattle.table_text.specs.Read as at_read
use Rattle.json_documents.proofs.Leaves.{no_some}
use Rattle.table_meaning.specs.Tree as tree
use Rattle.table_meaning.specs.Parsed as parsed
use Rattle.table_meaning.specs.Parsed.{ParsedSource, Parsed}
use Rattle.table_meaning.specs.Answer as by
use Rattle.table_meaning.specs.Answer.{Written}
use Rattle.table_meaning.specs.Names as names
use Rattle.table_meaning.proofs.Meets.{Meets, Stands, ListAt, meets}
use Rattle.table_meaning.proofs.Walked.{Both}
use Rattle.table_meaning.proofs.Leaves.{Opt, opt-then, member-alike}
use Rattle.table_meaning.proofs.Agree.{list-leaf, list-both, u64-field}
use Rattle.table_meaning.proofs.Objects.{origin_of, origin-leaf, segment-leaf, log-field}

-- ---- what stands in the lists
-- each item is read, or one isn't
abbrev if-all : {A : Type 0} → Bool → A → Option A
if-all b a = if b then Some a else None

module _ {B C : Type 0} (R : ℕ → Json → Type 0) (f : ℕ → Option B) (d : B) (g : Json → Option C) (h : B → C)
    (leaf : (i : ℕ) (j : Json) → R i j → option_map h (f i) ≡ g j) where
  abbrev each-in : ℕ → C
  each-in i = h (unwrap_or (f i) d)

  each-step : (x : Option B) (b : Bool) (l : List C)
      → (option_map h x >>= (λ first. if-all b l >>= (λ others. Some (first ∷ others)))) ≡ if-all (is_some x && b) (h (unwrap_or x d) ∷ l)
  each-step None b l = refl
  each-step (Some a) true l = refl
  each-step (Some a) false l = refl

  pub each-is : (is : List ℕ) (js : List Json) → Both R is js → parsed.each_as g js ≡ if-all (list_all (λ i. is_some (f i)) is) (map each-in is)
  unfolding Both parsed.each_as
  each-is [] [] b = refl
  each-is [] (j ∷ js) b = absurd b
  each-is (i ∷ is) [] b = absurd b
  each-is (i ∷ is) (j ∷ js) b =
      (λ k. sym (leaf i j b.0) k >>= (λ first. each-is is js b.1 k >>= (λ others. Some (first ∷ others))))
      ∙ each-step (f i) (list_all (λ i. is_some (f i)) is) (map each-in is)

module _ (text : List ℕ) where
  -- the source at an offset
  abbrev pub origin_at : ℕ → ParsedSource
  origin_at i = origin_of text (at.original_in text i)

  -- and those of a list, its segments, and the table
  abbrev pub origins_at : ℕ → List ParsedSource
  origins_at p = map origin_at (at.places text p)

  abbrev pub segments_at : ℕ → List Segment
  segments_at p = map (at.segment_in text) (at.places text p)

  abbrev pub table_at : Lists → Parsed
  table_at l = record { sources = origins_at l.sources; segments = segments_at l.segments; log = l.log }

  abbrev pub ListsAlike : ℕ → List Json → Type 0
  ListsAlike p js = Both (Stands 30 text) (at.places text p) js

  opened-not : (q : ℕ) → eqb (byte_at text q) 0x5b ≡ false → at.opened text q ≡ None
  unfolding at.opened
  opened-not q h = rw h

  opened-list : (q e : ℕ) (vs : Values) → ListAt 30 text q e vs → at.opened text q ≡ Some (q + 1)
  unfolding at.opened
  opened-list q e vs a = rw (eq-eqb (byte_at text q) 0x5b a.opens)

  opened-by : (q e : ℕ) (j : Json) → Meets 31 text q e j → eqb (byte_at text q) 0x5b ≡ is_some (tree.as_list j)
      → Opt ListsAlike (at.opened text q) (tree.as_list j)
  unfolding Meets tree.as_list Opt
  opened-by q e null m h = rw (opened-not q h) tt
  opened-by q e (bool x) m h = rw (opened-not q h) tt
  opened-by q e (number f) m h = rw (opened-not q h) tt
  opened-by q e (string s) m h = rw (opened-not q h) tt
  opened-by q e (list vs) m h = rw (opened-list q e vs m) (list-both 30 text q e vs m)
  opened-by q e (object ms) m h = rw (opened-not q h) tt

  list-opt : (x : Option ℕ) (y : Option Json) → Opt (Stands 31 text) x y → Opt ListsAlike (option_and_then (at.opened text) x) (option_and_then tree.as_list y)
  unfolding Opt
  list-opt None None o = tt
  list-opt None (Some j) o = absurd o
  list-opt (Some q) None o = absurd o
  list-opt (Some q) (Some j) o = opened-by q o.end j (meets 31 text q j o) (list-leaf 30 text q j o)

  each-origin : (p : ℕ) (js : List Json) → ListsAlike p js → parsed.each_as parsed.as_origin js
      ≡ if-all (at.are_sources text (at.places text p)) (origins_at p)
  each-origin p js b =
      each-is (Stands 30 text) (original_at 29 text) at.no_original parsed.as_origin (origin_of text) (origin-leaf text) (at.places text p) js b

  each-segment : (p : ℕ) (js : List Json) → ListsAlike p js → parsed.each_as parsed.as_segment js
      ≡ if-all (at.are_segments text (at.places text p)) (segments_at p)
  each-segment p js b =
      each-is (Stands 30 text) (segment_at 29 text) no_segment parsed.as_segment (λ s. s)
      (λ i j s. option_map_id (segment_at 29 text i) ∙ segment-leaf text i j s) (at.places text p) js b

  -- the lists of a table
  abbrev whole_at : Lists → Option Parsed
  whole_at l = if-all (at.are_whole text l) (table_at l)

  two-bools : (b c : Bool) (o : List ParsedSource) (s : List Segment) (z : Bool)
      → parsed.parsed_of (if-all b o) (if-all c s) (Some z) ≡ if-all (b && c) (record { sources = o; segments = s; log = z })
  unfolding parsed.parsed_of
  two-bools true true o s z = refl
  two-bools true false o s z = refl
  two-bools false c o s z = refl

  no-segments : (b : Bool) (o : List ParsedSource) (z : Option Bool) → parsed.parsed_of (if-all b o) None z ≡ None
  unfolding parsed.parsed_of
  no-segments true o z = refl
  no-segments false o z = refl

  no-log : (b c : Bool) (o : List ParsedSource) (s : List Segment) → parsed.parsed_of (if-all b o) (if-all c s) None ≡ None
  unfolding parsed.parsed_of
  no-log true true o s = refl
  no-log true false o s = refl
  no-log false c o s = refl

  no-sources : (s : Option (List Segment)) (z : Option Bool) → parsed.parsed_of None s z ≡ None
  unfolding parsed.parsed_of
  no-sources s z = refl

  lists-by : (x y : Option ℕ) (z : Option Bool)
      → parsed.parsed_of (option_and_then (λ p. if-all (at.are_sources text (at.places text p)) (origins_at p)) x)
      (option_and_then (λ p. if-all (at.are_segments text (at.places text p)) (segments_at p)) y) z
      ≡ option_and_then whole_at (at.lists_of x y z)
  unfolding at.lists_of
  lists-by None y z = no-sources _ z
  lists-by (Some p) None z = no-segments (at.are_sources text (at.places text p)) (origins_at p) z
  lists-by (Some p) (Some q) None =
      no-log (at.are_sources text (at.places text p)) (at.are_segments text (at.places text q)) (origins_at p) (segments_at q)
  lists-by (Some p) (Some q) (Some b) =
      two-bools (at.are_sources text (at.places text p)) (at.are_segments text (at.places text q)) (origins_at p) (segments_at q) b

  module _ (p : ℕ) (j : Json) (s : Stands 32 text p j) where
    pub list-field : (key : List ℕ) → Opt ListsAlike (at.list_by text (member_at 31 text p key)) (tree.list_in j key)
    list-field key = list-opt (member_at 31 text p key) (tree.member_of j key) (member-alike 31 text p j s key)

    sources-field : option_and_then (λ q. if-all (at.are_sources text (at.places text q)) (origins_at q))
        (at.list_by text (member_at 31 text p (codes "sources")))
        ≡ option_and_then (parsed.each_as parsed.as_origin) (tree.list_in j (codes "sources"))
    sources-field =
        opt-then ListsAlike (λ q. if-all (at.are_sources text (at.places text q)) (origins_at q)) (parsed.each_as parsed.as_origin)
        (λ q js b. sym (each-origin q js b))
        (at.list_by text (member_at 31 text p (codes "sources"))) (tree.list_in j (codes "sources")) (list-field (codes "sources"))

    segments-field : option_and_then (λ q. if-all (at.are_segments text (at.places text q)) (segments_at q))
        (at.list_by text (member_at 31 text p (codes "segments")))
        ≡ option_and_then (parsed.each_as parsed.as_segment) (tree.list_in j (codes "segments"))
    segments-field =
        opt-then ListsAlike (λ q. if-all (at.are_segments text (at.places text q)) (segments_at q)) (parsed.each_as parsed.as_segment)
        (λ q js b. sym (each-segment q js b))
        (at.list_by text (member_at 31 text p (codes "segments"))) (tree.list_in j (codes "segments")) (list-field (codes "segments"))

    table-is : option_and_then whole_at (at.lists_at text p) ≡ parsed.as_table j
    table-is =
        sym (lists-by (at.list_by text (member_at 31 text p (codes "sources"))) (at.list_by text (member_at 31 text p (codes "segments"))) (log_in 31 text p))
        ∙ (λ k. parsed.parsed_of (sources-field k) (segments-field k) (log-field text p j s k))

-- ---- the table in a text
-- what is staged, as a table
unfoldable pub table_by : List ℕ → Result Staged Refusal → Result Parsed Refusal
table_by text (Ok s) = Ok (table_at text s.lists)
table_by text (Err f) = Err f

table-if : (text : List ℕ) (b : Bool) (f : Refusal) (x : Result Staged Refusal) → table_by text (if b then Err f else x)
    ≡ (if b then Err f else table_by text x)
unfolding table_by
table-if text true f x = refl
table-if text false f x = refl

if-same : {A : Type 0} (b c : Bool) (f : Refusal) (x y : Result A Refusal) → b ≡ c → x ≡ y → (if b then Err f else x) ≡ (if c then Err f else y)
if-same b c f x y p q = λ k. if p k then Err f else q k

module _ (text : List ℕ) where
  limited-by : (b : Bool) (t : Parsed) → parsed.limited (if-all b t)
      ≡ (if not b then refused reason.BadMember 0 else if over_limit (length t.sources) (length t.segments) then refused reason.OverLimit 0 else Ok t)
  unfolding parsed.limited
  limited-by true t = refl
  limited-by false t = refl

  lists-is : (l : Lists) → table_by text (at_read.stage_lists text l) ≡ parsed.limited (whole_at text l)
  unfolding at_read.stage_lists table_by
  lists-is l =
      table-if text (not (at.are_whole text l)) _ _
      ∙ ap (λ x. if not (at.are_whole text l) then refused reason.BadMember 0 else x)
      (table-if text (over_limit (length (at.places text l.sources)) (length (at.places text l.segments))) _ _
      ∙ (λ k. if over_limit (sym (length-map (at.places text l.sources) (origin_at text)) k)
      (sym (length-map (at.places text l.segments) (at.segment_in text)) k) then refused reason.OverLimit 0 else Ok (table_at text l)))
      ∙ sym (limited-by (at.are_whole text l) (table_at text l))

  by-option : (x : Option Lists) → table_by text (at_read.stage_by text x) ≡ parsed.limited (option_and_then (whole_at text) x)
  unfolding at_read.stage_by parsed.limited table_by
  by-option None = refl
  by-option (Some l) = lists-is l

  abbrev staged_of : Bool → Result Staged Refusal
  staged_of repeats =
      if repeats then refused reason.RepeatedName 0
      else if not (at_read.is_one (u64_in 31 text (at.root text) (codes "version"))) then refused reason.OtherVersion 0
      else at_read.stage_by text (at.lists_at text (at.root text))

  value-is : (j : Json) (e : ℕ) → Stands 32 text (at.root text) j → table_by text (staged_of (repeats j)) ≡ parsed.valued (Some (j, e))
  unfolding parsed.valued
  value-is j e s =
      let p = at.root text in
      table-if text (repeats j) _ _
      ∙ ap (λ x. if repeats j then refused reason.RepeatedName 0 else x)
      (table-if text (not (at_read.is_one (u64_in 31 text p (codes "version")))) _ _
      ∙ if-same (not (at_read.is_one (u64_in 31 text p (codes "version")))) (not (at_read.is_one (tree.u64_in j (codes "version")))) _ _ _
      (ap (λ x. not (at_read.is_one x)) (u64-field 31 text p j s (codes "version")))
      (by-option (at.lists_at text p) ∙ ap parsed.limited (table-is text p j s)))

  pub whole-stands : (g : Got Json) (j : Json) (e : ℕ) → value_at 32 text (at.root text) ≡ g → whole_of text g ≡ Some (j, e) → Stands 32 text (at.root text) j
  unfolding whole_of and_then
  whole-stands None j e q h = no_some (j, e) h
  whole-stands (Some (v, f)) j e q h = by-test (eqb (blanks text f) (length text)) h
    where
      by-test : (b : Bool) → ◌≡◌ {A = Got Json} (if b then Some (v, f) else None) (Some (j, e)) → Stands 32 text (at.root text) j
      by-test false h = no_some (j, e) h
      by-test true h = record { end = e; read = q ∙ h }

  by-document : (g : Got Json) → document_of text ≡ g → table_by text (at_read.stage_seen text (seen_of g)) ≡ parsed.valued g
  unfolding at_read.stage_seen seen_of table_by parsed.valued
  by-document None q = refl
  by-document (Some (j, e)) q = value-is j e (whole-stands (value_at 32 text (at.root text)) j e refl q)

  pub parsing-is : (work : ℕ) → table_by text (at_read.stage_of text work) ≡ parsed.parsing text work
  unfolding at_read.stage_of parsed.parsing
  parsing-is work =
      table-if text (ltb most_text (length text)) _ _
      ∙ ap (λ x. if ltb most_text (length text) then refused reason.TextTooLong 0 else x)
      (table-if text (ltb work (at_read.work_needed (length text))) _ _
      ∙ ap (λ x. if ltb work (at_read.work_needed (length text)) then refused reason.NoRoom 1 else x) (by-document (document_of text) refl))

-- ---- the answer
-- a plan, as what is answered and written
unfoldable written_of : List ℕ → Result at_read.Planned Refusal → Result Written Refusal
written_of text (Ok p) = Ok (record {
  read = p.read;
  sources = at_read.source_words text p.lists;
  words = at_read.segment_words text p.lists;
  stamps = at_read.segment_stamps text p.lists;
  dates = at_read.date_bytes text p.lists;
})
written_of text (Err f) = Err f

-- what is staged is counted
record Counted (text : List ℕ) (s : Staged) : Type 0 where
  pub sources : s.sources ≡ length (at.places text s.lists.sources)
  pub segments : s.segments ≡ length (at.places text s.lists.segments)
  pub dates : s.dates ≡ length (at_tables.dates_in text (at.places text s.lists.sources))

unfoldable AllCounted : List ℕ → Result Staged Refusal → Type 0
AllCounted text (Ok s) = Counted text s
AllCounted text (Err f) = Unit

module _ (text : List ℕ) where
  counted-if : (b : Bool) (f : Refusal) (x : Result Staged Refusal) → AllCounted text x → AllCounted text (if b then Err f else x)
  unfolding AllCounted
  counted-if true f x c = tt
  counted-if false f x c = c

  counted-by : (x : Option Lists) → AllCounted text (at_read.stage_by text x)
  unfolding AllCounted at_read.stage_by at_read.stage_lists
  counted-by None = tt
  counted-by (Some l) =
      counted-if (not (at.are_whole text l)) _ _
      (counted-if (over_limit (length (at.places text l.sources)) (length (at.places text l.segments))) _ _
      (record { sources = refl; segments = refl; dates = refl }))

  counted-seen : (g : Got Json) → AllCounted text (at_read.stage_seen text (seen_of g))
  unfolding AllCounted at_read.stage_seen seen_of
  counted-seen None = tt
  counted-seen (Some (j, e)) =
      counted-if (repeats j) _ _
      (counted-if (not (at_read.is_one (u64_in 31 text (at.root text) (codes "version")))) _ _ (counted-by (at.lists_at text (at.root text))))

  counted : (work : ℕ) → AllCounted text (at_read.stage_of text work)
  unfolding at_read.stage_of
  counted work =
      counted-if (ltb most_text (length text)) _ _
      (counted-if (ltb work (at_read.work_needed (length text))) _ _ (counted-seen (document_of text)))

  -- the records
  bytes-by : (c : Option ℕ) → at.created_bytes text c ≡ unwrap_or (option_map (string_bytes text) c) []
  unfolding at.created_bytes
  bytes-by None = refl
  bytes-by (Some q) = refl

  date-is : (i : ℕ) → at.date_in text i ≡ by.date_of (origin_at text i)
  date-is i = bytes-by (at.original_in text i).created

  source-by : (o : Original) (dated from size : ℕ) → at_tables.source_by o dated from size ≡ by.source_with (origin_of text o) dated from size
  unfolding at_tables.source_by by.source_with
  source-by o dated from size = refl

  dated-by : (o : Original) (c : Option ℕ) (from : ℕ) → at_tables.dated_by o c from (length (at.created_bytes text c))
      ≡ by.source_dated (origin_of text o) (option_map (string_bytes text) c) from
  unfolding at_tables.dated_by by.source_dated at.created_bytes
  dated-by o None from = source-by o 0 0 0
  dated-by o (Some q) from = source-by o 1 from (length (string_bytes text q))

  source-is : (from i : ℕ) → at_tables.source_in text from i ≡ by.source_dated (origin_at text i) (origin_at text i).created from
  source-is from i = dated-by (at.original_in text i) (at.original_in text i).created from

  pub dates-are : (is : List ℕ) → at_tables.dates_in text is ≡ by.dates_of (map (origin_at text) is)
  unfolding at_tables.dates_in by.dates_of
  dates-are [] = refl
  dates-are (i ∷ is) = λ k. date-is i k ++ dates-are is k

  pub sources-are : (from : ℕ) (is : List ℕ) → at_tables.sources_in text from is ≡ by.sources_from from (map (origin_at text) is)
  unfolding at_tables.sources_in by.sources_from
  sources-are from [] = refl
  sources-are from (i ∷ is) =
      ap (λ l. at_tables.source_in text from i ∷ l) (sources-are (from + length (at.date_in text i)) is)
      ∙ (λ k. source-is from i k ∷ by.sources_from (from + length (date-is i k)) (map (origin_at text) is))

  names-are : (is : List ℕ) → at_tables.names_in text is ≡ names.name_words text (map (origin_at text) is)
  unfolding at_tables.names_in names.name_words
  names-are [] = refl
  names-are (i ∷ is) = λ k. at_tables.span_at text (at.original_in text i).name ++ names-are is k

  -- the table
  pub judged-is : (l : Lists) → at_tables.table_in text l ≡ by.table_from (table_at text l)
  judged-is l = λ k. record {
    uneven = false;
    log = l.log;
    text = dates-are (at.places text l.sources) k;
    sources = sources-are 0 (at.places text l.sources) k;
    segments = segments_at text l.segments;
  }

  module _ (s : Staged) (c : Counted text s) where
    abbrev t : Parsed
    t = table_at text s.lists

    sources-counted : s.sources ≡ length t.sources
    sources-counted = c.sources ∙ sym (length-map (at.places text s.lists.sources) (origin_at text))

    segments-counted : s.segments ≡ length t.segments
    segments-counted = c.segments ∙ sym (length-map (at.places text s.lists.segments) (at.segment_in text))

    dates-counted : s.dates ≡ length (by.dates_of t.sources)
    dates-counted = c.dates ∙ ap length (dates-are (at.places text s.lists.sources))

    short-is : (room : Room) → at_read.short s room ≡ by.short t room
    short-is room = λ k.
        (ltb room.sources (13 * sources-counted k) || ltb room.words (5 * segments-counted k))
        || (ltb room.stamps (7 * segments-counted k) || ltb room.dates (dates-counted k))

    checked-is : (r : Result ℕ Refusal) → written_of text (at_read.planned_by s r) ≡ by.checked t r
    unfolding written_of at_read.planned_by by.checked
    checked-is (Err f) = refl
    checked-is (Ok n) = λ k. Ok (record {
      read = record { frames = n; sources = sources-counted k; segments = segments-counted k; dates = dates-counted k; log = s.lists.log };
      sources = at_tables.all_sources (sources-are 0 (at.places text s.lists.sources) k);
      words = at_tables.all_words t.segments;
      stamps = at_tables.all_stamps t.segments;
      dates = dates-are (at.places text s.lists.sources) k;
    })

    judged-if : (b : Bool) (f : Refusal) (r : Result ℕ Refusal)
        → written_of text (at_read.planned_by s (if b then Err f else r)) ≡ (if b then Err f else written_of text (at_read.planned_by s r))
    unfolding written_of at_read.planned_by
    judged-if true f r = refl
    judged-if false f r = refl

    written-is : (room : Room) → written_of text (at_read.planned_by s (at_read.judged_of text room s))
        ≡ (if by.short t room then refused reason.NoRoom 0 else by.checked t (check_of (by.table_from t)))
    unfolding at_read.judged_of
    written-is room =
        judged-if (at_read.short s room) _ _
        ∙ if-same (at_read.short s room) (by.short t room) _ _ _ (short-is room)
        (ap (λ x. written_of text (at_read.planned_by s (check_of x))) (judged-is s.lists) ∙ checked-is (check_of (by.table_from t)))

    roomy-is : (n : ℕ) → table_by text (at_read.named_by n (Ok s)) ≡ names.roomy n (Ok t)
    unfolding at_read.named_by names.roomy table_by
    roomy-is n =
        table-if text (ltb n (2 * s.sources)) _ _ ∙ (λ k. if ltb n (2 * sources-counted k) then refused reason.NoRoom 0 else Ok t)

  by-staged : (room : Room) (r : Result Staged Refusal) → AllCounted text r → written_of text (at_read.plan_by text room r)
      ≡ by.written_by room (table_by text r)
  unfolding AllCounted at_read.plan_by by.written_by table_by written_of
  by-staged room (Err f) c = refl
  by-staged room (Ok s) c = written-is s c room

  reading-is : (room : Room) → written_of text (at_read.plan_of text room) ≡ by.reading text room
  reading-is room = by-staged room (at_read.stage_of text room.work) (counted room.work) ∙ ap (by.written_by room) (parsing-is text room.work)

  answer-by : (r : Result at_read.Planned Refusal) → at_read.read_of r ≡ by.answer_of (written_of text r)
  unfolding at_read.read_of by.answer_of written_of
  answer-by (Ok p) = refl
  answer-by (Err f) = refl

  sources-by : (r : Result at_read.Planned Refusal) (lent : List ℕ) → at_read.left_by r (at_read.source_words text) lent
      ≡ by.left_of (λ w. w.sources) (written_of text r) lent
  unfolding at_read.left_by by.left_of written_of
  sources-by (Ok p) lent = refl
  sources-by (Err f) lent = refl

  words-by : (r : Result at_read.Planned Refusal) (lent : List ℕ) → at_read.left_by r (at_read.segment_words text) lent
      ≡ by.left_of (λ w. w.words) (written_of text r) lent
  unfolding at_read.left_by by.left_of written_of
  words-by (Ok p) lent = refl
  words-by (Err f) lent = refl

  stamps-by : (r : Result at_read.Planned Refusal) (lent : List ℤ) → at_read.left_by r (at_read.segment_stamps text) lent
      ≡ by.left_of (λ w. w.stamps) (written_of text r) lent
  unfolding at_read.left_by by.left_of written_of
  stamps-by (Ok p) lent = refl
  stamps-by (Err f) lent = refl

  dates-by : (r : Result at_read.Planned Refusal) (lent : List ℕ) → at_read.left_by r (at_read.date_bytes text) lent
      ≡ by.left_of (λ w. w.dates) (written_of text r) lent
  unfolding at_read.left_by by.left_of written_of
  dates-by (Ok p) lent = refl
  dates-by (Err f) lent = refl

  pub answer-is : (room : Room) → at_read.read_of (at_read.plan_of text room) ≡ by.answer_of (by.reading text room)
  answer-is room = answer-by (at_read.plan_of text room) ∙ ap by.answer_of (reading-is room)

  pub sources-is : (room : Room) (lent : List ℕ) → at_read.left_by (at_read.plan_of text room) (at_read.source_words text) lent
      ≡ by.left_of (λ w. w.sources) (by.reading text room) lent
  sources-is room lent = sources-by (at_read.plan_of text room) lent ∙ ap (λ r. by.left_of (λ w. w.sources) r lent) (reading-is room)

  pub words-is : (room : Room) (lent : List ℕ) → at_read.left_by (at_read.plan_of text room) (at_read.segment_words text) lent
      ≡ by.left_of (λ w. w.words) (by.reading text room) lent
  words-is room lent = words-by (at_read.plan_of text room) lent ∙ ap (λ r. by.left_of (λ w. w.words) r lent) (reading-is room)

  pub stamps-is : (room : Room) (lent : List ℤ) → at_read.left_by (at_read.plan_of text room) (at_read.segment_stamps text) lent
      ≡ by.left_of (λ w. w.stamps) (by.reading text room) lent
  stamps-is room lent = stamps-by (at_read.plan_of text room) lent ∙ ap (λ r. by.left_of (λ w. w.stamps) r lent) (reading-is room)

  pub dates-is : (room : Room) (lent : List ℕ) → at_read.left_by (at_read.plan_of text room) (at_read.date_bytes text) lent
      ≡ by.left_of (λ w. w.dates) (by.reading text room) lent
  dates-is room lent = dates-by (at_read.plan_of text room) lent ∙ ap (λ r. by.left_of (λ w. w.dates) r lent) (reading-is room)

  -- the names
  naming-by : (n : ℕ) (r : Result Staged Refusal) → AllCounted text r → table_by text (at_read.named_by n r) ≡ names.roomy n (table_by text r)
  unfolding AllCounted at_read.named_by names.roomy table_by
  naming-by n (Err f) c = refl
  naming-by n (Ok s) c = roomy-is s c n

  naming-is : (n work : ℕ) → table_by text (at_read.names_of text n work) ≡ names.naming text n work
  naming-is n work = naming-by n (at_read.stage_of text work) (counted work) ∙ ap (names.roomy n) (parsing-is text work)

  naming-counted : (n : ℕ) (r : Result Staged Refusal) → AllCounted text r → AllCounted text (at_read.named_by n r)
  unfolding AllCounted at_read.named_by
  naming-counted n (Err f) c = tt
  naming-counted n (Ok s) c = counted-if (ltb n (2 * s.sources)) _ (Ok s) c

  named-by : (r : Result Staged Refusal) → AllCounted text r → at_read.names_read r ≡ names.named_sources (table_by text r)
  unfolding AllCounted at_read.names_read names.named_sources table_by
  named-by (Err f) c = refl
  named-by (Ok s) c = λ k. Ok (sources-counted s c k)

  names-by : (r : Result Staged Refusal) (lent : List ℕ) → at_read.names_left text r lent ≡ names.names_left text (table_by text r) lent
  unfolding at_read.names_left names.names_left table_by
  names-by (Err f) lent = refl
  names-by (Ok s) lent = ap (λ l. laid l lent) (names-are (at.places text s.lists.sources))

  pub named-is : (n work : ℕ) → at_read.names_read (at_read.names_of text n work) ≡ names.named_sources (names.naming text n work)
  named-is n work =
      named-by (at_read.names_of text n work) (naming-counted n (at_read.stage_of text work) (counted work)) ∙ ap names.named_sources (naming-is n work)

  pub names-is : (n work : ℕ) (lent : List ℕ) → at_read.names_left text (at_read.names_of text n work) lent
      ≡ names.names_left text (names.naming text n work) lent
  names-is n work lent = names-by (at_read.names_of text n work) lent ∙ ap (λ r. names.names_left text r lent) (naming-is n work)

pub ruleset readings = (answer-is, sources-is, words-is, stamps-is, dates-is)

pub ruleset namings = (named-is, names-is)
