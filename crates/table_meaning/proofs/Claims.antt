-- What is written, lent as a table, is the table that was judged; and names stand where it is said. Assumes nothing.
use Rattle.std.specs.Prelude.{Option, Some, None, if◌then◌else◌, option_map, option_and_then, codes, Result, Ok, Err}
use Rattle.std.specs.List.{AllByRecursion}
use mathlib.Core.Path.{◌≡◌, refl, sym, ap, subst, ◌∙◌}
use mathlib.Core.Bool.{Bool, true, false, not}
use mathlib.Core.List.{List, [], ◌∷◌}
use Prim.Native.Nat.{ℕ, suc, ◌+◌, ◌-◌, ◌*◌, ◌<◌}
use native.Mathlib.Omega.{arith}
use lib.ListN.{length}
use lib.Dec.{ltb}
use borrow.Author.Tests.{eq-eqb}
use Rattle.refusal.specs.declared.Refusal.{Refusal}
use Rattle.rules.specs.declared.Segment.{Segment}
use Rattle.rules.specs.Rules.{over_limit, check_of}
use Rattle.table.specs.Layout as words
use Rattle.json_tokens.specs.Text.{most_text, byte_at, Got, end_of, ◌>>=◌}
use Rattle.json_tokens.specs.Strings.{string_at, chars_at}
use Rattle.json_values.proofs.Loops.{ends_at}
use Rattle.json_values.proofs.Values.{string-long}
use Rattle.table_fields.specs.declared.sources.Rates.{Rates}
use Rattle.table_fields.specs.declared.sources.Clock.{Clock}
use Rattle.table_fields.specs.Typed.{rates_of}
use Rattle.json_values.specs.Grammar.{Json, null, bool, number, string, list, object, document_of, value_at}
use Rattle.json_fields.specs.Fields.{member_at}
use Rattle.json_documents.specs.Names.{repeats}
use Rattle.table_text.specs.declared.staging.Staged.{Staged}
use Rattle.table_text.specs.declared.reader.Room.{Room}
use Rattle.table_text.specs.Lists as at
use Rattle.table_text.specs.Tables as at_tables
use Rattle.table_text.specs.Read as at_read
use Rattle.table_text.proofs.Back.{table_back, length-sources, length-words, length-stamps}
use Rattle.json_documents.proofs.Leaves.{no_some}
use Rattle.table_meaning.specs.Tree as tree
use Rattle.table_meaning.specs.Parsed as parsed
use Rattle.table_meaning.specs.Parsed.{ParsedSource, Parsed}
use Rattle.table_meaning.specs.Answer as by
use Rattle.table_meaning.specs.Answer.{Written}
use Rattle.table_meaning.specs.Claims as claim
use Rattle.table_meaning.specs.Claims.{Accepted, NameStands}
use Rattle.table_meaning.proofs.Meets.{Meets, Stands, StringAt, meets}
use Rattle.table_meaning.proofs.Walked.{Both}
use Rattle.table_meaning.proofs.Leaves.{Opt, member-alike, place-same}
use Rattle.table_meaning.proofs.Objects.{origin-then}
use Rattle.table_meaning.proofs.Whole as whole

err-ok : {A X : Type 0} (f : Refusal) (a : A) → ◌≡◌ {A = Result A Refusal} (Err f) (Ok a) → X
err-ok f a q = let z : ◌≡◌ {A = ℕ} 0 1 = cc in absurd (omega arith)

abbrev ok_or : {A : Type 0} → A → Result A Refusal → A
ok_or d (Ok a) = a
ok_or d (Err f) = d

-- ---- what is written
module _ (text : List ℕ) (room : Room) where
  module _ (s : Staged) (q : Ok (whole.table_at text s.lists) ≡ parsed.parsing text room.work) where
    abbrev t : Parsed
    t = whole.table_at text s.lists

    abbrev written : ℕ → Written
    written n = record {
      read = record { frames = n; sources = length t.sources; segments = length t.segments; dates = length (by.dates_of t.sources); log = t.log };
      sources = at_tables.all_sources (by.sources_from 0 t.sources);
      words = at_tables.all_words t.segments;
      stamps = at_tables.all_stamps t.segments;
      dates = by.dates_of t.sources;
    }

    lent : (n : ℕ) → claim.lent_table (written n) ≡ by.table_from t
    lent n =
        let is = at.places text s.lists.sources in
        (λ k. words.table_of (at_tables.all_sources (sym (whole.sources-are text 0 is) k)) (at_tables.all_words t.segments) (at_tables.all_stamps t.segments)
        t.log (sym (whole.dates-are text is) k))
        ∙ table_back text s.lists ∙ whole.judged-is text s.lists

    counted : (from : ℕ) (os : List ParsedSource) → length (by.sources_from from os) ≡ length os
    unfolding by.sources_from
    counted from [] = refl
    counted from (o ∷ os) = ap suc (counted (from + length (by.date_of o)) os)

    accepted : (n : ℕ) → check_of (by.table_from t) ≡ Ok n → Accepted text room (written n)
    accepted n h = record {
      table = t;
      parsed = sym q;
      lent = lent n;
      check = ap check_of (lent n) ∙ h;
      sources = length-sources (by.sources_from 0 t.sources) ∙ ap (λ k. 13 * k) (counted 0 t.sources);
      words = length-words t.segments;
      stamps = length-stamps t.segments;
      dates = refl;
    }

    by-check : (w : Written) (c : Result ℕ Refusal) → check_of (by.table_from t) ≡ c → by.checked t c ≡ Ok w → Accepted text room w
    unfolding by.checked
    by-check w (Err f) e h = err-ok f w h
    by-check w (Ok n) e h = subst (λ (x : Written). Accepted text room x) (ap (ok_or (written n)) h) (accepted n e)

    by-short : (w : Written) (b : Bool) (f : Refusal) → (if b then Err f else by.checked t (check_of (by.table_from t))) ≡ Ok w → Accepted text room w
    by-short w true f h = err-ok f w h
    by-short w false f h = by-check w (check_of (by.table_from t)) refl h

  by-stage : (w : Written) (r : Result Staged Refusal) → whole.table_by text r ≡ parsed.parsing text room.work
      → by.written_by room (whole.table_by text r) ≡ Ok w → Accepted text room w
  unfolding whole.table_by by.written_by
  by-stage w (Err f) q h = err-ok f w h
  by-stage w (Ok s) q h = by-short s q w (by.short (whole.table_at text s.lists) room) _ h

pub accepted_tables : claim.WrittenTablesAreAccepted
accepted_tables text room w h =
    by-stage text room w (at_read.stage_of text room.work) (whole.parsing-is text room.work) (ap (by.written_by room) (whole.parsing-is text room.work) ∙ h)

-- ---- names
abbrev some_or : {A : Type 0} → A → Option A → A
some_or d None = d
some_or d (Some a) = a

module _ (text : List ℕ) where
  -- a string's characters, and where they stand
  chars-quote : (q e : ℕ) (s : List ℕ) → StringAt text q e s → chars_at text (q + 1) ≡ Some (s, e)
  unfolding string_at
  chars-quote q e s a = sym (rw (eq-eqb (byte_at text q) 0x22 a.opens)) ∙ a.read

  past-start : (q e : ℕ) (s : List ℕ) → StringAt text q e s → q + 1 < e
  unfolding end_of
  past-start q e s a = (ends_at (length text) (q + 1) e (string_at text q) (string-long text q) (sym (ap (λ (g : Got (List ℕ)). end_of g) a.read))).0

  string-spans : (q e : ℕ) (s : List ℕ) → StringAt text q e s → at_tables.span_at text q ≡ (q + 1) ∷ (e - (q + 2)) ∷ []
  unfolding at_tables.span_of end_of
  string-spans q e s a = rw a.read

  string-stands : (q e : ℕ) (o : ParsedSource) → o.name_at ≡ q → StringAt text q e o.name → NameStands text o
  string-stands q e o h a =
      let c = chars-quote q e o.name a in
      let l = past-start q e o.name a in
      record {
        from = q + 1;
        size = e - (q + 2);
        words = ap (at_tables.span_at text) h ∙ string-spans q e o.name a;
        characters = c ∙ ap (λ k. Some (o.name, k)) (omega arith);
      }

  -- a member that is a string
  text-meets : (left q e : ℕ) (o : ParsedSource) (j : Json) → Meets left text q e j → o.name_at ≡ q → tree.as_text j ≡ Some o.name → NameStands text o
  unfolding Meets tree.as_text
  text-meets left q e o (string s) m h k = string-stands q e o h (subst (λ (x : List ℕ). StringAt text q e x) (ap (some_or s) k) m)
  text-meets left q e o null m h k = no_some o.name k
  text-meets left q e o (bool b) m h k = no_some o.name k
  text-meets left q e o (number f) m h k = no_some o.name k
  text-meets left q e o (list vs) m h k = no_some o.name k
  text-meets left q e o (object ms) m h k = no_some o.name k

  name-member : (left : ℕ) (x : Option ℕ) (y : Option Json) (o : ParsedSource) → Opt (Stands left text) x y → x ≡ Some o.name_at
      → option_and_then tree.as_text y ≡ Some o.name → NameStands text o
  unfolding Opt
  name-member left None y o s h k = no_some o.name_at h
  name-member left (Some q) None o s h k = absurd s
  name-member left (Some q) (Some j) o s h k = text-meets left q s.end o j (meets left text q j s) (sym (ap (some_or q) h)) k

  -- a source
  name-in : (a : Option ℕ) (n : Option (List ℕ)) (f : Option ℕ) (r : Option Rates) (c : Option (Option (List ℕ))) (k : Option Clock)
      (imu : Option ℕ) (o : ParsedSource)
      → (a >>= (λ q. n >>= (λ s. origin-then f r c k imu q s))) ≡ Some o → (a ≡ Some o.name_at) × (n ≡ Some o.name)
  name-in None n f r c k imu o h = no_some o h
  name-in (Some q) None f r c k imu o h = no_some o h
  name-in (Some q) (Some s) None r c k imu o h = no_some o h
  name-in (Some q) (Some s) (Some z) None c k imu o h = no_some o h
  name-in (Some q) (Some s) (Some z) (Some y) None k imu o h = no_some o h
  name-in (Some q) (Some s) (Some z) (Some y) (Some x) None imu o h = no_some o h
  name-in (Some q) (Some s) (Some z) (Some y) (Some x) (Some w) imu o h =
      (ap (option_map (λ (l : ParsedSource). l.name_at)) h, ap (option_map (λ (l : ParsedSource). l.name)) h)

  origin-stands : (p : ℕ) (j : Json) → Stands 30 text p j → (o : ParsedSource) → parsed.as_origin j ≡ Some o → NameStands text o
  unfolding parsed.as_origin
  origin-stands p j s o h =
      let n = name-in (tree.place_in j (codes "name")) (tree.characters_in j (codes "name")) (tree.u64_in j (codes "size"))
      (rates_of (tree.u64_in j) (tree.pair_in j (codes "fps")))
      (option_and_then parsed.as_created (tree.member_of j (codes "creation_time")))
      (option_and_then parsed.as_clock (tree.member_of j (codes "clock")))
      (tree.u64_in j (codes "zcam_imu_origin_us")) o h in
      name-member 29 (member_at 29 text p (codes "name")) (tree.member_of j (codes "name")) o (member-alike 29 text p j s (codes "name"))
      (place-same 29 text p j s (codes "name") ∙ n.0) n.1

  -- a list of them
  abbrev AllStand : List ParsedSource → Type 0
  AllStand = AllByRecursion (NameStands text)

  each-step : (x : Option ParsedSource) (y : Option (List ParsedSource)) (os : List ParsedSource) → (x >>= (λ first. y >>= (λ others. Some (first ∷ others)))) ≡ Some os
      → ((o : ParsedSource) → x ≡ Some o → NameStands text o) → ((l : List ParsedSource) → y ≡ Some l → AllStand l) → AllStand os
  each-step None y os h a b = no_some os h
  each-step (Some o) None os h a b = no_some os h
  each-step (Some o) (Some l) os h a b = subst AllStand (ap (some_or (o ∷ l)) h) (a o refl, b l refl)

  each-stands : (is : List ℕ) (js : List Json) (os : List ParsedSource) → Both (Stands 30 text) is js → parsed.each_as parsed.as_origin js ≡ Some os → AllStand os
  unfolding Both parsed.each_as
  each-stands [] [] os b h = subst AllStand (ap (some_or []) h) tt
  each-stands [] (j ∷ js) os b h = absurd b
  each-stands (i ∷ is) [] os b h = absurd b
  each-stands (i ∷ is) (j ∷ js) os b h =
      each-step (parsed.as_origin j) (parsed.each_as parsed.as_origin js) os h (λ o e. origin-stands i j b.0 o e) (λ l e. each-stands is js l b.1 e)

  list-stands : (x : Option ℕ) (y : Option (List Json)) (os : List ParsedSource) → Opt (whole.ListsAlike text) x y
      → option_and_then (parsed.each_as parsed.as_origin) y ≡ Some os → AllStand os
  unfolding Opt
  list-stands None None os b h = no_some os h
  list-stands None (Some js) os b h = absurd b
  list-stands (Some p) None os b h = absurd b
  list-stands (Some p) (Some js) os b h = each-stands (at.places text p) js os b h

  -- the table
  sources-in : (a : Option (List ParsedSource)) (b : Option (List Segment)) (c : Option Bool) (t : Parsed) → parsed.parsed_of a b c ≡ Some t → a ≡ Some t.sources
  unfolding parsed.parsed_of
  sources-in None b c t h = no_some t h
  sources-in (Some l) None c t h = no_some t h
  sources-in (Some l) (Some k) None t h = no_some t h
  sources-in (Some l) (Some k) (Some z) t h = ap (option_map (λ (x : Parsed). x.sources)) h

  table-stands : (p : ℕ) (j : Json) → Stands 32 text p j → (t : Parsed) → parsed.as_table j ≡ Some t → AllStand t.sources
  table-stands p j s t h =
      list-stands (at.list_by text (member_at 31 text p (codes "sources"))) (tree.list_in j (codes "sources")) t.sources
      (whole.list-field text p j s (codes "sources"))
      (sources-in (option_and_then (parsed.each_as parsed.as_origin) (tree.list_in j (codes "sources")))
      (option_and_then (parsed.each_as parsed.as_segment) (tree.list_in j (codes "segments")))
      (parsed.as_log (tree.member_of j (codes "telemetry_log"))) t h)

  -- it is not refused
  accepted-if : {A : Type 0} (b : Bool) (f : Refusal) (x : Result A Refusal) (a : A) → (if b then Err f else x) ≡ Ok a → x ≡ Ok a
  accepted-if true f x a h = err-ok f a h
  accepted-if false f x a h = h

  limited-in : (x : Option Parsed) (t : Parsed) → parsed.limited x ≡ Ok t → x ≡ Some t
  unfolding parsed.limited
  limited-in None t h = err-ok _ t h
  limited-in (Some y) t h = ap (λ z. Some (ok_or y z)) (accepted-if (over_limit (length y.sources) (length y.segments)) _ (Ok y) t h)

  document-stands : (g : Got Json) → document_of text ≡ g → (t : Parsed) → parsed.valued g ≡ Ok t → AllStand t.sources
  unfolding parsed.valued
  document-stands None q t h = err-ok _ t h
  document-stands (Some (j, e)) q t h =
      table-stands (at.root text) j (whole.whole-stands text (value_at 32 text (at.root text)) j e refl q) t
      (limited-in (parsed.as_table j) t
      (accepted-if (not (at_read.is_one (tree.u64_in j (codes "version")))) _ (parsed.limited (parsed.as_table j)) t (accepted-if (repeats j) _ _ t h)))

pub names_stand : claim.NamesStandInTheirText
unfolding parsed.parsing
names_stand text work t h =
    document-stands text (document_of text) refl t
    (accepted-if text (ltb work (at_read.work_needed (length text))) _ (parsed.valued (document_of text)) t
    (accepted-if text (ltb most_text (length text)) _ _ t h))
