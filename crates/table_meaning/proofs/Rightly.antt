-- What `read_table` answers is right by the conditions of specs/Grounds.antt, in testing order. Assumes nothing.
use Prim.Native.Nat.{ℕ, ◌*◌}
use mathlib.Core.Path.{◌≡◌, refl, sym, ap, ◌∙◌, subst}
use mathlib.Core.Bool.{Bool, true, false, not}
use mathlib.Core.List.{List, []}
use lib.Dec.{ltb}
use lib.ListN.{length}
use native.Mathlib.Omega.{arith}
use Rattle.std.specs.Prelude.{Option, Some, None, Result, Ok, Err, codes, if◌then◌else◌}
use Rattle.std.specs.Result.{result_and}
use Rattle.conditions.proofs.Tests.{tf}
use Rattle.refusal.specs.declared.Reason.TheVariants as reason
use Rattle.refusal.specs.declared.Reason.{Reason}
use Rattle.refusal.specs.declared.Refusal.{Refusal}
use Rattle.refusal.specs.Refusals.{refused}
use Rattle.json_tokens.specs.Text.{most_text, Got}
use Rattle.json_values.specs.Grammar.{Json, document_of}
use Rattle.json_documents.specs.Names.{repeats}
use Rattle.rules.specs.Limits.{max_sources, max_segments}
use Rattle.rules.specs.Records.{Table, frame_total}
use Rattle.rules.specs.Rules.{over_limit, refusal, check_of}
use Rattle.rules.specs.Grounds.{Rightly}
use Rattle.rules.proofs.Says.{Says, is, equal, less, either, unless}
use Rattle.rules.proofs.Conditions.{Agrees, front, right}
use Rattle.rules.proofs.Exact.{agrees}
use Rattle.table.specs.Layout.{source_words, segment_words, segment_stamps}
use Rattle.table_text.specs.declared.reader.Room.{Room}
use Rattle.table_text.specs.Read.{work_needed, is_one}
use Rattle.table_meaning.specs.Tree.{u64_in}
use Rattle.table_meaning.specs.Parsed.{Parsed, as_table, limited, valued, parsing}
use Rattle.table_meaning.specs.Answer.{table_from, dates_of, short, Written, checked, written_by, reading, answer_of}
use Rattle.table_meaning.specs.Grounds.{of_table, of_value, text_tests, parsed_total, value_total, text_total, frames_read}

-- nothing is there
nothing : {A : Type 0} → Option A → Bool
nothing None = true
nothing (Some a) = false

none-said : {A : Type 0} (o : Option A) → Says (nothing o) (o ≡ None)
unfolding nothing
none-said None = record { holds = λ e. refl; fails = λ e x. tf e }
none-said (Some a) = record { holds = λ e. tf (sym e); fails = λ e x. tf (sym (ap nothing x)) }

-- a member is whole and 1
one-said : (o : Option ℕ) → Says (is_one o) (o ≡ Some 1)
unfolding is_one
one-said None = record { holds = λ e. tf (sym e); fails = λ e x. absurd (grind arith) }
one-said (Some n) =
    record { holds = λ e. ap Some ((equal n 1).holds e); fails = λ e x. (equal n 1).fails e (ap (unwrap n) x) }
  where
    unwrap : ℕ → Option ℕ → ℕ
    unwrap d None = d
    unwrap d (Some n) = n

-- ---- the refusals alone
table_refusal : Room → Option Parsed → Result (Unit {0}) Refusal
table_refusal room None = Ok tt
table_refusal room (Some parsed) =
    if over_limit (length parsed.sources) (length parsed.segments) then refused reason.OverLimit 0
    else if short parsed room then refused reason.NoRoom 0
    else refusal (table_from parsed)

value_refusal : Room → Got Json → Result (Unit {0}) Refusal
value_refusal room None = Ok tt
value_refusal room (Some (value, end)) =
    if repeats value then refused reason.RepeatedName 0
    else if not (is_one (u64_in value (codes "version"))) then refused reason.OtherVersion 0
    else if nothing (as_table value) then refused reason.BadMember 0
    else table_refusal room (as_table value)

text_refusal : List ℕ → Room → Result (Unit {0}) Refusal
text_refusal text room =
    if ltb most_text (length text) then refused reason.TextTooLong 0
    else if ltb room.work (work_needed (length text)) then refused reason.NoRoom 1
    else if nothing (document_of text) then refused reason.NotJson 0
    else value_refusal room (document_of text)

none-refused : Agrees (Ok tt) []
unfolding Agrees
none-refused = tt

table-agrees : (room : Room) (parsed : Option Parsed) → Agrees (table_refusal room parsed) (of_table room parsed)
unfolding table_refusal
table-agrees room None = none-refused
table-agrees room (Some parsed) =
    let n = length parsed.sources in
    let m = length parsed.segments in
    let rows = either (less room.sources (source_words * n)) (less room.words (segment_words * m)) in
    let rest = either (less room.stamps (segment_stamps * m)) (less room.dates (length (dates_of parsed.sources))) in
    front reason.OverLimit 0 _ _ (either (less max_sources n) (less max_segments m))
    (front reason.NoRoom 0 _ _ (either rows rest) (agrees (table_from parsed)))

value-agrees : (room : Room) (value : Got Json) → Agrees (value_refusal room value) (of_value room value)
unfolding value_refusal
value-agrees room None = none-refused
value-agrees room (Some (value, end)) =
    front reason.RepeatedName 0 _ _ (is (repeats value))
    (front reason.OtherVersion 0 _ _ (unless (one-said (u64_in value (codes "version"))))
    (front reason.BadMember 0 _ _ (none-said (as_table value)) (table-agrees room (as_table value))))

text-agrees : (text : List ℕ) (room : Room) → Agrees (text_refusal text room) (text_tests text room)
unfolding text_refusal
text-agrees text room =
    front reason.TextTooLong 0 _ _ (less most_text (length text))
    (front reason.NoRoom 1 _ _ (less room.work (work_needed (length text)))
    (front reason.NotJson 0 _ _ (none-said (document_of text)) (value-agrees room (document_of text))))

-- ---- the answer is the refusal, or else the total
frames_of : Result Written Refusal → Result ℕ Refusal
frames_of r = frames_read (answer_of r)

check-frames : (parsed : Parsed) (r : Result ℕ Refusal) → frames_of (checked parsed r) ≡ r
unfolding frames_of answer_of checked
check-frames parsed (Ok frames) = refl
check-frames parsed (Err why) = refl

checks : (table : Table) → check_of table ≡ result_and (refusal table) (Ok (frame_total table.segments))
unfolding check_of
checks table = refl

written-step : (b : Bool) (r : Result Written Refusal) (q : Result (Unit {0}) Refusal) (total : ℕ)
    → frames_of r ≡ result_and q (Ok total)
    → frames_of (if b then refused reason.NoRoom 0 else r) ≡ result_and (if b then refused reason.NoRoom 0 else q) (Ok total)
unfolding frames_of answer_of
written-step true r q total e = refl
written-step false r q total e = e

module _ (room : Room) where
  -- of what is parsed
  framed : Result Parsed Refusal → Result ℕ Refusal
  framed parsed = frames_of (written_by room parsed)

  step : (b : Bool) (why : Reason) (i : ℕ) (p : Result Parsed Refusal) (q : Result (Unit {0}) Refusal) (total : ℕ)
      → framed p ≡ result_and q (Ok total)
      → framed (if b then refused why i else p) ≡ result_and (if b then refused why i else q) (Ok total)
  unfolding framed written_by frames_of answer_of
  step true why i p q total e = refl
  step false why i p q total e = e

  table-frames : (parsed : Option Parsed)
      → framed (limited parsed)
      ≡ result_and (if nothing parsed then refused reason.BadMember 0 else table_refusal room parsed) (Ok (parsed_total parsed))
  unfolding limited table_refusal nothing framed written_by frames_of answer_of
  table-frames None = refl
  table-frames (Some parsed) =
      step (over_limit (length parsed.sources) (length parsed.segments)) reason.OverLimit 0 (Ok parsed) _ _
      (written-step (short parsed room) (checked parsed (check_of (table_from parsed))) _ _ (check-frames parsed (check_of (table_from parsed)) ∙ checks (table_from parsed)))

  value-frames : (value : Got Json)
      → framed (valued value)
      ≡ result_and (if nothing value then refused reason.NotJson 0 else value_refusal room value) (Ok (value_total value))
  unfolding valued value_refusal nothing framed written_by frames_of answer_of
  value-frames None = refl
  value-frames (Some (value, end)) =
      step (repeats value) reason.RepeatedName 0 _ _ _
      (step (not (is_one (u64_in value (codes "version")))) reason.OtherVersion 0 _ _ _ (table-frames (as_table value)))

  text-frames : (text : List ℕ) → framed (parsing text room.work) ≡ result_and (text_refusal text room) (Ok (text_total text))
  unfolding parsing text_refusal
  text-frames text =
      step (ltb most_text (length text)) reason.TextTooLong 0 _ _ _
      (step (ltb room.work (work_needed (length text))) reason.NoRoom 1 _ _ _ (value-frames (document_of text)))

pub texts_rightly : (text : List ℕ) (room : Room)
    → Rightly (frames_read (answer_of (reading text room))) (text_tests text room) (text_total text)
unfolding framed frames_of
texts_rightly text room =
    subst (λ (r : Result ℕ Refusal). Rightly r (text_tests text room) (text_total text)) (sym (text-frames room text))
    (right (text_refusal text room) (text_tests text room) (text_total text) (text-agrees text room))
