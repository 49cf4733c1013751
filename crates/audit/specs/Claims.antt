-- WHAT IS CLAIMED OF THE PUBLIC CALLS. `Claims` is the contract of `all_claims_hold`, in src/lib.rt, so the check
-- proves every line. A call's name with a capital (`Check`, `Cut`, `Origin`) is its promise, quoted from the source by
-- Calls.antt, in plain lists: the call with these arguments may answer so and leave the lent slices so. What holds of
-- all such answers holds of every run: that a call asks nothing, and that its run keeps the promise as it is quoted,
-- are the contracts of src/library.rt and src/exports.rt, a function for each call. No proof need be read.
-- Letters: l, m a lent table (`Lent`); u, s a map's words and shifts, v, t a second map's; ou, os room for rows, and
-- pu, ps and qu, qs likewise; a, b, c, d a range's ends; f a frame, fs frames; i, k, n an index or a count; N a frame
-- total; b lent bytes; rs records; r, q answers; where a claim has another use of one, the claim's type says which. A
-- primed name is what a slice or a word holds afterwards.
use Rattle.std.specs.Prelude.{ℕ, ◌+◌, ◌-◌, ◌*◌, ◌≤◌, ◌<◌, Bool, true, false, List, [], ◌↔◌, ◌≡◌, ℤ, neg_ℤ, length, get_or, take, drop, Result, Ok}
use Rattle.std.specs.List.{AllByRecursion}
use Rattle.std.specs.Borrow.{Bor}
use Rattle.std.specs.Result.{result_ok}
use Rattle.refusal.specs.declared.Reason.{Reason}
use Rattle.refusal.specs.declared.Reason.TheVariants as reason
use Rattle.refusal.specs.declared.Refusal.{Refusal}
use Rattle.refusal.specs.Reasons.{number}
use Rattle.refusal.specs.Refusals.{refused}
use Rattle.signed.specs.Rounded.{nearest, rounded}
use Rattle.utc.specs.Utc.{utc_second}
use Rattle.ticks.specs.declared.FrameTimes.{FrameTimes}
use Rattle.ticks.specs.Ticks.{ticks_to_us}
use Rattle.order.specs.Order.{sorted, count_of, Asc, MostFrequent, mode}
use Rattle.rows.specs.declared.Origin.{Origin}
use Rattle.rows.specs.Rows.{total, origin_in}
use Rattle.rows.specs.Demands.{Tiles, Demands}
use Rattle.rules.specs.Records.{segment}
use Rattle.rules.specs.Records as records
use Rattle.rules.specs.Rules.{check_of}
use Rattle.rules.specs.Grounds.{tests, Rightly}
use Rattle.rules.specs.Absent.{stripped, unread}
use Rattle.rules.specs.Lookups.{segment_of_frame, segment_of_time, continues_at}
use Rattle.table.specs.Layout.{Uneven}
use Rattle.table_rows.specs.Rows.{row_of, rows_of, Rowed}
use Rattle.lookups.specs.Indices.{Indexing}
use Rattle.judge.specs.declared.Video.{Video}
use Rattle.judge.specs.declared.Video.TheVariants.{Nothing, Constant, Times as TimesOf}
use Rattle.judge.specs.Video.{shown_by}
use Rattle.judge.specs.Judge.{validate_of, Settled}
use Rattle.judge.specs.Grounds.{validate_tests, mcraw_tests}
use Rattle.records.specs.declared.TrimSegment.{TrimSegment}
use Rattle.differ.specs.Differ.{Differing}
use Rattle.stops.specs.Stops.{Stopping, Dividing}
use Rattle.modes.specs.Modes.{ctts_of, NoTopBit}
use Rattle.maps.specs.Answers as maps
use Rattle.maps.specs.Laws as laws
use Rattle.maps.specs.Origins as origin-laws
use Rattle.cuts.specs.Answers as cuts
use Rattle.cuts.specs.Laws as cut-laws
use Rattle.boxes.specs.declared.BoxSize.{BoxSize}
use Rattle.boxes.specs.declared.BoxAt.{BoxAt}
use Rattle.boxes.specs.declared.Place.{Place}
use Rattle.boxes.specs.Boxes.{box_size, children_at}
use Rattle.boxes.specs.Boxes as boxes
use Rattle.boxes.specs.Places.{PartAt, child_place, find_box_place, table_text_place}
use Rattle.frame_times.specs.Times as frames
use Rattle.mcraw.specs.Mcraw.{McrawAnswers}
use Rattle.json_strings.specs.Reading.{StringInto}
use Rattle.table_text.specs.declared.reader.Read.{Read}
use Rattle.table_meaning.specs.Answer.{Reads, room_of}
use Rattle.table_meaning.specs.Names.{NamesRead}
use Rattle.table_meaning.specs.Claims.{NamesStandInTheirText}
use Rattle.table_meaning.specs.Grounds.{text_tests, text_total, frames_read}
use Rattle.told.specs.declared.texts.TableRead.{TableRead}
use Rattle.told.specs.Told.{told, itself, yes_or_no, unsaid, size_words, box_words, place_words, origin_words, times_words, read_words}
use Rattle.audit.specs.Promise.{OneAnswer}
use Rattle.audit.specs.Calls as calls
use Rattle.audit.specs.Face as face
use Rattle.audit.specs.Words.{Lent, table, on, Tells, Check, SegmentOfFrame, SegmentOfTimeUs, Continues, RowsOfTable, SegmentsOfFrames, Validate, CheckMcraw, in_words, map_written}
use Rattle.audit.specs.Examples.{Holds, examples}

-- 1. ONE ANSWER. Whatever a public call's arguments, exactly one result, with exactly one content of each lent slice,
-- meets its promise. (RULES 13.1 and 13.4, and the auditor's second question.) 2, that it asks nothing of them, and
-- ends so, is the contract of the function of its name in src/library.rt.
pub record Answers : Type 0 where
  pub ticks-to-us : OneAnswer calls.ticks-to-us
  pub is-utc-second : OneAnswer calls.is-utc-second
  pub check : OneAnswer calls.check
  pub segment-of-frame : OneAnswer calls.segment-of-frame
  pub segment-of-time-us : OneAnswer calls.segment-of-time-us
  pub continues : OneAnswer calls.continues
  pub rows-of-table : OneAnswer calls.rows-of-table
  pub segments-of-frames : OneAnswer calls.segments-of-frames
  pub validate : OneAnswer calls.validate
  pub check-mcraw : OneAnswer calls.check-mcraw
  pub box-size : OneAnswer calls.box-size
  pub children : OneAnswer calls.children
  pub child-place : OneAnswer calls.child-place
  pub find-box-place : OneAnswer calls.find-box-place
  pub table-text-place : OneAnswer calls.table-text-place
  pub video-frame-times-of-moov : OneAnswer calls.video-frame-times-of-moov
  pub mcraw-times : OneAnswer calls.mcraw-times
  pub cut : OneAnswer calls.cut
  pub cuts : OneAnswer calls.cuts
  pub join : OneAnswer calls.join
  pub merge : OneAnswer calls.merge
  pub origin : OneAnswer calls.origin
  pub origins : OneAnswer calls.origins
  pub segment-of-frame-records : OneAnswer calls.segment-of-frame-records
  pub read-table : OneAnswer calls.read-table
  pub source-names : OneAnswer calls.source-names
  pub string-into : OneAnswer calls.string-into
  -- A part of the caller's own bytes: its bytes and its address, which is all that a shared reference is.
  pub child : OneAnswer calls.child
  pub find-box : OneAnswer calls.find-box
  pub table-text : OneAnswer calls.table-text

-- THE C FACE: of each exported call too exactly one answer meets the promise: the number that it returns, and what each
-- word and each slice that is lent holds afterwards. (RULES 13.4.) That they ask nothing and end so: src/exports.rt.
pub record Face : Type 0 where
  pub st-check : OneAnswer face.st-check
  pub st-segment-of-frame : OneAnswer face.st-segment-of-frame
  pub st-segment-of-time-us : OneAnswer face.st-segment-of-time-us
  pub st-continues : OneAnswer face.st-continues
  pub st-rows-of-table : OneAnswer face.st-rows-of-table
  pub st-segments-of-frames : OneAnswer face.st-segments-of-frames
  pub st-validate-no-video : OneAnswer face.st-validate-no-video
  pub st-validate-constant : OneAnswer face.st-validate-constant
  pub st-validate-times : OneAnswer face.st-validate-times
  pub st-check-mcraw : OneAnswer face.st-check-mcraw
  pub st-segment-of-frame-records : OneAnswer face.st-segment-of-frame-records
  pub st-cut : OneAnswer face.st-cut
  pub st-cuts : OneAnswer face.st-cuts
  pub st-join : OneAnswer face.st-join
  pub st-merge : OneAnswer face.st-merge
  pub st-origin : OneAnswer face.st-origin
  pub st-origins : OneAnswer face.st-origins
  pub st-box-size : OneAnswer face.st-box-size
  pub st-children : OneAnswer face.st-children
  pub st-child : OneAnswer face.st-child
  pub st-find-box : OneAnswer face.st-find-box
  pub st-table-text : OneAnswer face.st-table-text
  pub st-video-frame-times-of-moov : OneAnswer face.st-video-frame-times-of-moov
  pub st-mcraw-times : OneAnswer face.st-mcraw-times
  pub st-read-table : OneAnswer face.st-read-table
  pub st-source-names : OneAnswer face.st-source-names
  pub st-json-string : OneAnswer face.st-json-string
  pub st-is-utc-second : OneAnswer face.st-is-utc-second
  pub st-ticks-to-us : OneAnswer face.st-ticks-to-us

-- WHICH ANSWER EACH EXPORT GIVES: the call of the library that it is for answers something, and leaves the lent slices
-- so; of that answer the number that is returned and the words that are written are told (told/specs/Told.antt; a
-- primed name is what a word or slice holds afterwards). So all that is claimed of the calls holds in C. (RULES 13.1
-- and 13.2.)
pub record Telling : Type 0 where
  pub st-check : (l : Lent) (frames index r frames' index' : ℕ)
      → on face.StCheck l frames index r frames' index'
      ↔ Tells (Check l) (λ c. (r, frames', index') ≡ told itself c frames)
  pub st-segment-of-frame : (l : Lent) (f segment index r segment' index' : ℕ)
      → on face.StSegmentOfFrame l f segment index r segment' index'
      ↔ Tells (SegmentOfFrame l f) (λ c. (r, segment', index') ≡ told itself c segment)
  pub st-segment-of-time-us : (l : Lent) (t : ℤ) (segment index r segment' index' : ℕ)
      → on face.StSegmentOfTimeUs l t segment index r segment' index'
      ↔ Tells (SegmentOfTimeUs l t) (λ c. (r, segment', index') ≡ told itself c segment)
  pub st-continues : (l : Lent) (k answer index r answer' index' : ℕ)
      → on face.StContinues l k answer index r answer' index'
      ↔ Tells (Continues l k) (λ c. (r, answer', index') ≡ told yes_or_no c answer)
  pub st-rows-of-table : (l : Lent) (ou ou' : List ℕ) (os os' : List ℤ) (rows index r rows' index' : ℕ)
      → on face.StRowsOfTable l ou os rows index r ou' os' rows' index'
      ↔ Tells (λ c. RowsOfTable l ou os c ou' os') (λ c. (r, rows', index') ≡ told itself c rows)
  pub st-segments-of-frames : (l : Lent) (fs out out' : List ℕ) (written index r written' index' : ℕ)
      → on face.StSegmentsOfFrames l fs out written index r out' written' index'
      ↔ Tells (λ c. SegmentsOfFrames l fs out c out') (λ c. (r, written', index') ≡ told itself c written)
  pub st-validate-no-video : (l : Lent) (index r index' : ℕ)
      → on face.StValidateNoVideo l index r index'
      ↔ Tells (Validate l Nothing []) (λ c. (r, tt, index') ≡ told unsaid c tt)
  pub st-validate-constant : (l : Lent) (count numerator denominator frames index r frames' index' : ℕ)
      → on face.StValidateConstant l count numerator denominator frames index r frames' index'
      ↔ Tells (Validate l (Constant count numerator denominator) []) (λ c. (r, frames', index') ≡ told itself c frames)
  pub st-validate-times : (l : Lent) (scale : ℕ) (starts : List ℤ) (end nominal : ℤ) (frames index r frames' index' : ℕ)
      → on face.StValidateTimes l scale starts end nominal frames index r frames' index'
      ↔ Tells (Validate l (TimesOf scale end nominal) starts) (λ c. (r, frames', index') ≡ told itself c frames)
  pub st-check-mcraw : (l : Lent) (timestamps a b a' b' : List ℤ) (frames index r frames' index' : ℕ)
      → on face.StCheckMcraw l timestamps a b frames index r a' b' frames' index'
      ↔ Tells (λ c. CheckMcraw l timestamps a b c a' b') (λ c. (r, frames', index') ≡ told itself c frames)
  pub st-segment-of-frame-records :
      (sources text : List ℕ) (rs : List TrimSegment) (log : Bool) (f segment index r segment' index' : ℕ)
      → face.StSegmentOfFrameRecords sources text rs log f segment index r segment' index'
      ↔ Tells (calls.SegmentOfFrameRecords sources text rs log f) (λ c. (r, segment', index') ≡ told itself c segment)
  pub st-cut : (u : List ℕ) (s : List ℤ) (a b : ℕ) (ou ou' : List ℕ) (os os' : List ℤ) (rows index r rows' index' : ℕ)
      → face.StCut u s a b ou os rows index r ou' os' rows' index'
      ↔ Tells (λ c. calls.Cut u s a b ou os c ou' os') (λ c. (r, rows', index') ≡ told itself c rows)
  pub st-cuts : (u ranges : List ℕ) (s : List ℤ) (ou ou' : List ℕ) (os os' : List ℤ) (counts counts' : List ℕ)
      (rows index r rows' index' : ℕ)
      → face.StCuts u s ranges ou os counts rows index r ou' os' counts' rows' index'
      ↔ Tells (λ c. calls.Cuts u s ranges ou os counts c ou' os' counts') (λ c. (r, rows', index') ≡ told itself c rows)
  pub st-join : (u v : List ℕ) (s t : List ℤ) (ou ou' : List ℕ) (os os' : List ℤ) (rows index r rows' index' : ℕ)
      → face.StJoin u s v t ou os rows index r ou' os' rows' index'
      ↔ Tells (λ c. calls.Join u s v t ou os c ou' os') (λ c. (r, rows', index') ≡ told itself c rows)
  pub st-merge : (u : List ℕ) (s : List ℤ) (ou ou' : List ℕ) (os os' : List ℤ) (rows index r rows' index' : ℕ)
      → face.StMerge u s ou os rows index r ou' os' rows' index'
      ↔ Tells (λ c. calls.Merge u s ou os c ou' os') (λ c. (r, rows', index') ≡ told itself c rows)
  pub st-origin : (u : List ℕ) (s : List ℤ) (k source frame flag : ℕ) (shift : ℤ) (index r source' frame' flag' : ℕ)
      (shift' : ℤ) (index' : ℕ)
      → face.StOrigin u s k source frame flag shift index r source' frame' flag' shift' index'
      ↔ Tells (calls.Origin u s k)
      (λ c. (r, (source', frame', flag', shift'), index') ≡ told origin_words c (source, frame, flag, shift))
  pub st-origins : (u : List ℕ) (s : List ℤ) (fs : List ℕ) (out out' : List Origin) (written index r written' index' : ℕ)
      → face.StOrigins u s fs out written index r out' written' index'
      ↔ Tells (λ c. calls.Origins u s fs out c out') (λ c. (r, written', index') ≡ told itself c written)
  pub st-box-size : (b : List ℕ) (remaining size header index r size' header' index' : ℕ)
      → face.StBoxSize b remaining size header index r size' header' index'
      ↔ Tells (calls.BoxSize b remaining) (λ c. (r, (size', header'), index') ≡ told size_words c (size, header))
  pub st-children : (b : List ℕ) (at kind start length next index r kind' start' length' next' index' : ℕ)
      → face.StChildren b at kind start length next index r kind' start' length' next' index'
      ↔ Tells (calls.Children b at)
      (λ c. (r, (kind', start', length', next'), index') ≡ told box_words c (kind, start, length, next))
  pub st-child : (b : List ℕ) (kind start length index r start' length' index' : ℕ)
      → face.StChild b kind start length index r start' length' index'
      ↔ Tells (calls.ChildPlace b kind) (λ c. (r, (start', length'), index') ≡ told place_words c (start, length))
  pub st-find-box : (b : List ℕ) (from to kind : ℕ) (text : Bool) (start length index r start' length' index' : ℕ)
      → face.StFindBox b from to kind text start length index r start' length' index'
      ↔ Tells (calls.FindBoxPlace b from to kind text)
      (λ c. (r, (start', length'), index') ≡ told place_words c (start, length))
  pub st-table-text : (b : List ℕ) (start length index r start' length' index' : ℕ)
      → face.StTableText b start length index r start' length' index'
      ↔ Tells (calls.TableTextPlace b) (λ c. (r, (start', length'), index') ≡ told place_words c (start, length))
  pub st-video-frame-times-of-moov : (moov : List ℕ) (standard : Bool) (starts a b starts' a' b' : List ℤ)
      (frames scale : ℕ) (nominal end : ℤ) (index r frames' scale' : ℕ) (nominal' end' : ℤ) (index' : ℕ)
      → face.StVideoFrameTimesOfMoov moov standard starts a b frames scale nominal end index r
      starts' a' b' frames' scale' nominal' end' index'
      ↔ Tells (λ c. calls.VideoFrameTimesOfMoov moov standard starts a b c starts' a' b')
      (λ c. (r, (frames', scale', nominal', end'), index') ≡ told times_words c (frames, scale, nominal, end))
  pub st-mcraw-times : (timestamps starts work starts' work' : List ℤ) (frames scale : ℕ) (nominal end : ℤ)
      (index r frames' scale' : ℕ) (nominal' end' : ℤ) (index' : ℕ)
      → face.StMcrawTimes timestamps starts work frames scale nominal end index r
      starts' work' frames' scale' nominal' end' index'
      ↔ Tells (λ c. calls.McrawTimes timestamps starts work c starts' work')
      (λ c. (r, (frames', scale', nominal', end'), index') ≡ told times_words c (frames, scale, nominal, end))
  pub st-read-table : (text sources words : List ℕ) (stamps : List ℤ) (dates work sources' words' : List ℕ)
      (stamps' : List ℤ) (dates' work' : List ℕ) (read : TableRead) (index r : ℕ) (read' : TableRead) (index' : ℕ)
      → face.StReadTable text sources words stamps dates work read index r
      sources' words' stamps' dates' work' read' index'
      ↔ Tells (λ c. calls.ReadTable text sources words stamps dates work c sources' words' stamps' dates' work')
      (λ c. (r, read', index') ≡ told read_words c read)
  pub st-source-names : (text names work names' work' : List ℕ) (count index r count' index' : ℕ)
      → face.StSourceNames text names work count index r names' work' count' index'
      ↔ Tells (λ c. calls.SourceNames text names work c names' work') (λ c. (r, count', index') ≡ told itself c count)
  pub st-json-string : (text : List ℕ) (at : ℕ) (out out' : List ℕ) (length index r length' index' : ℕ)
      → face.StJsonString text at out length index r out' length' index'
      ↔ Tells (λ c. calls.StringInto text at out c out') (λ c. (r, length', index') ≡ told itself c length)
  pub st-is-utc-second : (b : List ℕ) (r : Bool) → face.StIsUtcSecond b r ↔ calls.IsUtcSecond b r
  pub st-ticks-to-us : (t : ℤ) (scale : ℕ) (us : ℤ) (index r : ℕ) (us' : ℤ) (index' : ℕ)
      → face.StTicksToUs t scale us index r us' index'
      ↔ Tells (calls.TicksToUs t scale) (λ c. (r, us', index') ≡ told itself c us)

-- A NUMBER SAYS WHICH REFUSAL IT IS: each reason has one of its own, and none has 0, which is told of an answer. (RULES
-- 2.4; refusal/specs/Reasons.antt has each reason's number.)
pub record Numbers : Type 0 where
  pub own : (a b : Reason) → number a ≡ number b → a ≡ b
  pub above : (a : Reason) → 0 < number a

-- 3. AN ACCEPTED TABLE'S ROWS TILE ITS FRAMES, AND EACH FRAME HAS ONE ORIGIN. (RULES 13.3, and the auditor's first two
-- questions.)
pub record Origins : Type 0 where
  -- The rows of an accepted table are written wherever there is room for one a segment.
  pub written_out : (l : Lent) (N : ℕ) (ou ou' : List ℕ) (os os' : List ℤ) (r : Result ℕ Refusal)
      → Check l (Ok N) → 5 * length (table l).segments ≤ length ou → length (table l).segments ≤ length os
      → RowsOfTable l ou os r ou' os' → r ≡ Ok (length (table l).segments)
  -- What is written is a map that cut, join, merge and origin take (`Wrote`, in maps/specs/Laws.antt), one row a
  -- segment. Its rows tile the frames 0..N: each begins where the one before it ends, has frames, and together they
  -- have N.
  pub tiles : (l : Lent) (N k : ℕ) (ou ou' : List ℕ) (os os' : List ℤ)
      → Check l (Ok N) → RowsOfTable l ou os (Ok k) ou' os'
      → laws.Wrote k ou' os' (rows_of (table l)) × Tiles 0 (map_written k ou' os') × (total (map_written k ou' os') ≡ N)
  -- Each frame below N lies in one row and no other, of which `origin` answers source, source frame, flag and shift;
  -- any other frame is 54.
  pub one : (l : Lent) (N k f : ℕ) (ou ou' : List ℕ) (os os' : List ℤ) (r : Result Origin Refusal)
      → Check l (Ok N) → RowsOfTable l ou os (Ok k) ou' os' → calls.Origin (take (5 * k) ou') (take k os') f r
      → (f < N → laws.TracedTo (take (5 * k) ou') (take k os') f r) × (N ≤ f → r ≡ refused reason.PastMap 0)
  -- It is the frame of the segment that `segment_of_frame` answers: its source, and as many frames after its first
  -- source frame as f is after its first output frame.
  pub agree : (l : Lent) (N k f i : ℕ) (ou ou' : List ℕ) (os os' : List ℤ) (r : Result Origin Refusal)
      → Check l (Ok N) → RowsOfTable l ou os (Ok k) ou' os' → f < N → SegmentOfFrame l f (Ok i)
      → calls.Origin (take (5 * k) ou') (take k os') f r
      → (i < length (table l).segments) × (r ≡ Ok (origin_in (row_of (segment (table l) i)) f))
  -- THE AUDITOR'S QUESTION: a table's rows, cut a..b, and that cut c..d. Behind frame f of it lies the frame that the
  -- table's segment of frame a + (c + f) gives.
  pub twice : (l : Lent) (N k m n a b c d f i : ℕ) (ou ou' pu pu' qu qu' : List ℕ) (os os' ps ps' qs qs' : List ℤ)
      (r : Result Origin Refusal)
      → Check l (Ok N) → RowsOfTable l ou os (Ok k) ou' os'
      → calls.Cut (take (5 * k) ou') (take k os') a b pu ps (Ok m) pu' ps'
      → calls.Cut (take (5 * m) pu') (take m ps') c d qu qs (Ok n) qu' qs'
      → f < d - c → SegmentOfFrame l (a + (c + f)) (Ok i) → calls.Origin (take (5 * n) qu') (take n qs') f r
      → (i < length (table l).segments) × (r ≡ Ok (origin_in (row_of (segment (table l) i)) (a + (c + f))))

-- 5. A REFUSAL IS RIGHT. Whatever is lent, `check` refuses for a reason at i exactly when that reason's condition in
-- the rules holds there and none that is tested before it does, and accepts with N exactly when none holds and the
-- segments have N frames. So do `validate` and `check_mcraw`, whose conditions are those of `check` and then those of
-- the video or recording. (RULES 2.1, 3 and 6, and the auditor's third question; `Rightly`, in
-- rules/specs/Grounds.antt, says it; that file and judge/specs/Grounds.antt have the conditions in the rules' words.)
pub record Refusals : Type 0 where
  pub check : (l : Lent) (r : Result ℕ Refusal) → Check l r
      → Rightly r (tests (table l)) (records.frame_total (table l).segments)
  pub validate : (l : Lent) (video : Video) (starts : List ℤ) (r : Result ℕ Refusal) → Validate l video starts r
      → Rightly r (validate_tests (table l) video starts) (records.frame_total (table l).segments)
  pub check-mcraw : (l : Lent) (timestamps a b a' b' : List ℤ) (r : Result ℕ Refusal)
      → CheckMcraw l timestamps a b r a' b'
      → Rightly r (mcraw_tests (table l) timestamps (length a) (length b)) (records.frame_total (table l).segments)
  -- Of condition 1, what `uneven` is of the lent words: a length that is no multiple of its record's, or segment slices
  -- that disagree.
  pub uneven : (l : Lent) → ((table l).uneven ≡ true) ↔ Uneven (length l.sources) (length l.words) (length l.stamps)

-- 6. WHAT EACH ANSWER IS: the promise is this equation with the definition of the rules, no more and no less. Sizes and
-- boxes are those of ISO/IEC 14496-12 (boxes/specs/Boxes.antt). (RULES 13.2.)
pub record Meanings : Type 0 where
  pub ticks-to-us : (t : ℤ) (scale : ℕ) (r : Result ℤ Refusal) → calls.TicksToUs t scale r ↔ (r ≡ ticks_to_us t scale)
  pub is-utc-second : (b : List ℕ) (r : Bool) → calls.IsUtcSecond b r ↔ (r ≡ utc_second b)
  -- A name for `check`'s answer, which other definitions cite. What that answer is `Refusals.check` says, by conditions
  -- that don't cite `check_of`: of a `check_of` that computed anything else that claim would be false. So it isn't
  -- circular that `check` promises what `check_of` computes. So too of `validate` and `check-mcraw`.
  pub check : (l : Lent) (r : Result ℕ Refusal) → Check l r ↔ (r ≡ check_of (table l))
  pub segment-of-frame : (l : Lent) (f : ℕ) (r : Result ℕ Refusal)
      → SegmentOfFrame l f r ↔ (r ≡ segment_of_frame (table l) f)
  pub segment-of-time-us : (l : Lent) (t : ℤ) (r : Result ℕ Refusal)
      → SegmentOfTimeUs l t r ↔ (r ≡ segment_of_time (table l) t)
  pub continues : (l : Lent) (k : ℕ) (r : Result Bool Refusal) → Continues l k r ↔ (r ≡ continues_at (table l) k)
  pub rows-of-table : (l : Lent) (ou ou' : List ℕ) (os os' : List ℤ) (r : Result ℕ Refusal)
      → RowsOfTable l ou os r ou' os' ↔ Rowed (table l) ou os r ou' os'
  pub segments-of-frames : (l : Lent) (fs out out' : List ℕ) (r : Result ℕ Refusal)
      → SegmentsOfFrames l fs out r out' ↔ Indexing (table l) fs out r out'
  pub validate : (l : Lent) (video : Video) (starts : List ℤ) (r : Result ℕ Refusal)
      → Validate l video starts r ↔ (r ≡ validate_of (table l) (shown_by video starts))
  pub check-mcraw : (l : Lent) (timestamps a b a' b' : List ℤ) (r : Result ℕ Refusal)
      → CheckMcraw l timestamps a b r a' b' ↔ Settled (table l) timestamps a b r a' b'
  pub box-size : (b : List ℕ) (remaining : ℕ) (r : Result BoxSize Refusal)
      → calls.BoxSize b remaining r ↔ (r ≡ box_size b remaining)
  pub children : (b : List ℕ) (at : ℕ) (r : Result BoxAt Refusal) → calls.Children b at r ↔ (r ≡ children_at b at)
  pub child-place : (b : List ℕ) (kind : ℕ) (r : Result Place Refusal)
      → calls.ChildPlace b kind r ↔ (r ≡ child_place b kind)
  pub child : (b : Bor (List ℕ)) (kind : ℕ) (r : Bor (List ℕ))
      → calls.Child b kind r ↔ PartAt b (result_ok (child_place b.now kind)) r
  pub find-box-place : (b : List ℕ) (start end kind : ℕ) (text : Bool) (r : Result Place Refusal)
      → calls.FindBoxPlace b start end kind text r ↔ (r ≡ find_box_place b start end kind text)
  pub find-box : (b : Bor (List ℕ)) (start end kind : ℕ) (text : Bool) (r : Bor (List ℕ))
      → calls.FindBox b start end kind text r ↔ PartAt b (result_ok (find_box_place b.now start end kind text)) r
  pub table-text-place : (b : List ℕ) (r : Result Place Refusal) → calls.TableTextPlace b r ↔ (r ≡ table_text_place b)
  pub table-text : (b : Bor (List ℕ)) (r : Bor (List ℕ))
      → calls.TableText b r ↔ PartAt b (result_ok (table_text_place b.now)) r
  pub video-frame-times-of-moov :
      (moov : List ℕ) (standard : Bool) (starts a b starts' a' b' : List ℤ) (r : Result FrameTimes Refusal)
      → calls.VideoFrameTimesOfMoov moov standard starts a b r starts' a' b'
      ↔ frames.MoovAnswers standard moov starts a b r starts' a' b'
  pub mcraw-times : (timestamps starts work starts' work' : List ℤ) (r : Result FrameTimes Refusal)
      → calls.McrawTimes timestamps starts work r starts' work' ↔ McrawAnswers timestamps starts work r starts' work'
  pub cut : (u : List ℕ) (s : List ℤ) (a b : ℕ) (ou ou' : List ℕ) (os os' : List ℤ) (r : Result ℕ Refusal)
      → calls.Cut u s a b ou os r ou' os' ↔ maps.Cut u s a b ou os r ou' os'
  pub cuts : (u ranges : List ℕ) (s : List ℤ) (ou ou' : List ℕ) (os os' : List ℤ) (counts counts' : List ℕ)
      (r : Result ℕ Refusal)
      → calls.Cuts u s ranges ou os counts r ou' os' counts' ↔ cuts.Cuts u s ranges ou os counts r ou' os' counts'
  pub join : (u v : List ℕ) (s t : List ℤ) (ou ou' : List ℕ) (os os' : List ℤ) (r : Result ℕ Refusal)
      → calls.Join u s v t ou os r ou' os' ↔ maps.Join u s v t ou os r ou' os'
  pub merge : (u : List ℕ) (s : List ℤ) (ou ou' : List ℕ) (os os' : List ℤ) (r : Result ℕ Refusal)
      → calls.Merge u s ou os r ou' os' ↔ maps.Merge u s ou os r ou' os'
  pub origin : (u : List ℕ) (s : List ℤ) (f : ℕ) (r : Result Origin Refusal) → calls.Origin u s f r ↔ maps.Trace u s f r
  pub origins : (u : List ℕ) (s : List ℤ) (fs : List ℕ) (out out' : List Origin) (r : Result ℕ Refusal)
      → calls.Origins u s fs out r out' ↔ origin-laws.Traces u s fs out r out'
  -- The lookup over records answers what the lookup over words answers of the words that say the same.
  pub segment-of-frame-records :
      (sources text : List ℕ) (rs : List TrimSegment) (log : Bool) (f : ℕ) (r : Result ℕ Refusal)
      → calls.SegmentOfFrameRecords sources text rs log f r ↔ SegmentOfFrame (in_words sources text rs log) f r
  -- What is read of a table's text is what its value holds by RFC 8259 (table_meaning/specs/Answer.antt).
  pub read-table : (text sources words : List ℕ) (stamps : List ℤ) (dates work sources' words' : List ℕ)
      (stamps' : List ℤ) (dates' work' : List ℕ) (r : Result Read Refusal)
      → calls.ReadTable text sources words stamps dates work r sources' words' stamps' dates' work'
      ↔ Reads text sources words stamps dates work r sources' words' stamps' dates' work'
  pub source-names : (text out work out' work' : List ℕ) (r : Result ℕ Refusal)
      → calls.SourceNames text out work r out' work' ↔ NamesRead text out work r out' work'
  pub string-into : (text : List ℕ) (at : ℕ) (out out' : List ℕ) (r : Result ℕ Refusal)
      → calls.StringInto text at out r out' ↔ StringInto text at out r out'

-- THE LOOKUPS OF A LIST: whatever its order, the k-th index is what `segment_of_frame` answers of the k-th frame. The
-- table is checked as `check` does, also where the list is empty, and room that is shorter than the list is refused
-- after that. (RULES 4.4.)
pub record EachFrame : Type 0 where
  pub each : (l : Lent) (n k : ℕ) (fs out out' : List ℕ) → SegmentsOfFrames l fs out (Ok n) out' → k < length fs
      → SegmentOfFrame l (get_or fs k 0) (Ok (get_or out' k 0))
  -- What lies past the list stays as lent, and on a refusal all; the room stays as long as it was.
  pub rest : (l : Lent) (n : ℕ) (fs out out' : List ℕ) → SegmentsOfFrames l fs out (Ok n) out'
      → drop (length fs) out' ≡ drop (length fs) out
  pub kept : (l : Lent) (why : Reason) (i : ℕ) (fs out out' : List ℕ) → SegmentsOfFrames l fs out (refused why i) out'
      → out' ≡ out
  pub long : (l : Lent) (fs out out' : List ℕ) (r : Result ℕ Refusal) → SegmentsOfFrames l fs out r out'
      → length out' ≡ length out
  -- Which answer it is.
  pub all : (l : Lent) (N : ℕ) (fs out out' : List ℕ) (r : Result ℕ Refusal) → Check l (Ok N) → length fs ≤ length out
      → SegmentsOfFrames l fs out r out' → r ≡ Ok (length fs)
  pub as_checked : (l : Lent) (why : Reason) (i : ℕ) (fs out out' : List ℕ) (r : Result ℕ Refusal)
      → Check l (refused why i) → SegmentsOfFrames l fs out r out' → r ≡ refused why i
  pub short : (l : Lent) (N : ℕ) (fs out out' : List ℕ) (r : Result ℕ Refusal) → Check l (Ok N) → length out < length fs
      → SegmentsOfFrames l fs out r out' → r ≡ refused reason.NoRoom 0

-- THE WALK `children` MEETS THE BOXES, by which `child` and the other searches are defined: a box that it answers is
-- the first of those from its offset on, and the others are those from `next` on, which lies further on in the bytes;
-- where it answers 31 there are none, and where it answers 36 a broken header stands at that offset. So a walk from 0
-- on meets all boxes of the bytes, in order, and ends in 31 or 36. (RULES 7.2 and 7.3; boxes/specs/Boxes.antt has
-- `boxes_at`.)
pub record Walking : Type 0 where
  pub turn : (b : List ℕ) (at kind start len next : ℕ)
      → calls.Children b at (Ok (record { kind = kind; start = start; len = len; next = next }))
      → boxes.boxes_at b at ≡ boxes.box at kind start len (boxes.boxes_at b next)
  pub on : (b : List ℕ) (at kind start len next : ℕ)
      → calls.Children b at (Ok (record { kind = kind; start = start; len = len; next = next }))
      → (at < next) × (next ≤ length b)
  pub end : (b : List ℕ) (at : ℕ) → calls.Children b at (refused reason.Missing 0) → boxes.boxes_at b at ≡ boxes.clean
  pub bad : (b : List ℕ) (at i : ℕ) → calls.Children b at (refused reason.Broken i) → boxes.boxes_at b at ≡ boxes.bad i

-- TO THE NEAREST WHOLE NUMBER, as `ticks_to_us` has it by `rounded`: q is n / d rounded exactly when n / d is at least
-- q - 1/2 and less than q + 1/2, so that a half goes up; and below zero it is the same with the sign, so that a half
-- goes away from zero. (RULES 5.2.)
pub record Rounding : Type 0 where
  pub halves : (n d q : ℕ) → 0 < d → (q ≡ nearest n d) ↔ ((2 * (q * d) ≤ 2 * n + d) × (2 * n < 2 * (q * d) + d))
  pub signs : (z : ℤ) (d : ℕ) → 0 < d → rounded (neg_ℤ z) d ≡ neg_ℤ (rounded z d)

-- THE NOMINAL DURATION AND THE ORDER OF THE FRAMES, as frame times have them by `mode` and `sorted`: of some durations
-- the one that stands there most often, of several the smallest, and no other; and the times ascend, each as often as
-- before. (RULES 8.7 and 8.8.)
pub record Ordering : Type 0 where
  pub most : (l : List ℤ) (v : ℤ) → 0 < length l → (v ≡ mode l) ↔ MostFrequent l v
  pub ascends : (l : List ℤ) → Asc (sorted l)
  pub keeps : (v : ℤ) (l : List ℤ) → count_of v (sorted l) ≡ count_of v l

-- COMPOSITION OFFSETS BY THE STANDARD AND BY THE RUST: both modes answer and write the same wherever no offset of
-- version 0 has its top bit set: what the promise allows in one mode, which by `answers` is one answer, it allows in
-- the other. (RULES 8.4; modes/specs/Modes.antt has the condition, tracks/specs/Tables.antt both readings.)
pub record Agreeing : Type 0 where
  pub frame_times : (moov : List ℕ) (starts a b starts' a' b' : List ℤ) (r : Result FrameTimes Refusal)
      → NoTopBit (ctts_of moov)
      → calls.VideoFrameTimesOfMoov moov true starts a b r starts' a' b'
      ↔ calls.VideoFrameTimesOfMoov moov false starts a b r starts' a' b'

-- each call that takes a table answers of m what it answers of l: its promise allows of m what it allows of l, which by
-- `answers` is one answer
pub record SameAnswers (l m : Lent) : Type 0 where
  pub check : (r : Result ℕ Refusal) → Check l r → Check m r
  pub segment-of-frame : (f : ℕ) (r : Result ℕ Refusal) → SegmentOfFrame l f r → SegmentOfFrame m f r
  pub segment-of-time-us : (t : ℤ) (r : Result ℕ Refusal) → SegmentOfTimeUs l t r → SegmentOfTimeUs m t r
  pub continues : (k : ℕ) (r : Result Bool Refusal) → Continues l k r → Continues m k r
  pub rows-of-table : (ou ou' : List ℕ) (os os' : List ℤ) (r : Result ℕ Refusal) → RowsOfTable l ou os r ou' os'
      → RowsOfTable m ou os r ou' os'
  pub segments-of-frames : (fs out out' : List ℕ) (r : Result ℕ Refusal) → SegmentsOfFrames l fs out r out'
      → SegmentsOfFrames m fs out r out'
  pub validate : (video : Video) (starts : List ℤ) (r : Result ℕ Refusal) → Validate l video starts r
      → Validate m video starts r
  pub check-mcraw : (timestamps a b a' b' : List ℤ) (r : Result ℕ Refusal) → CheckMcraw l timestamps a b r a' b'
      → CheckMcraw m timestamps a b r a' b'

-- WORDS OF AN ABSENT THING (creation time, clock, modulus, shift, origin) ARE IGNORED, and a source's size and origin:
-- tables that differ only in them, that are the same when these words are set to 0, get the same answers from every
-- call that takes a table. (RULES 1.5; rules/specs/Absent.antt says which words.)
pub record Ignored : Type 0 where
  pub words : (l m : Lent) → stripped (table l) ≡ stripped (table m) → SameAnswers l m
  -- and so does the lookup over records, of whose absent things some are words and some are fields
  pub segment-of-frame-records : (sources sources' text text' : List ℕ) (rs rs' : List TrimSegment) (log log' : Bool)
      → stripped (table (in_words sources text rs log)) ≡ stripped (table (in_words sources' text' rs' log'))
      → (f : ℕ) (r : Result ℕ Refusal) → calls.SegmentOfFrameRecords sources text rs log f r
      → calls.SegmentOfFrameRecords sources' text' rs' log' f r

-- NO CALL LOOKS AT A SOURCE'S SIZE OR ORIGIN, AND OF THE FLAG THAT SAYS WHETHER IT IS KNOWN ONLY WHETHER IT IS OVER 1:
-- tables that differ only in these three words, that are the same when size, origin and a flag of 0 or 1 are set to 0,
-- get the same answers from every call that takes a table. (RULES 1.5; rules/specs/Absent.antt has `unread`.)
pub record Unread : Type 0 where
  pub words : (l m : Lent) → unread (table l) ≡ unread (table m) → SameAnswers l m
  pub segment-of-frame-records : (sources sources' text text' : List ℕ) (rs rs' : List TrimSegment) (log log' : Bool)
      → unread (table (in_words sources text rs log)) ≡ unread (table (in_words sources' text' rs' log'))
      → (f : ℕ) (r : Result ℕ Refusal) → calls.SegmentOfFrameRecords sources text rs log f r
      → calls.SegmentOfFrameRecords sources' text' rs' log' f r

-- the table of the records and creation times that reading a text wrote
abbrev pub read_words_of : Read → List ℕ → List ℕ → List ℤ → List ℕ → Lent
read_words_of read sources words stamps dates = record {
  sources = take (13 * read.sources) sources;
  words = take (5 * read.segments) words;
  stamps = take (7 * read.segments) stamps;
  log = read.log;
  text = take read.dates dates;
}

-- A TABLE'S OWN TEXT. It is refused for a reason exactly when that reason's condition holds and none that is tested
-- before it does, and else its frame total is the segments' (RULES 15.6; `Rightly` again; the conditions are in
-- table_meaning/specs/Grounds.antt). What is written is a table that `check` accepts with the total that was answered.
-- On a refusal every slice for the answer is as lent. And each name stands in the text where `span_at` says, of which
-- `source_names` writes the two words (`Meanings.source-names`, by `name_words`).
pub record Texts : Type 0 where
  pub rightly : (text so wo : List ℕ) (st : List ℤ) (da wk so' wo' : List ℕ) (st' : List ℤ) (da' wk' : List ℕ)
      (r : Result Read Refusal) → calls.ReadTable text so wo st da wk r so' wo' st' da' wk'
      → Rightly (frames_read r) (text_tests text (room_of so wo st da wk)) (text_total text)
  pub accepted : (text so wo : List ℕ) (st : List ℤ) (da wk so' wo' : List ℕ) (st' : List ℤ) (da' wk' : List ℕ)
      (read : Read) → calls.ReadTable text so wo st da wk (Ok read) so' wo' st' da' wk'
      → Check (read_words_of read so' wo' st' da') (Ok read.frames)
  pub kept : (text so wo : List ℕ) (st : List ℤ) (da wk so' wo' : List ℕ) (st' : List ℤ) (da' wk' : List ℕ)
      (why : Reason) (i : ℕ) → calls.ReadTable text so wo st da wk (refused why i) so' wo' st' da' wk'
      → (so' ≡ so) × (wo' ≡ wo) × (st' ≡ st) × (da' ≡ da)
  pub names : NamesStandInTheirText

pub record Claims : Type 0 where
  pub answers : Answers
  pub face : Face
  pub telling : Telling
  pub numbers : Numbers
  pub origins : Origins
  -- 4. THE LAWS OF CUT, JOIN AND MERGE, of the calls: what is written is a map again; a cut keeps each frame's origin;
  -- a cut of a cut is the one cut of the combined range; a join has both maps' origins; merging keeps origins, twice is
  -- once, and two maps merge alike exactly when all origins agree; neighbouring cuts joined and merged are the merged
  -- cut of the whole, where they have up to 1,024 rows. (RULES 10.8; maps/specs/Laws.antt has the lines.)
  pub laws : laws.Laws calls.Cut calls.Join calls.Merge calls.Origin
  -- The same of the maps themselves, whatever their length; among it, that an absent shift isn't a shift of 0. (RULES
  -- 10.8; rows/specs/Demands.antt.)
  pub demands : Demands
  -- MANY CUTS IN ONE CALL are what `cut` of each range alone answers and writes, its rows after those of the ranges
  -- before it, their number in the counts; one range is one `cut`, refusals too; they are accepted exactly where the
  -- map is, the words are pairs, each range lies in the map, and all rows and counts have room; otherwise it is said
  -- which refusal is given.
  -- (RULES 10.6; cuts/specs/Laws.antt has the lines.)
  pub many_cuts : cut-laws.CutsLaws calls.Cuts calls.Cut
  -- THE ORIGINS OF A LIST OF FRAMES, in any order: the k-th entry that is answered is what `origin` answers of the k-th
  -- frame. The list is accepted exactly where the map is, each frame lies in it, and there is room for one entry a
  -- frame. Else a map that no call takes is refused as `origin` refuses it; then 54 at the number of the first frame
  -- past the map; then 32. What lies past the list stays as lent, and on a refusal all. (RULES 10.9;
  -- maps/specs/Origins.antt has the lines.)
  pub many_origins : origin-laws.OriginsLaws calls.Origins calls.Origin
  pub refusals : Refusals
  -- HOW FAR TWO TABLES OF ONE VIDEO MAY DIFFER, which `validate` or `check_mcraw` accepts. (RULES 6.4;
  -- differ/specs/Differ.antt has the lines.)
  pub differing : Differing table Validate CheckMcraw
  pub each_frame : EachFrame
  pub meanings : Meanings
  pub walking : Walking
  -- MISSING OR BROKEN: where 36 is answered, its index is the offset of a header that is there and bad, and the walk
  -- for the box had come to it. (RULES 7.6; stops/specs/Stops.antt has the lines.)
  pub stopping : Stopping calls.ChildPlace calls.FindBoxPlace calls.Children calls.VideoFrameTimesOfMoov
  -- 31 is divided into 31 and 36, and no other answer changed from the undivided ones, which stops/specs/Undivided.antt
  -- keeps.
  pub dividing : Dividing calls.ChildPlace calls.FindBoxPlace calls.Children calls.VideoFrameTimesOfMoov
  pub agreeing : Agreeing
  pub rounding : Rounding
  pub ordering : Ordering
  pub ignored : Ignored
  pub unread : Unread
  pub texts : Texts
  -- 7. THE EXAMPLES of the rules, the auditor's clip, and some more of each call. (RULES 3.6, 4.7, 5.1, 5.2, 6.5, 8.8,
  -- 8.10, 9.3, 10.10.)
  pub worked : AllByRecursion Holds examples
