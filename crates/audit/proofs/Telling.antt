-- Of each export: what is told is told of what the library's call answers, and nothing else is. Assumes nothing.
use Prim.Native.Nat.{ℕ}
use mathlib.Core.List.{List}
use mathlib.Core.Bool.{Bool}
use mathlib.Core.Logic.{◌↔◌}
use mathlib.Core.Path.{◌≡◌, refl, ◌∙◌, ap}
use lib.IntN.{ℤ}
use Rattle.std.specs.Prelude.{Result}
use Rattle.refusal.specs.declared.Refusal.{Refusal}
use Rattle.rows.specs.declared.Row.{Row}
use Rattle.rows.specs.declared.Origin.{Origin}
use Rattle.ticks.specs.declared.FrameTimes.{FrameTimes}
use Rattle.boxes.specs.declared.BoxSize.{BoxSize}
use Rattle.boxes.specs.declared.BoxAt.{BoxAt}
use Rattle.boxes.specs.declared.Place.{Place}
use Rattle.judge.specs.Video.{shown_by}
use Rattle.maps.specs.Answers.{Placed}
use Rattle.table_text.specs.declared.reader.Read.{Read}
use Rattle.told.specs.Told.{told, itself, yes_or_no, unsaid, size_words, box_words, place_words, origin_words, times_words, read_words}
use Rattle.segment_table.specs.Written.{MapTold}
use Rattle.audit.proofs.Worked.{started}
use Rattle.audit.specs.Words.{Tells}
use Rattle.audit.specs.Claims.{Telling}

-- an answer that an equation fixes, and what is told of it
one : {A : Type 0} {B : Type 0} {x : A} {y : B} (f : A → B) → (y ≡ f x) ↔ Tells (λ (c : A). c ≡ x) (λ c. y ≡ f c)
one f = (λ p. record { answer = _; given = refl; told = p }, λ q. q.told ∙ ap f q.given)

-- the same of rows that were asked for
placed : {x : Result (Unit {0}) Refusal} {m : List Row} {ou ou' : List ℕ} {os os' : List ℤ} (rows : ℕ) {r rows' index' : ℕ}
    → MapTold x m ou os rows r ou' os' rows' index' ↔ Tells (λ (c : Result ℕ Refusal). Placed x m ou os c ou' os') (λ c. (r, rows', index') ≡ told itself c rows)
placed rows = (
  λ p. record { answer = _; given = record { answer = refl; words = p.words; shifts = p.shifts }; told = p.told },
  λ q. record { told = q.told ∙ ap (λ (c : Result ℕ Refusal). told itself c rows) q.given.answer; words = q.given.words; shifts = q.given.shifts },
)

pub telling : Telling
unfolding shown_by
telling = record {
  st-check = λ l frames index r frames' index'. one (λ (c : Result ℕ Refusal). told itself c frames);
  st-segment-of-frame = λ l f segment index r segment' index'. one (λ (c : Result ℕ Refusal). told itself c segment);
  st-segment-of-time-us = λ l t segment index r segment' index'. one (λ (c : Result ℕ Refusal). told itself c segment);
  st-continues = λ l k answer index r answer' index'. one (λ (c : Result Bool Refusal). told yes_or_no c answer);
  st-rows-of-table = λ l ou ou' os os' rows index r rows' index'. (
    λ p. record { answer = _; given = record { answer = refl; words = p.words; shifts = p.shifts }; told = p.told },
    λ q. record { told = q.told ∙ ap (λ (c : Result ℕ Refusal). told itself c rows) q.given.answer; words = q.given.words; shifts = q.given.shifts },
  );
  st-segments-of-frames = λ l fs out out' written index r written' index'. (
    λ p. record { answer = _; given = record { answer = refl; indices = p.indices }; told = p.told },
    λ q. record { told = q.told ∙ ap (λ (c : Result ℕ Refusal). told itself c written) q.given.answer; indices = q.given.indices },
  );
  st-validate-no-video = λ l index r index'. one (λ (c : Result ℕ Refusal). told unsaid c tt);
  st-validate-constant = λ l count numerator denominator frames index r frames' index'. one (λ (c : Result ℕ Refusal). told itself c frames);
  st-validate-times = λ l scale starts end nominal frames index r frames' index'. one (λ (c : Result ℕ Refusal). told itself c frames);
  st-check-mcraw = λ l timestamps a b a' b' frames index r frames' index'. (
    λ p. record { answer = _; given = record { answer = refl; first_cleared = p.first_cleared; second_cleared = p.second_cleared }; told = p.told },
    λ q. record { told = q.told ∙ ap (λ (c : Result ℕ Refusal). told itself c frames) q.given.answer; first_cleared = q.given.first_cleared; second_cleared = q.given.second_cleared },
  );
  st-segment-of-frame-records = λ sources text rs log f segment index r segment' index'. one (λ (c : Result ℕ Refusal). told itself c segment);
  st-cut = λ u s a b ou ou' os os' rows index r rows' index'. placed rows;
  st-cuts = λ u ranges s ou ou' os os' counts counts' rows index r rows' index'. (
    λ p. let q = (placed rows).0 p.placed in record { answer = q.answer; given = record { placed = q.given; counted = p.counted }; told = q.told },
    λ q. record { placed = (placed rows).1 (record { answer = q.answer; given = q.given.placed; told = q.told }); counted = q.given.counted },
  );
  st-join = λ u v s t ou ou' os os' rows index r rows' index'. placed rows;
  st-merge = λ u s ou ou' os os' rows index r rows' index'. placed rows;
  st-origin = λ u s k source frame flag shift index r source' frame' flag' shift' index'. one (λ (c : Result Origin Refusal). told origin_words c (source, frame, flag, shift));
  st-origins = λ u s fs out out' written index r written' index'. (
    λ p. record { answer = _; given = record { answer = refl; origins = p.origins }; told = p.told },
    λ q. record { told = q.told ∙ ap (λ (c : Result ℕ Refusal). told itself c written) q.given.answer; origins = q.given.origins },
  );
  st-box-size = λ b remaining size header index r size' header' index'. one (λ (c : Result BoxSize Refusal). told size_words c (size, header));
  st-children = λ b at kind start length next index r kind' start' length' next' index'. one (λ (c : Result BoxAt Refusal). told box_words c (kind, start, length, next));
  st-child = λ b kind start length index r start' length' index'. one (λ (c : Result Place Refusal). told place_words c (start, length));
  st-find-box = λ b from to kind text start length index r start' length' index'. one (λ (c : Result Place Refusal). told place_words c (start, length));
  st-table-text = λ b start length index r start' length' index'. one (λ (c : Result Place Refusal). told place_words c (start, length));
  st-video-frame-times-of-moov = λ moov standard starts a b starts' a' b' frames scale nominal end index r frames' scale' nominal' end' index'. (
    λ p. record { answer = _; given = record { answer = refl; starts = p.laid_out; first_clear = p.first_cleared; second_clear = p.second_cleared }; told = p.told },
    λ q. record { told = q.told ∙ ap (λ (c : Result FrameTimes Refusal). told times_words c (frames, scale, nominal, end)) q.given.answer; laid_out = q.given.starts; first_cleared = q.given.first_clear; second_cleared = q.given.second_clear },
  );
  st-mcraw-times = λ timestamps starts work starts' work' frames scale nominal end index r frames' scale' nominal' end' index'. (
    λ p. record { answer = _; given = record { answer = refl; laid_out = p.laid_out; cleared = p.cleared }; told = p.told },
    λ q. record { told = q.told ∙ ap (λ (c : Result FrameTimes Refusal). told times_words c (frames, scale, nominal, end)) q.given.answer; laid_out = started q.given; cleared = q.given.cleared },
  );
  st-read-table = λ text sources words stamps dates work sources' words' stamps' dates' work' read index r read' index'. (
    λ p. record { answer = _; given = record { answered = refl; sources_left = p.sources_left; words_left = p.words_left; stamps_left = p.stamps_left; dates_left = p.dates_left; cleared = p.cleared }; told = p.told },
    λ q. record {
      told = q.told ∙ ap (λ (c : Result Read Refusal). told read_words c read) q.given.answered;
      sources_left = q.given.sources_left;
      words_left = q.given.words_left;
      stamps_left = q.given.stamps_left;
      dates_left = q.given.dates_left;
      cleared = q.given.cleared;
    },
  );
  st-source-names = λ text names work names' work' count index r count' index'. (
    λ p. record { answer = _; given = record { answered = refl; laid_out = p.laid_out; cleared = p.cleared }; told = p.told },
    λ q. record { told = q.told ∙ ap (λ (c : Result ℕ Refusal). told itself c count) q.given.answered; laid_out = q.given.laid_out; cleared = q.given.cleared },
  );
  st-json-string = λ text at out out' length index r length' index'. (
    λ p. record { answer = _; given = record { answered = refl; laid_out = p.laid_out }; told = p.told },
    λ q. record { told = q.told ∙ ap (λ (c : Result ℕ Refusal). told itself c length) q.given.answered; laid_out = q.given.laid_out },
  );
  st-is-utc-second = λ b r. (λ p. p, λ p. p);
  st-ticks-to-us = λ t scale us index r us' index'. one (λ (c : Result ℤ Refusal). told itself c us);
}
