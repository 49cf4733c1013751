-- Exactly one answer meets each promise. Assumes nothing.
use mathlib.Core.Path.{refl, ap, ◌∙◌}
use Rattle.slices.specs.Slices.{laid}
use Rattle.ticks.specs.declared.FrameTimes.{FrameTimes}
use Rattle.std.specs.Prelude.{Result}
use Rattle.refusal.specs.declared.Refusal.{Refusal}
use Rattle.mcraw.specs.Mcraw.{starts_written}
use Rattle.audit.specs.Claims.{Answers}

pub once : Answers
once = record {
  ticks-to-us = λ κs a. record { the = record { result = _; last = _ }; said = refl; only = λ e p i. record { result = p i; last = e.last } };
  is-utc-second = λ κs a. record { the = record { result = _; last = _ }; said = refl; only = λ e p i. record { result = p i; last = e.last } };
  check = λ κs a. record { the = record { result = _; last = _ }; said = refl; only = λ e p i. record { result = p i; last = e.last } };
  segment-of-frame = λ κs a. record { the = record { result = _; last = _ }; said = refl; only = λ e p i. record { result = p i; last = e.last } };
  segment-of-time-us = λ κs a. record { the = record { result = _; last = _ }; said = refl; only = λ e p i. record { result = p i; last = e.last } };
  continues = λ κs a. record { the = record { result = _; last = _ }; said = refl; only = λ e p i. record { result = p i; last = e.last } };
  rows-of-table = λ κs a. record { the = record { result = _; last = _ }; said = record { answer = refl; words = refl; shifts = refl }; only = λ e p i. record { result = p.answer i; last = (tt, (tt, (tt, (tt, (tt, (p.words i, (p.shifts i, tt))))))) } };
  segments-of-frames = λ κs a. record { the = record { result = _; last = _ }; said = record { answer = refl; indices = refl }; only = λ e p i. record { result = p.answer i; last = (tt, (tt, (tt, (tt, (tt, (tt, (p.indices i, tt))))))) } };
  validate = λ κs a. record { the = record { result = _; last = _ }; said = refl; only = λ e p i. record { result = p i; last = e.last } };
  check-mcraw = λ κs a. record { the = record { result = _; last = _ }; said = record { answer = refl; first_cleared = refl; second_cleared = refl }; only = λ e p i. record { result = p.answer i; last = (tt, (tt, (tt, (tt, (tt, (tt, (p.first_cleared i, (p.second_cleared i, tt)))))))) } };
  box-size = λ κs a. record { the = record { result = _; last = _ }; said = refl; only = λ e p i. record { result = p i; last = e.last } };
  children = λ κs a. record { the = record { result = _; last = _ }; said = refl; only = λ e p i. record { result = p i; last = e.last } };
  child-place = λ κs a. record { the = record { result = _; last = _ }; said = refl; only = λ e p i. record { result = p i; last = e.last } };
  find-box-place = λ κs a. record { the = record { result = _; last = _ }; said = refl; only = λ e p i. record { result = p i; last = e.last } };
  table-text-place = λ κs a. record { the = record { result = _; last = _ }; said = refl; only = λ e p i. record { result = p i; last = e.last } };
  video-frame-times-of-moov = λ κs a. record { the = record { result = _; last = _ }; said = record { answer = refl; starts = refl; first_clear = refl; second_clear = refl }; only = λ e p i. record { result = p.answer i; last = (tt, (tt, (p.starts i, (p.first_clear i, (p.second_clear i, tt))))) } };
  mcraw-times = λ κs a. record {
    the = record { result = _; last = _ };
    said = record { answer = refl; laid_out = refl; cleared = refl };
    only = λ e p i. record { result = p.answer i; last = (tt, ((p.laid_out ∙ ap (λ (r : Result FrameTimes Refusal). laid (starts_written r a.0.now) a.1.0.now) p.answer) i, (p.cleared i, tt))) };
  };
  cut = λ κs a. record { the = record { result = _; last = _ }; said = record { answer = refl; words = refl; shifts = refl }; only = λ e p i. record { result = p.answer i; last = (tt, (tt, (tt, (tt, (p.words i, (p.shifts i, tt)))))) } };
  cuts = λ κs a. record {
    the = record { result = _; last = _ };
    said = record { placed = record { answer = refl; words = refl; shifts = refl }; counted = refl };
    only = λ e p i. record { result = p.placed.answer i; last = (tt, (tt, (tt, (p.placed.words i, (p.placed.shifts i, (p.counted i, tt)))))) };
  };
  join = λ κs a. record { the = record { result = _; last = _ }; said = record { answer = refl; words = refl; shifts = refl }; only = λ e p i. record { result = p.answer i; last = (tt, (tt, (tt, (tt, (p.words i, (p.shifts i, tt)))))) } };
  merge = λ κs a. record { the = record { result = _; last = _ }; said = record { answer = refl; words = refl; shifts = refl }; only = λ e p i. record { result = p.answer i; last = (tt, (tt, (p.words i, (p.shifts i, tt)))) } };
  origin = λ κs a. record { the = record { result = _; last = _ }; said = refl; only = λ e p i. record { result = p i; last = e.last } };
  origins = λ κs a. record { the = record { result = _; last = _ }; said = record { answer = refl; origins = refl }; only = λ e p i. record { result = p.answer i; last = (tt, (tt, (tt, (p.origins i, tt)))) } };
  read-table = λ κs a. record { the = record { result = _; last = _ }; said = record { answered = refl; sources_left = refl; words_left = refl; stamps_left = refl; dates_left = refl; cleared = refl }; only = λ e p i. record { result = p.answered i; last = (tt, (p.sources_left i, (p.words_left i, (p.stamps_left i, (p.dates_left i, (p.cleared i, tt)))))) } };
  source-names = λ κs a. record { the = record { result = _; last = _ }; said = record { answered = refl; laid_out = refl; cleared = refl }; only = λ e p i. record { result = p.answered i; last = (tt, (p.laid_out i, (p.cleared i, tt))) } };
  string-into = λ κs a. record { the = record { result = _; last = _ }; said = record { answered = refl; laid_out = refl }; only = λ e p i. record { result = p.answered i; last = (tt, (tt, (p.laid_out i, tt))) } };
  segment-of-frame-records = λ κs a. record { the = record { result = _; last = _ }; said = refl; only = λ e p i. record { result = p i; last = e.last } };
  child = λ κs a. record { the = record { result = record { ref_ptr = _; now = _ }; last = _ }; said = record { bytes = refl; place = refl }; only = λ e p i. record { result = record { ref_ptr = p.place i; now = p.bytes i }; last = e.last } };
  find-box = λ κs a. record { the = record { result = record { ref_ptr = _; now = _ }; last = _ }; said = record { bytes = refl; place = refl }; only = λ e p i. record { result = record { ref_ptr = p.place i; now = p.bytes i }; last = e.last } };
  table-text = λ κs a. record { the = record { result = record { ref_ptr = _; now = _ }; last = _ }; said = record { bytes = refl; place = refl }; only = λ e p i. record { result = record { ref_ptr = p.place i; now = p.bytes i }; last = e.last } };
}
