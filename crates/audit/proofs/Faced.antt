-- Exactly one answer meets the promise of each call for C. Assumes nothing.
use mathlib.Core.Path.{refl}
use Rattle.audit.specs.Claims.{Face}

pub faced : Face
faced = record {
  st-check = λ κs a. record { the = record { result = _; last = _ }; said = refl; only = λ e p i. record { result = (p i).0; last = (tt, (tt, (tt, (tt, (tt, ((p i).1, ((p i).2, tt))))))) } };
  st-segment-of-frame = λ κs a. record { the = record { result = _; last = _ }; said = refl; only = λ e p i. record { result = (p i).0; last = (tt, (tt, (tt, (tt, (tt, (tt, ((p i).1, ((p i).2, tt)))))))) } };
  st-segment-of-time-us = λ κs a. record { the = record { result = _; last = _ }; said = refl; only = λ e p i. record { result = (p i).0; last = (tt, (tt, (tt, (tt, (tt, (tt, ((p i).1, ((p i).2, tt)))))))) } };
  st-continues = λ κs a. record { the = record { result = _; last = _ }; said = refl; only = λ e p i. record { result = (p i).0; last = (tt, (tt, (tt, (tt, (tt, (tt, ((p i).1, ((p i).2, tt)))))))) } };
  st-rows-of-table = λ κs a. record { the = record { result = _; last = _ }; said = record { told = refl; words = refl; shifts = refl }; only = λ e p i. record { result = (p.told i).0; last = (tt, (tt, (tt, (tt, (tt, (p.words i, (p.shifts i, ((p.told i).1, ((p.told i).2, tt))))))))) } };
  st-segments-of-frames = λ κs a. record { the = record { result = _; last = _ }; said = record { told = refl; indices = refl }; only = λ e p i. record { result = (p.told i).0; last = (tt, (tt, (tt, (tt, (tt, (tt, (p.indices i, ((p.told i).1, ((p.told i).2, tt))))))))) } };
  st-validate-no-video = λ κs a. record { the = record { result = _; last = _ }; said = refl; only = λ e p i. record { result = (p i).0; last = (tt, (tt, (tt, (tt, (tt, ((p i).2, tt)))))) } };
  st-validate-constant = λ κs a. record { the = record { result = _; last = _ }; said = refl; only = λ e p i. record { result = (p i).0; last = (tt, (tt, (tt, (tt, (tt, (tt, (tt, (tt, ((p i).1, ((p i).2, tt)))))))))) } };
  st-validate-times = λ κs a. record { the = record { result = _; last = _ }; said = refl; only = λ e p i. record { result = (p i).0; last = (tt, (tt, (tt, (tt, (tt, (tt, (tt, (tt, (tt, ((p i).1, ((p i).2, tt))))))))))) } };
  st-check-mcraw = λ κs a. record { the = record { result = _; last = _ }; said = record { told = refl; first_cleared = refl; second_cleared = refl }; only = λ e p i. record { result = (p.told i).0; last = (tt, (tt, (tt, (tt, (tt, (tt, (p.first_cleared i, (p.second_cleared i, ((p.told i).1, ((p.told i).2, tt)))))))))) } };
  st-segment-of-frame-records = λ κs a. record { the = record { result = _; last = _ }; said = refl; only = λ e p i. record { result = (p i).0; last = (tt, (tt, (tt, (tt, (tt, ((p i).1, ((p i).2, tt))))))) } };
  st-cut = λ κs a. record { the = record { result = _; last = _ }; said = record { told = refl; words = refl; shifts = refl }; only = λ e p i. record { result = (p.told i).0; last = (tt, (tt, (tt, (tt, (p.words i, (p.shifts i, ((p.told i).1, ((p.told i).2, tt)))))))) } };
  st-cuts = λ κs a. record {
    the = record { result = _; last = _ };
    said = record { placed = record { told = refl; words = refl; shifts = refl }; counted = refl };
    only = λ e p i. record { result = (p.placed.told i).0; last = (tt, (tt, (tt, (p.placed.words i, (p.placed.shifts i, (p.counted i, ((p.placed.told i).1, ((p.placed.told i).2, tt)))))))) };
  };
  st-join = λ κs a. record { the = record { result = _; last = _ }; said = record { told = refl; words = refl; shifts = refl }; only = λ e p i. record { result = (p.told i).0; last = (tt, (tt, (tt, (tt, (p.words i, (p.shifts i, ((p.told i).1, ((p.told i).2, tt)))))))) } };
  st-merge = λ κs a. record { the = record { result = _; last = _ }; said = record { told = refl; words = refl; shifts = refl }; only = λ e p i. record { result = (p.told i).0; last = (tt, (tt, (p.words i, (p.shifts i, ((p.told i).1, ((p.told i).2, tt)))))) } };
  st-origin = λ κs a. record { the = record { result = _; last = _ }; said = refl; only = λ e p i. record { result = (p i).0; last = (tt, (tt, (tt, ((p i).1.0, ((p i).1.1, ((p i).1.2, ((p i).1.3, ((p i).2, tt)))))))) } };
  st-origins = λ κs a. record { the = record { result = _; last = _ }; said = record { told = refl; origins = refl }; only = λ e p i. record { result = (p.told i).0; last = (tt, (tt, (tt, (p.origins i, ((p.told i).1, ((p.told i).2, tt)))))) } };
  st-box-size = λ κs a. record { the = record { result = _; last = _ }; said = refl; only = λ e p i. record { result = (p i).0; last = (tt, (tt, ((p i).1.0, ((p i).1.1, ((p i).2, tt))))) } };
  st-children = λ κs a. record { the = record { result = _; last = _ }; said = refl; only = λ e p i. record { result = (p i).0; last = (tt, (tt, ((p i).1.0, ((p i).1.1, ((p i).1.2, ((p i).1.3, ((p i).2, tt))))))) } };
  st-child = λ κs a. record { the = record { result = _; last = _ }; said = refl; only = λ e p i. record { result = (p i).0; last = (tt, (tt, ((p i).1.0, ((p i).1.1, ((p i).2, tt))))) } };
  st-find-box = λ κs a. record { the = record { result = _; last = _ }; said = refl; only = λ e p i. record { result = (p i).0; last = (tt, (tt, (tt, (tt, (tt, ((p i).1.0, ((p i).1.1, ((p i).2, tt)))))))) } };
  st-table-text = λ κs a. record { the = record { result = _; last = _ }; said = refl; only = λ e p i. record { result = (p i).0; last = (tt, ((p i).1.0, ((p i).1.1, ((p i).2, tt)))) } };
  st-video-frame-times-of-moov = λ κs a. record { the = record { result = _; last = _ }; said = record { told = refl; laid_out = refl; first_cleared = refl; second_cleared = refl }; only = λ e p i. record { result = (p.told i).0; last = (tt, (tt, (p.laid_out i, (p.first_cleared i, (p.second_cleared i, ((p.told i).1.0, ((p.told i).1.1, ((p.told i).1.2, ((p.told i).1.3, ((p.told i).2, tt)))))))))) } };
  st-mcraw-times = λ κs a. record { the = record { result = _; last = _ }; said = record { told = refl; laid_out = refl; cleared = refl }; only = λ e p i. record { result = (p.told i).0; last = (tt, (p.laid_out i, (p.cleared i, ((p.told i).1.0, ((p.told i).1.1, ((p.told i).1.2, ((p.told i).1.3, ((p.told i).2, tt)))))))) } };
  st-read-table = λ κs a. record { the = record { result = _; last = _ }; said = record { told = refl; sources_left = refl; words_left = refl; stamps_left = refl; dates_left = refl; cleared = refl }; only = λ e p i. record { result = (p.told i).0; last = (tt, (p.sources_left i, (p.words_left i, (p.stamps_left i, (p.dates_left i, (p.cleared i, ((p.told i).1, ((p.told i).2, tt)))))))) } };
  st-source-names = λ κs a. record { the = record { result = _; last = _ }; said = record { told = refl; laid_out = refl; cleared = refl }; only = λ e p i. record { result = (p.told i).0; last = (tt, (p.laid_out i, (p.cleared i, ((p.told i).1, ((p.told i).2, tt))))) } };
  st-json-string = λ κs a. record { the = record { result = _; last = _ }; said = record { told = refl; laid_out = refl }; only = λ e p i. record { result = (p.told i).0; last = (tt, (tt, (p.laid_out i, ((p.told i).1, ((p.told i).2, tt))))) } };
  st-is-utc-second = λ κs a. record { the = record { result = _; last = _ }; said = refl; only = λ e p i. record { result = p i; last = e.last } };
  st-ticks-to-us = λ κs a. record { the = record { result = _; last = _ }; said = refl; only = λ e p i. record { result = (p i).0; last = (tt, (tt, ((p i).1, ((p i).2, tt)))) } };
}
