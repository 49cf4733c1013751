use Rattle.std.proofs.Common.{refl, ◌≡◌, ◌∙◌, pos, map, sym, ap, arith, false}
use Rattle.std.proofs.lemmas.Int.{ints}
use lib.Signed.{le_z}
use Rattle.signed.proofs.Bits.{read, reads, fits-of}
use Rattle.order.specs.Order.{mode}
use Rattle.tracks.specs.Tables.{durations}
use Rattle.frame_times.specs.Found.{frames_kept}
use Rattle.frame_times.proofs.FrameLaws.{none_kept, low-nominal, some-shown, showable}
use Rattle.frame_times.proofs.KeepLaws.{known}
use Rattle.frame_times.proofs.times.present.Goals as goal

pub returns-then-nominal-le0 : goal.returns-then-nominal-le0
returns-then-nominal-le0 c =
    let t = c.args.timing.durations in
    let n : read c.nominal_of-nominal.result ≡ mode (map pos (durations t.entries t.payload.now)) = reads (fits-of c.nominal_of-nominal.type_inv) ∙ c.nominal_of-nominal.ensures ∙ ap mode c.requires.durations_laid in
    rw (low-nominal _ _ _ (frames_kept c.args.timing) (ap (λ z. le_z z (pos 0)) (sym n) ∙ c.if-nominal-le0.true), c.at.ensures) record { answer = refl; starts = refl }

pub returns-then-count-eq0 : goal.returns-then-count-eq0
returns-then-count-eq0 c = rw (none_kept _ _ _ (frames_kept c.args.timing) (sym c.keep-kept.ensures.count ∙ c.if-count-eq0.true), c.at-then-count-eq0.ensures) record { answer = refl; starts = refl }

pub overflow_cast-last : goal.overflow_cast-last
overflow_cast-last c = omega (arith, ints, (known (frames_kept c.args.timing) c.keep-kept.ensures c.if-count-eq0.false).short)

pub overflow_add-last : goal.overflow_add-last
overflow_add-last c = let k = known (frames_kept c.args.timing) c.keep-kept.ensures c.if-count-eq0.false in omega (arith, ints, k.near, k.short)

pub show-requires-clause-able : goal.show-requires-clause-able
show-requires-clause-able c =
    let fs = frames_kept c.args.timing in
    let told = c.keep-kept.ensures in
    let k = known fs told c.if-count-eq0.false in
    rw (c.sort.ensures, told.front, k.first, k.last) (showable c.args.timing.edit fs k.some told.good c.requires.sound)

pub returns : goal.returns
returns c =
    let s = c.args in
    let ds = durations s.timing.durations.entries s.timing.durations.payload.now in
    let fs = frames_kept s.timing in
    let told = c.keep-kept.ensures in
    let k = known fs told c.if-count-eq0.false in
    let n : read c.nominal_of-nominal.result ≡ mode (map pos ds) = reads (fits-of c.nominal_of-nominal.type_inv) ∙ c.nominal_of-nominal.ensures ∙ ap mode c.requires.durations_laid in
    let high : le_z (mode (map pos ds)) (pos 0) ≡ false = ap (λ z. le_z z (pos 0)) (sym n) ∙ c.if-nominal-le0.false in
    rw (some-shown _ _ _ fs k.some high) (rw (n, k.first, k.last, c.sort.ensures, told.front) at c.show.ensures)
