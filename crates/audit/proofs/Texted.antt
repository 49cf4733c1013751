-- What is claimed of a table's text, by the theorems of table_meaning. Assumes nothing.
use Prim.Native.Nat.{ℕ, ◌*◌}
use native.Mathlib.Omega.{arith}
use mathlib.Core.Path.{◌≡◌, refl, sym, ap, subst, ◌∙◌}
use mathlib.Core.List.{List}
use lib.IntN.{ℤ}
use lib.ListN.{length, take, drop}
use lib.Seq.{take-append_seam}
use Rattle.std.specs.Prelude.{Result, Ok, Err}
use Rattle.slices.specs.Slices.{laid}
use Rattle.refusal.specs.declared.Reason.{Reason}
use Rattle.refusal.specs.declared.Refusal.{Refusal}
use Rattle.refusal.specs.Refusals.{refused}
use Rattle.rules.specs.Grounds.{Rightly}
use Rattle.rules.specs.Rules.{check_of}
use Rattle.table.specs.Layout.{table_of}
use Rattle.table_text.specs.declared.reader.Read.{Read}
use Rattle.table_meaning.specs.Answer.{Written, room_of, reading, answer_of, left_of}
use Rattle.table_meaning.specs.Claims.{WrittenTablesAreAccepted}
use Rattle.table_meaning.specs.Grounds.{text_tests, text_total, frames_read}
use Rattle.audit.specs.Words.{Check}
use Rattle.audit.specs.Claims.{Texts, read_words_of}
use Rattle.audit.proofs.Theorems.{Theorems}

taken : {A : Type 0} (ws out : List A) (n : ℕ) → n ≡ length ws → take n (laid ws out) ≡ ws
taken ws out n e = rw e (take-append_seam ws (drop (length ws) out))

read_or : Read → Result Read Refusal → Read
read_or other (Ok read) = read
read_or other (Err why) = other

-- what an answered reading wrote
written : (text so wo : List ℕ) (st : List ℤ) (da wk so' wo' : List ℕ) (st' : List ℤ) (da' : List ℕ) (r : Result Written Refusal) (read : Read)
    → WrittenTablesAreAccepted → reading text (room_of so wo st da wk) ≡ r → answer_of r ≡ Ok read
    → so' ≡ left_of (λ w. w.sources) r so → wo' ≡ left_of (λ w. w.words) r wo → st' ≡ left_of (λ w. w.stamps) r st → da' ≡ left_of (λ w. w.dates) r da
    → Check (read_words_of read so' wo' st' da') (Ok read.frames)
unfolding answer_of left_of read_or
written text so wo st da wk so' wo' st' da' (Err why) read by e a s o t d = absurd (grind arith)
written text so wo st da wk so' wo' st' da' (Ok w) read by e a s o t d =
    let fit = by text (room_of so wo st da wk) w e in
    let same : w.read ≡ read = ap (read_or w.read) a in
    let sources : take (13 * w.read.sources) so' ≡ w.sources = ap (take (13 * w.read.sources)) s ∙ taken w.sources so (13 * w.read.sources) (sym fit.sources) in
    let words : take (5 * w.read.segments) wo' ≡ w.words = ap (take (5 * w.read.segments)) o ∙ taken w.words wo (5 * w.read.segments) (sym fit.words) in
    let stamps : take (7 * w.read.segments) st' ≡ w.stamps = ap (take (7 * w.read.segments)) t ∙ taken w.stamps st (7 * w.read.segments) (sym fit.stamps) in
    let dates : take w.read.dates da' ≡ w.dates = ap (take w.read.dates) d ∙ taken w.dates da w.read.dates (sym fit.dates) in
    let table : check_of (table_of (take (13 * w.read.sources) so') (take (5 * w.read.segments) wo') (take (7 * w.read.segments) st') w.read.log (take w.read.dates da'))
    ≡ check_of (table_of w.sources w.words w.stamps w.read.log w.dates) =
    λ i. check_of (table_of (sources i) (words i) (stamps i) w.read.log (dates i)) in
    subst (λ (read : Read). Check (read_words_of read so' wo' st' da') (Ok read.frames)) same (sym (table ∙ fit.check))

-- a refused one
kept : {A : Type 0} (part : Written → List A) (r : Result Written Refusal) (why : Reason) (i : ℕ) (old new : List A)
    → refused why i ≡ answer_of r → new ≡ left_of part r old → new ≡ old
unfolding answer_of left_of
kept part (Ok w) why i old new e k = absurd (grind arith)
kept part (Err refusal) why i old new e k = k

pub texts : Theorems → Texts
texts by = record {
  rightly = λ text so wo st da wk so' wo' st' da' wk' r p.
      subst (λ (r : Result Read Refusal). Rightly (frames_read r) (text_tests text (room_of so wo st da wk)) (text_total text)) (sym p.answered)
      (by.by-text text (room_of so wo st da wk));
  accepted = λ text so wo st da wk so' wo' st' da' wk' read p.
      written text so wo st da wk so' wo' st' da' (reading text (room_of so wo st da wk)) read by.written refl (sym p.answered) p.sources_left p.words_left p.stamps_left
      p.dates_left;
  kept = λ text so wo st da wk so' wo' st' da' wk' why i p.
      let r = reading text (room_of so wo st da wk) in (
        kept (λ w. w.sources) r why i so so' p.answered p.sources_left,
        kept (λ w. w.words) r why i wo wo' p.answered p.words_left,
        kept (λ w. w.stamps) r why i st st' p.answered p.stamps_left,
        kept (λ w. w.dates) r why i da da' p.answered p.dates_left,
      );
  names = by.named;
}
