-- What an accepted plan says: what is to be written fits. Assumes nothing.
use Prim.Native.Nat.{ℕ, ◌*◌, ◌≤◌}
use native.Mathlib.Omega.{arith}
use mathlib.Core.Path.{◌≡◌, sym}
use mathlib.Core.Bool.{◌||◌}
use mathlib.Core.List.{List}
use lib.ListN.{length}
use lib.Dec.{ltb}
use borrow.Author.Tests.{ltb-false}
use Rattle.std.specs.Prelude.{Ok}
use Rattle.std.proofs.lemmas.Bool.{or_parts}
use Rattle.refusal.specs.declared.Reason.TheVariants as reason
use Rattle.refusal.specs.Refusals.{refusal_at}
use Rattle.refusal.proofs.Chains.{if-ok}
use Rattle.rules.specs.Rules.{check_of}
use Rattle.table_text.specs.declared.staging.Staged.{Staged}
use Rattle.table_text.specs.declared.reader.Room.{Room}
use Rattle.table_text.specs.Lists.{places}
use Rattle.table_text.specs.Tables.{dates_in, table_in}
use Rattle.table_text.specs.Layout.{Holds}
use Rattle.table_text.specs.Read.{short, judged_of}

pub record Fits (text : List ℕ) (room : Room) (staged : Staged) : Type 0 where
  pub sources : 13 * length (places text staged.lists.sources) ≤ room.sources
  pub words : 5 * staged.segments ≤ room.words
  pub stamps : 7 * staged.segments ≤ room.stamps
  pub dates : length (dates_in text (places text staged.lists.sources)) ≤ room.dates

pub roomy : (text : List ℕ) (room : Room) (staged : Staged) (frames : ℕ) (work : List ℕ) → Holds text staged work → Ok frames
    ≡ judged_of text room staged → Fits text room staged
unfolding judged_of
roomy text room staged frames work h e =
    let t = (if-ok (short staged room) (refusal_at reason.NoRoom 0) (check_of (table_in text staged.lists)) frames (sym e)).0 in
    let a = or_parts (ltb room.sources (13 * staged.sources) || ltb room.words (5 * staged.segments))
    (ltb room.stamps (7 * staged.segments) || ltb room.dates staged.dates) t in
    let b = or_parts (ltb room.sources (13 * staged.sources)) (ltb room.words (5 * staged.segments)) a.0 in
    let d = or_parts (ltb room.stamps (7 * staged.segments)) (ltb room.dates staged.dates) a.1 in
    record {
      sources = omega (arith, h.sources, ltb-false _ _ b.0);
      words = ltb-false _ _ b.1;
      stamps = ltb-false _ _ d.0;
      dates = omega (arith, h.dates, ltb-false _ _ d.1);
    }
