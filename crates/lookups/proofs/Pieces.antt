-- The frames of a piece lie in its segment. Assumes nothing.
use Prim.Native.Nat.{ℕ, ◌+◌, ◌≤◌, ◌<◌}
use Rattle.std.proofs.lemmas.Bool.{and_parts}
use native.Mathlib.Omega.{arith}
use mathlib.Core.Path.{◌≡◌, sym}
use mathlib.Core.Bool.{true, ◌&&◌}
use lib.Dec.{leb, ltb}
use lib.ListN.{length}
use borrow.Author.Tests.{ne_eqb, le-leb, lt-leb, leb-true, ltb-true}
use Rattle.rows.specs.Halving.{LastThat}
use Rattle.rules.specs.Lookups.{ended}
use Rattle.rules.specs.Records.{Table, segment}
use Rattle.lookup.proofs.Searchable.{Chained}
use Rattle.lookup.proofs.Last.{last-ended, frames-in-turn}
use Rattle.lookups.specs.declared.Piece.{Piece}
use Rattle.lookups.specs.Pieces.{index_in, piece_end, piece_at, Covers}

module _ (t : Table) (s : Chained t) where
  module _ (k : ℕ) (h : k < length t.segments) (frame : ℕ) (from : (segment t k).words.out ≤ frame) (before : frame < piece_end t k) where
    -- where another segment follows, it begins where the frames of this one end
    ends : k + 1 < length t.segments → frame < (segment t (k + 1)).words.out
    ends l = rw (ne_eqb (k + 1) (length t.segments) (λ e. omega arith)) at before

    index_is : index_in t frame ≡ k
    index_is =
        let last : LastThat (λ j b. b ≡ leb (segment t j).words.out frame) (length t.segments) k =
        record { within = h; low = λ _. sym (le-leb _ _ from); high = λ l. sym (lt-leb _ _ (ends l)) } in
        sym (last-ended (frames-in-turn s frame) last (λ j b l e. e))

  pub covers : (k : ℕ) → k < length t.segments → Covers t (piece_at t k)
  covers k h = record { known = h; each = index_is k h }

  -- the search answers a segment
  pub index-known : (frame : ℕ) → index_in t frame < length t.segments
  unfolding ended
  index-known frame = omega (arith, s.some)

-- a frame that a piece has
pub hit : (t : Table) (p : Piece) (frame : ℕ) → Covers t p → leb p.from frame && ltb frame p.end ≡ true
    → p.index ≡ index_in t frame
hit t p frame c e =
    let a = leb p.from frame in
    let b = ltb frame p.end in
    sym (c.each frame (leb-true _ _ (and_parts a b e).0) (ltb-true _ _ (and_parts a b e).1))
