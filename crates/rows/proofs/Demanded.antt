-- Every demand on frame maps holds. Assumes nothing.
use Prim.Native.Nat.{ℕ}
use native.Mathlib.Omega.{arith}
use native.Mathlib.Nat.{zero-sub}
use mathlib.Core.Path.{◌≡◌, sym, ◌∙◌}
use Rattle.rows.specs.Rows.{total}
use Rattle.rows.specs.Demands.{Demands}
use Rattle.rows.proofs.Origins as origins
use Rattle.rows.proofs.Cuts as cuts
use Rattle.rows.proofs.Merging as merging
use Rattle.rows.proofs.Joining as joining
use Rattle.rows.proofs.Well as well

pub demanded : Demands
demanded = record {
  tiles = λ m w. (well.well-tiles m 0 w, omega (arith, well.well-total m 0 w (omega arith)));
  one_row = λ m k w h. origins.one-row-from m 0 k (well.well-tiles m 0 w) (omega arith) (omega arith);
  past_map = λ m k w h. origins.origin_past m 0 k (well.well-tiles m 0 w) (omega arith);
  cut_origin = cuts.cut_origin;
  cut_well = λ m a b w. rw (zero-sub a) at (well.cut_well m 0 a b w);
  cut_total = λ m a b w h. cuts.cut_total m a b (well.well-tiles m 0 w) h;
  cut_all = λ m w. cuts.cut_all m 0 (total m) (well.well-tiles m 0 w) (omega arith);
  cut_cut = cuts.cut_cut;
  join_well = well.join_well;
  join_total = joining.join_total;
  join_first = λ x y k w h. joining.join-origin-first x y k (well.well-tiles x 0 w) h;
  join_second = λ x y k w. joining.join-origin-second x y k (well.well-tiles x 0 w);
  merge_well = well.merge_well;
  merge_total = merging.merge_total;
  merge_origin = λ m k w. merging.merge_origin m k (well.well-tiles m 0 w);
  merge_merge = merging.merge_merge;
  merge_same = λ m l w v e. merging.merge_same m l (well.well-tiles m 0 w) (well.well-tiles l 0 v) e;
  absent = λ r s j k e f. merging.flags-differ r s j k (λ g. let z : ◌≡◌ {A = ℕ} 0 1 = sym e ∙ g ∙ f in omega arith);
  join_cuts = λ m a b c w h l u. joining.join_cuts m a b c (well.well-tiles m 0 w) h l u;
  join_cuts_rows = λ m a b c w h l. cuts.cuts-rows m 0 a b c (well.well-tiles m 0 w) h l;
  cut_rows = cuts.cut_rows;
  merge_rows = merging.merge_rows;
}
