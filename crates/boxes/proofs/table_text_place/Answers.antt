use Rattle.std.proofs.Common.{true, arith}
use Rattle.boxes.proofs.Within.{search-stays, fits_in, movable, table-of-within}
use Rattle.boxes.proofs.table_text_place.Goals as goal

pub overflow_add-start : goal.overflow_add-start
overflow_add-start c = omega (arith, fits_in _ _ _ (search-stays _ true _ c.find-moov.ensures) c.place.ensures c.ok_or.ensures.value c.in_ok-start.was)

pub slice_bounds-table_of-end : goal.slice_bounds-table_of-end
slice_bounds-table_of-end c = fits_in _ _ _ (search-stays _ true _ c.find-moov.ensures) c.place.ensures c.ok_or.ensures.value c.in_ok-start.was

pub moved-requires : goal.moved-requires
moved-requires c =
    let fits = fits_in _ _ _ (search-stays _ true _ c.find-moov.ensures) c.place.ensures c.ok_or.ensures.value c.in_ok-start.was in
    omega (arith, movable _ _ _ fits c.table_of.ensures c.in_ok-table.was (table-of-within _))
