use Rattle.std.specs.Prelude.{refl}
use Rattle.boxes.specs.Boxes.{size_of, header_at, boxes_from, boxes_at, is_text, textual, first_such}
use Rattle.boxes.specs.Places.{find_box_place, all_of, table_in}
use Rattle.boxes.proofs.worked_examples_hold.Goals as goal

pub returns : goal.returns
unfolding find_box_place table_in all_of first_such textual is_text boxes_at boxes_from header_at size_of
returns c = (refl, refl, refl)
