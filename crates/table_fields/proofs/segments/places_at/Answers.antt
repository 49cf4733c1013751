use Rattle.table_fields.proofs.segments.places_at.Goals as goal

pub returns : goal.returns
returns c = rw c.places.ensures
