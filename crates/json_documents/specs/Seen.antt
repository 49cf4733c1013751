-- What is read of a value: where it ends, and whether an object in it repeats a name.
use Rattle.std.specs.Prelude.{Option, Some, None, List}
use Rattle.json_tokens.specs.Text.{Got}
use Rattle.json_values.specs.Grammar.{Json, Item, Member, values_of, members_of}
use Rattle.json_documents.specs.declared.seen.Document.{Document}
use Rattle.json_documents.specs.Names.{repeats, in_values, in_members}

unfoldable pub seen_of : Got Json → Option Document
seen_of None = None
seen_of (Some (j, e)) = Some (record { end = e; repeats = repeats j })

-- the same of what stands in a list, and in an object. No call's promise names these.
unfoldable pub seen_values : Got (List Item) → Option Document
seen_values None = None
seen_values (Some (l, e)) = Some (record { end = e; repeats = in_values (values_of l) })

unfoldable pub seen_members : Got (List Member) → Option Document
seen_members None = None
seen_members (Some (l, e)) = Some (record { end = e; repeats = in_members (members_of l) })
