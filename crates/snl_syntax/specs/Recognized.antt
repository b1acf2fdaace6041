-- Whether tokens make an item, by the reader of items.
use Rattle.std.specs.Prelude.{List, Option, Some, None}
use Rattle.snl_lex.specs.declared.kind.Kind.{Kind}
use Rattle.snl_grammar.specs.declared.tree.item.Item.{Item}
use Rattle.snl_grammar.specs.Reading.Items.{fault_of, item_of}
use Rattle.snl_syntax.specs.declared.recognizer.Recognition.{Recognition}
use Rattle.snl_syntax.specs.declared.recognizer.Recognition.TheVariants as recognition

abbrev pub recognized : List Kind → Option Item → Recognition
recognized kinds (Some tree) = recognition.Item
recognized kinds None = recognition.NoItem (fault_of kinds)

abbrev pub recognition_of : List Kind → Recognition
recognition_of kinds = recognized kinds (item_of kinds)
