-- Where the cut takes more tokens than an item of the grammar has.
use Rattle.std.specs.Prelude.{Bool, true, false, List, ◌∷◌, map, None}
use Rattle.snl_lex.specs.declared.kind.Kind.{Kind}
use Rattle.snl_grammar.specs.declared.marks.Mark.{Mark}
use Rattle.snl_grammar.specs.declared.marks.Mark.TheVariants as mark
use Rattle.snl_grammar.specs.declared.tree.item.Item.{Item}
use Rattle.snl_grammar.specs.declared.tree.item.Item.TheVariants as items
use Rattle.snl_grammar.specs.Marks.{mark_of_kind}

abbrev pub marks_of : List Kind → List Mark
marks_of kinds = map mark_of_kind kinds

abbrev pub begins_bracket : List Mark → Bool
begins_bracket (mark.OpenParen ∷ rest) = true
begins_bracket _ = false

-- The item is a header without texts, and a parenthesis follows it: this one could begin the
-- header's texts.
abbrev pub could_go_on : Item → List Mark → Bool
could_go_on (items.Header name None) rest = begins_bracket rest
could_go_on _ rest = false
