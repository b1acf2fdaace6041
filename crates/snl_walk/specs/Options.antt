-- Where the letters of options are in an item: an option of the program, or those of a state.
use Rattle.std.specs.Prelude.{ℕ, List, [], ◌∷◌}
use Rattle.std.specs.List.{flat_map}
use Rattle.snl_grammar.specs.declared.tree.item.Item.{Item}
use Rattle.snl_grammar.specs.declared.tree.item.Item.TheVariants as items
use Rattle.snl_grammar.specs.declared.tree.state.StateMember.{StateMember}
use Rattle.snl_grammar.specs.declared.tree.state.StateMember.TheVariants as members

abbrev pub letters_in_member : StateMember → List ℕ
letters_in_member (members.OptionLine line) = line.letters ∷ []
letters_in_member _ = []

abbrev pub letters_in : Item → List ℕ
letters_in (items.OptionLine line) = line.letters ∷ []
letters_in (items.StateBlock name ms) = flat_map letters_in_member ms
letters_in _ = []
