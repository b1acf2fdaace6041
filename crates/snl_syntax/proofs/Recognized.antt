-- What the reader of items gives tells whether tokens make an item.
use Rattle.std.proofs.Common.{◌≡◌, ℕ, ◌-◌, min, List, [], length, Ok, Err, sym, ap, ◌∙◌}
use Rattle.snl_lex.specs.declared.kind.Kind.{Kind}
use Rattle.snl_grammar.specs.declared.tree.item.Item.{Item}
use Rattle.snl_grammar.specs.Steps.{Outcome}
use Rattle.snl_grammar.specs.Tokens.{ahead}
use Rattle.snl_grammar.specs.Reading.Items.{item_of, levels, tree_of, whole_item}
use Rattle.snl_syntax.specs.declared.recognizer.Recognition.TheVariants as recognition
use Rattle.snl_syntax.specs.Recognized.{recognition_of, recognized}
use Rattle.snl_syntax.proofs.Blamed.{fault_at}

pub item_recognized : (kinds : List Kind) (t : Item) → whole_item levels (ahead kinds 0) ≡ Ok (t, []) → recognition.Item ≡ recognition_of kinds
unfolding item_of
item_recognized kinds t e = sym (ap (λ (o : Outcome Item). recognized kinds (tree_of o)) e)

pub fault_recognized : (kinds : List Kind) (at n : ℕ) → whole_item levels (ahead kinds 0) ≡ Err (ahead kinds at) → n ≡ min at (length kinds - 1)
    → recognition.NoItem n ≡ recognition_of kinds
unfolding item_of
fault_recognized kinds at n e m =
    ap recognition.NoItem (m ∙ sym (fault_at kinds at e)) ∙ sym (ap (λ (o : Outcome Item). recognized kinds (tree_of o)) e)
