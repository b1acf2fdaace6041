-- The letters of options are at leaves of what an item spells, in their order.
use Rattle.std.proofs.Common.{ℕ, ◌<◌, Bool, false, List, [], ◌∷◌, ◌++◌, length, map, All, refl, subst}
use Rattle.std.proofs.lemmas.List.{length-map, map-id}
use Rattle.std.proofs.lemmas.List.Elements.{All-from_recursion}
use Rattle.std.specs.List.{AllByRecursion as Each, AllPairs}
use Rattle.snl_lex.specs.declared.piece.Piece.{Piece}
use Rattle.snl_lex.specs.declared.kind.Kind.TheVariants as kind
use Rattle.snl_grammar.specs.declared.tree.clause.OptionLine.{OptionLine}
use Rattle.snl_grammar.specs.declared.tree.item.Item.{Item}
use Rattle.snl_grammar.specs.declared.tree.item.Item.TheVariants as items
use Rattle.snl_grammar.specs.declared.tree.state.StateMember.{StateMember}
use Rattle.snl_grammar.specs.declared.tree.state.StateMember.TheVariants as members
use Rattle.snl_grammar.specs.Parsing.{kind_in, kinds_in}
use Rattle.snl_grammar.specs.Spelling.Base.{Matches, Spelled, leaf, word}
use Rattle.snl_grammar.specs.Spelling.Clauses.{spell_option_line, spell_sign}
use Rattle.snl_grammar.specs.Spelling.Items.{spell_item}
use Rattle.snl_grammar.specs.Spelling.States.{spell_state_member}
use Rattle.snl_grammar.specs.Tokens.{ahead}
use Rattle.snl_walk.specs.Options.{letters_in, letters_in_member}
use Rattle.snl_walk.proofs.Leaves.{AreLeaves, leaves_after, leaves_before, leaves_below, leaves_joined, leaves_rise, no_leaves, one_leaf}
use Rattle.snl_facts.specs.Each.{EachTwo, pairs_from_two}

abbrev at : ℕ → ℕ
at n = n

abbrev plain : ℕ → Bool
plain n = false

abbrev Letters : List ℕ → List Spelled → Type 0
Letters ns xs = AreLeaves at plain ns xs

line_letters : (line : OptionLine) → Letters (line.letters ∷ []) (spell_option_line line)
line_letters line = leaves_before (word kind.Semicolon) (leaves_after (word kind.Option ++ spell_sign line.sign) (one_leaf kind.Name line.letters refl))

member_letters : (m : StateMember) → Letters (letters_in_member m) (spell_state_member m)
member_letters (members.OptionLine line) = line_letters line
member_letters m = no_leaves (spell_state_member m)

item_letters : (t : Item) → Letters (letters_in t) (spell_item t)
item_letters (items.OptionLine line) = line_letters line
item_letters (items.StateBlock name ms) =
    leaves_after (word kind.State ++ leaf kind.Name name)
    (leaves_after (word kind.OpenBrace) (leaves_before (word kind.CloseBrace) (leaves_joined letters_in_member spell_state_member member_letters ms)))
item_letters t = no_leaves (spell_item t)

module _ (text : List ℕ) (tokens : List Piece) (t : Item) (spelled : Matches (spell_item t) (ahead (kinds_in text tokens) 0)) where
  pub letters_rise : AllPairs (λ a b. a < b) (letters_in t)
  letters_rise =
      pairs_from_two (λ a b. a < b) (letters_in t)
      (subst (EachTwo (λ a b. a < b)) (map-id (letters_in t)) (leaves_rise at plain (letters_in t) (spell_item t) (kinds_in text tokens) (item_letters t) spelled))

  pub letters_stand : All (λ n. n < length tokens) (letters_in t)
  letters_stand =
      All-from_recursion (λ n. n < length tokens) (letters_in t)
      (subst (Each (λ n. n < length tokens)) (map-id (letters_in t))
      (subst (λ count. Each (λ n. n < count) (map at (letters_in t))) (length-map tokens (kind_in text)) (leaves_below at plain (letters_in t) (spell_item t) (kinds_in text tokens) (item_letters t) spelled)))
