-- Items spell their tokens.
use Rattle.std.proofs.Common.{ℕ, suc, List, [], refl}
use Rattle.snl_lex.specs.declared.kind.Kind.{Kind}
use Rattle.snl_lex.specs.declared.kind.Kind.TheVariants as kind
use Rattle.snl_grammar.specs.declared.tree.item.Item.{Item}
use Rattle.snl_grammar.specs.Tokens.{ahead}
use Rattle.snl_grammar.specs.Grammar.Expressions.{IsExpr}
use Rattle.snl_grammar.specs.Grammar.Declarations.{IsDeclaration}
use Rattle.snl_grammar.specs.Grammar.Statements.{IsBlockWithin}
use Rattle.snl_grammar.specs.Grammar.Functions.{IsParameter}
use Rattle.snl_grammar.specs.Grammar.Items.{AreBracketed, IsItemWithin, header, set_begin, set_end, empty, c_block, foreign, clause, option_line, entry, exit, state, typed, IsItem}
use Rattle.snl_grammar.specs.Spelling.Base.{Matches}
use Rattle.snl_grammar.specs.Spelling.Items.{spell_header_text, spell_item}
use Rattle.snl_grammar.proofs.Covers.{Spells, word_covers, leaf_covers, ◌and◌, covers_as, covers_all, perhaps_spells}
use Rattle.snl_grammar.proofs.ExpressionSpells.{texts_spell, expr_spells}
use Rattle.snl_grammar.proofs.DeclarationSpells.{declaration_spells}
use Rattle.snl_grammar.proofs.StatementSpells.{block_within_spells}
use Rattle.snl_grammar.proofs.ClauseSpells.{foreign_spells, option_line_spells, clause_spells}
use Rattle.snl_grammar.proofs.FunctionSpells.{parameter_spells, typed_spells}
use Rattle.snl_grammar.proofs.StateSpells.{block_after_spells, state_spells}

bracketed_spell : Spells AreBracketed spell_header_text
bracketed_spell ns k rest is = word_covers is.opening and texts_spell ns is.m1 is.m2 is.strings and word_covers is.closing

module _ (free extra depth : ℕ) where
  within_item_spells : Spells (IsItemWithin free extra depth) spell_item
  within_item_spells t k rest (header n ns is w) = covers_as spell_item is refl (word_covers w.word and leaf_covers w.name and perhaps_spells AreBracketed spell_header_text bracketed_spell ns w.m2 rest w.parameters)
  within_item_spells t k rest (set_begin n is w) = covers_as spell_item is refl (word_covers w.word and leaf_covers w.name and word_covers w.opening)
  within_item_spells t k rest (set_end is mark) = covers_as spell_item is refl (word_covers mark)
  within_item_spells t k rest (empty is mark) = covers_as spell_item is refl (word_covers mark)
  within_item_spells t k rest (c_block n is at) = covers_as spell_item is refl (leaf_covers at)
  within_item_spells t k rest (foreign ns is inside) = covers_as spell_item is refl (foreign_spells ns k rest inside)
  within_item_spells t k rest (clause c is inside) = covers_as spell_item is refl (clause_spells c k rest inside)
  within_item_spells t k rest (option_line o is inside) = covers_as spell_item is refl (option_line_spells o k rest inside)
  within_item_spells t k rest (entry b is inside) = covers_as spell_item is refl (block_after_spells kind.Entry (IsBlockWithin free extra (suc (suc depth))) (block_within_spells free extra (suc (suc depth))) b k rest inside)
  within_item_spells t k rest (exit b is inside) = covers_as spell_item is refl (block_after_spells kind.Exit (IsBlockWithin free extra (suc (suc depth))) (block_within_spells free extra (suc (suc depth))) b k rest inside)
  within_item_spells t k rest (state n ms is inside) =
      covers_as spell_item is refl
      (state_spells (IsExpr free extra depth) (expr_spells free extra depth) (IsDeclaration free extra (suc depth)) (declaration_spells free extra (suc depth)) (IsBlockWithin free extra (suc depth)) (block_within_spells free extra (suc depth)) n ms k rest inside)
  within_item_spells t k rest (typed inside) =
      typed_spells (IsDeclaration free extra (suc (suc depth))) (declaration_spells free extra (suc (suc depth))) (IsDeclaration free extra (suc depth)) (declaration_spells free extra (suc depth)) (IsParameter free extra (suc depth)) (parameter_spells free extra (suc depth)) (IsBlockWithin free extra (suc (suc depth))) (block_within_spells free extra (suc (suc depth))) t k rest inside

pub item_spells : (t : Item) (kinds : List Kind) → IsItem t kinds → Matches (spell_item t) (ahead kinds 0)
item_spells t kinds is = covers_all (spell_item t) (ahead kinds 0) (within_item_spells 0 0 99 t (ahead kinds 0) [] is)
