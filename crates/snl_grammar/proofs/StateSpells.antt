-- States and their members spell their tokens.
use Rattle.std.proofs.Common.{ℕ, List, ◌++◌, refl}
use Rattle.snl_lex.specs.declared.kind.Kind.{Kind}
use Rattle.snl_lex.specs.declared.kind.Kind.TheVariants as kind
use Rattle.snl_grammar.specs.declared.tree.expression.Expr.{Expr}
use Rattle.snl_grammar.specs.declared.tree.declaration.Declaration.{Declaration}
use Rattle.snl_grammar.specs.declared.tree.statement.Member.{Member}
use Rattle.snl_grammar.specs.declared.tree.state.StateMember.{StateMember}
use Rattle.snl_grammar.specs.Tokens.{NumberedKind}
use Rattle.snl_grammar.specs.Grammar.States.{IsBlockAfter, IsTarget, next as next_state, leave, IsTransition, IsStateMember, declaration, foreign, clause, option_line, empty, c_block, entry, exit, transition, IsState}
use Rattle.snl_grammar.specs.Spelling.Base.{word}
use Rattle.snl_grammar.specs.Spelling.Expressions.{spell_expr}
use Rattle.snl_grammar.specs.Spelling.Declarations.{spell_declaration}
use Rattle.snl_grammar.specs.Spelling.Statements.{spell_block}
use Rattle.snl_grammar.specs.Spelling.States.{spell_target, spell_transition, spell_state_member, spell_state}
use Rattle.snl_grammar.proofs.Covers.{Covers, Spells, word_covers, leaf_covers, ◌and◌, covers_as, perhaps_spells, each_spells}
use Rattle.snl_grammar.proofs.ClauseSpells.{foreign_spells, option_line_spells, clause_spells}

pub block_after_spells : (x : Kind) (Block : List Member → List NumberedKind → List NumberedKind → Type 0) → Spells Block spell_block → Spells (IsBlockAfter x Block) (λ b. word x ++ spell_block b)
block_after_spells x Block block_spells b k rest is = word_covers is.first and block_spells b is.mid rest is.block

target_spells : Spells IsTarget spell_target
target_spells t k rest (next_state n mid is mark at) = covers_as spell_target is refl (word_covers mark and leaf_covers at)
target_spells t k rest (leave is mark) = covers_as spell_target is refl (word_covers mark)

module _ (Inside : Expr → List NumberedKind → List NumberedKind → Type 0) (inside_spells : Spells Inside spell_expr) (Declared : Declaration → List NumberedKind → List NumberedKind → Type 0) (declared_spells : Spells Declared spell_declaration) (Block : List Member → List NumberedKind → List NumberedKind → Type 0) (block_spells : Spells Block spell_block) where
  transition_spells : Spells (IsTransition Inside Block) spell_transition
  transition_spells t k rest is =
      word_covers is.word
      and (word_covers is.opening and perhaps_spells Inside spell_expr inside_spells t.condition is.m2 is.condition.mid is.condition.value and word_covers is.condition.mark)
      and block_spells t.block is.m3 is.m4 is.block
      and target_spells t.target is.m4 rest is.target

  state_member_spells : Spells (IsStateMember Inside Declared Block) spell_state_member
  state_member_spells t k rest (declaration d is inside) = covers_as spell_state_member is refl (declared_spells d k rest inside)
  state_member_spells t k rest (foreign ns is inside) = covers_as spell_state_member is refl (foreign_spells ns k rest inside)
  state_member_spells t k rest (clause c is inside) = covers_as spell_state_member is refl (clause_spells c k rest inside)
  state_member_spells t k rest (option_line o is inside) = covers_as spell_state_member is refl (option_line_spells o k rest inside)
  state_member_spells t k rest (empty is mark) = covers_as spell_state_member is refl (word_covers mark)
  state_member_spells t k rest (c_block n is at) = covers_as spell_state_member is refl (leaf_covers at)
  state_member_spells t k rest (entry b is inside) = covers_as spell_state_member is refl (block_after_spells kind.Entry Block block_spells b k rest inside)
  state_member_spells t k rest (exit b is inside) = covers_as spell_state_member is refl (block_after_spells kind.Exit Block block_spells b k rest inside)
  state_member_spells t k rest (transition x is inside) = covers_as spell_state_member is refl (transition_spells x k rest inside)

  pub state_spells : (n : ℕ) (ms : List StateMember) (k rest : List NumberedKind) → IsState Inside Declared Block n ms k rest → Covers (spell_state n ms) k rest
  state_spells n ms k rest is =
      word_covers is.word
      and leaf_covers is.name
      and (word_covers is.opening and each_spells (IsStateMember Inside Declared Block) spell_state_member state_member_spells ms is.m3 is.m4 is.members and word_covers is.closing)
