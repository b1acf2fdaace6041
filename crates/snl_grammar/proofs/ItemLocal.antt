-- Readers of items look no further than one token ahead.
use Rattle.std.proofs.Common.{ℕ, ◌-◌, Option, Some, None}
use Rattle.snl_lex.specs.declared.kind.Kind.{Kind}
use Rattle.snl_lex.specs.declared.kind.Kind.TheVariants as kind
use Rattle.snl_grammar.specs.declared.tree.item.Item.{Item}
use Rattle.snl_grammar.specs.declared.tree.item.Item.TheVariants as items
use Rattle.snl_grammar.specs.Steps.{Reader, and_then, pure, expect}
use Rattle.snl_grammar.specs.Reading.Expressions.{texts}
use Rattle.snl_grammar.specs.Reading.Clauses.{foreign, option_line, clause}
use Rattle.snl_grammar.specs.Reading.Statements.{block}
use Rattle.snl_grammar.specs.Reading.States.{entry_block, exit_block, state_members}
use Rattle.snl_grammar.specs.Reading.Items.{some_texts, texts_by, texts_part, header, set_begin, c_block, foreign_item, clause_item, option_item, entry_item, exit_item, state_item, item_by, item, ended_by, ended, whole_item}
use Rattle.snl_grammar.proofs.Local.{Local, bind_local, choice_local, pure_local, refuse_local, expect_local}
use Rattle.snl_grammar.proofs.TypeLaws.{word_local}
use Rattle.snl_grammar.proofs.ExpressionLocal.{texts_local}
use Rattle.snl_grammar.proofs.ClauseLocal.{foreign_local, option_line_local, clause_local}
use Rattle.snl_grammar.proofs.StatementLocal.{block_local}
use Rattle.snl_grammar.proofs.FunctionLocal.{typed_item_local}
use Rattle.snl_grammar.proofs.StateLocal.{entry_block_local, exit_block_local, state_members_local}

some_texts_local : Local some_texts
unfolding some_texts
some_texts_local = bind_local (expect kind.OpenParen) _ (expect_local kind.OpenParen) (λ _. bind_local texts _ texts_local (λ ts. bind_local (expect kind.CloseParen) _ (expect_local kind.CloseParen) (λ _. pure_local (Some ts))))

texts_by_local : (o : Option Kind) → Local (texts_by o)
texts_by_local (Some kind.OpenParen) = some_texts_local
texts_by_local _ = pure_local None

texts_part_local : Local texts_part
unfolding texts_part
texts_part_local = choice_local texts_by texts_by_local

header_local : Local header
unfolding header
header_local = bind_local (expect kind.Program) _ (expect_local kind.Program) (λ _. bind_local (expect kind.Name) _ (expect_local kind.Name) (λ n. bind_local texts_part _ texts_part_local (λ ts. pure_local (items.Header n ts))))

set_begin_local : Local set_begin
unfolding set_begin
set_begin_local = bind_local (expect kind.Ss) _ (expect_local kind.Ss) (λ _. bind_local (expect kind.Name) _ (expect_local kind.Name) (λ n. bind_local (expect kind.OpenBrace) _ (expect_local kind.OpenBrace) (λ _. pure_local (items.SsBegin n))))

-- an item that another reader reads
made_local : {A : Type 0} (p : Reader A) (make : A → Item) → Local p → Local (λ k. and_then (p k) (λ x. pure (make x)))
made_local p make local = bind_local p _ local (λ x. pure_local (make x))

module _ (depth : ℕ) where
  state_item_local : Local (state_item depth)
  unfolding state_item
  state_item_local = bind_local (expect kind.State) _ (expect_local kind.State) (λ _. bind_local (expect kind.Name) _ (expect_local kind.Name) (λ n. bind_local (state_members (depth - 1)) _ (state_members_local (depth - 1)) (λ ms. pure_local (items.StateBlock n ms))))

  item_by_local : (o : Option Kind) → Local (item_by depth o)
  unfolding c_block foreign_item option_item clause_item entry_item exit_item
  item_by_local (Some kind.Program) = header_local
  item_by_local (Some kind.Ss) = set_begin_local
  item_by_local (Some kind.CloseBrace) = word_local kind.CloseBrace items.SsEnd
  item_by_local (Some kind.Semicolon) = word_local kind.Semicolon items.Empty
  item_by_local (Some kind.CCode) = made_local (expect kind.CCode) items.CBlock (expect_local kind.CCode)
  item_by_local (Some kind.Foreign) = made_local foreign items.Foreign foreign_local
  item_by_local (Some kind.Option) = made_local option_line items.OptionLine option_line_local
  item_by_local (Some kind.Assign) = made_local clause items.Clause clause_local
  item_by_local (Some kind.Monitor) = made_local clause items.Clause clause_local
  item_by_local (Some kind.Sync) = made_local clause items.Clause clause_local
  item_by_local (Some kind.Syncq) = made_local clause items.Clause clause_local
  item_by_local (Some kind.SyncqCapital) = made_local clause items.Clause clause_local
  item_by_local (Some kind.Entry) = made_local (entry_block (block depth)) items.Entry (entry_block_local (block depth) (block_local depth))
  item_by_local (Some kind.Exit) = made_local (exit_block (block depth)) items.Exit (exit_block_local (block depth) (block_local depth))
  item_by_local (Some kind.State) = state_item_local
  item_by_local _ = typed_item_local depth (block depth) (block_local depth)

  pub item_local : Local (item depth)
  unfolding item
  item_local = choice_local (item_by depth) item_by_local

-- ---- items with the end of their tokens

ended_by_local : (x : Item) (o : Option Kind) → Local (ended_by x o)
ended_by_local x None = pure_local x
ended_by_local x (Some y) = refuse_local

ended_local : (x : Item) → Local (ended x)
unfolding ended
ended_local x = choice_local (ended_by x) (ended_by_local x)

pub whole_item_local : (depth : ℕ) → Local (whole_item depth)
unfolding whole_item
whole_item_local depth = bind_local (item depth) ended (item_local depth) ended_local
