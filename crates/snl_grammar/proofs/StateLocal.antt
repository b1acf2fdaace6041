-- Readers of states and their members look no further than one token ahead.
use Rattle.std.proofs.Common.{◌-◌, ℕ, List, [], Option, Some, None}
use Rattle.snl_lex.specs.declared.kind.Kind.{Kind}
use Rattle.snl_lex.specs.declared.kind.Kind.TheVariants as kind
use Rattle.snl_grammar.specs.declared.tree.expression.Expr.{Expr}
use Rattle.snl_grammar.specs.declared.tree.statement.Member.{Member}
use Rattle.snl_grammar.specs.declared.tree.state.Target.{Target}
use Rattle.snl_grammar.specs.declared.tree.state.Target.TheVariants as targets
use Rattle.snl_grammar.specs.declared.tree.state.Transition.{Transition}
use Rattle.snl_grammar.specs.declared.tree.state.StateMember.{StateMember}
use Rattle.snl_grammar.specs.declared.tree.state.StateMember.TheVariants as members
use Rattle.snl_grammar.specs.Steps.{Reader, and_then, pure, kind_at, expect, word, many}
use Rattle.snl_grammar.specs.Reading.Expressions.{expr}
use Rattle.snl_grammar.specs.Reading.Declarations.{declaration}
use Rattle.snl_grammar.specs.Reading.Clauses.{foreign, option_line, clause}
use Rattle.snl_grammar.specs.Reading.Statements.{before_paren, block}
use Rattle.snl_grammar.specs.Reading.States.{entry_block, exit_block, next_state, target_by, target, transition, declared_member, entry_member, exit_member, when_member, foreign_member, clause_member, option_member, c_member, member_by, next_member, state_members}
use Rattle.snl_grammar.proofs.Local.{Local, Eats, EatsSome, bind_local, choice_local, pure_local, refuse_local, expect_local, many_local, bind_eats, expect_eats, eats_some, none_eats}
use Rattle.snl_grammar.proofs.TypeLaws.{word_local}
use Rattle.snl_grammar.proofs.ExpressionLocal.{expr_local}
use Rattle.snl_grammar.proofs.DeclarationLocal.{declaration_local, declaration_eats}
use Rattle.snl_grammar.proofs.StatementLocal.{paren_local, block_local}
use Rattle.snl_grammar.proofs.ClauseLocal.{foreign_local, foreign_eats, option_line_local, option_line_eats, clause_local, clause_eats}

-- ---- blocks at entry and exit

module _ (braced : Reader (List Member)) (local : Local braced) where
  pub entry_block_local : Local (entry_block braced)
  unfolding entry_block
  entry_block_local = bind_local (expect kind.Entry) _ (expect_local kind.Entry) (λ _. local)

  entry_block_eats : Eats (entry_block braced)
  unfolding entry_block
  entry_block_eats = bind_eats (expect kind.Entry) (λ _. braced) (expect_eats kind.Entry) (λ _. local)

  pub exit_block_local : Local (exit_block braced)
  unfolding exit_block
  exit_block_local = bind_local (expect kind.Exit) _ (expect_local kind.Exit) (λ _. local)

  exit_block_eats : Eats (exit_block braced)
  unfolding exit_block
  exit_block_eats = bind_eats (expect kind.Exit) (λ _. braced) (expect_eats kind.Exit) (λ _. local)

-- ---- transitions

next_state_local : Local next_state
unfolding next_state
next_state_local = bind_local (expect kind.State) _ (expect_local kind.State) (λ _. bind_local (expect kind.Name) _ (expect_local kind.Name) (λ n. pure_local (targets.State n)))

target_by_local : (o : Option Kind) → Local (target_by o)
target_by_local (Some kind.State) = next_state_local
target_by_local (Some kind.Exit) = word_local kind.Exit targets.Exit
target_by_local _ = refuse_local

target_local : Local target
unfolding target
target_local = choice_local target_by target_by_local

abbrev pub make_transition : Option Expr → List Member → Target → Transition
make_transition e b t = record { condition = e; block = b; target = t }

-- ---- members

module _ (depth : ℕ) where
  transition_rest : Local (λ k. and_then (expect kind.OpenParen k) (λ _. λ k2. and_then (before_paren (expr (depth - 1)) k2) (λ e. λ k3. and_then (block depth k3) (λ b. λ k4. and_then (target k4) (λ t. pure (make_transition e b t))))))
  transition_rest =
      bind_local (expect kind.OpenParen) _ (expect_local kind.OpenParen) (λ _. bind_local (before_paren (expr (depth - 1))) _ (paren_local (expr (depth - 1)) (expr_local (depth - 1))) (λ e. bind_local (block depth) _ (block_local depth) (λ b. bind_local target _ target_local (λ t. pure_local (make_transition e b t)))))

  transition_local : Local (transition depth)
  unfolding transition
  transition_local = bind_local (expect kind.When) _ (expect_local kind.When) (λ _. transition_rest)

  transition_eats : Eats (transition depth)
  unfolding transition
  transition_eats = bind_eats (expect kind.When) _ (expect_eats kind.When) (λ _. transition_rest)

  -- a member that another reader reads
  made_local : {A : Type 0} (p : Reader A) (make : A → StateMember) → Local p → Local (λ k. and_then (p k) (λ x. pure (Some (make x))))
  made_local p make local = bind_local p _ local (λ x. pure_local (Some (make x)))

  made_eats : {A : Type 0} (p : Reader A) (make : A → StateMember) → Eats p → Eats (λ k. and_then (p k) (λ x. pure (Some (make x))))
  made_eats p make eats = bind_eats p _ eats (λ x. pure_local (Some (make x)))

  member_by_local : (o : Option Kind) → Local (member_by depth o)
  unfolding c_member foreign_member option_member clause_member entry_member exit_member when_member declared_member
  member_by_local (Some kind.CloseBrace) = pure_local None
  member_by_local (Some kind.Semicolon) = word_local kind.Semicolon (Some members.Empty)
  member_by_local (Some kind.CCode) = made_local (expect kind.CCode) members.CBlock (expect_local kind.CCode)
  member_by_local (Some kind.Foreign) = made_local foreign members.Foreign foreign_local
  member_by_local (Some kind.Option) = made_local option_line members.OptionLine option_line_local
  member_by_local (Some kind.Assign) = made_local clause members.Clause clause_local
  member_by_local (Some kind.Monitor) = made_local clause members.Clause clause_local
  member_by_local (Some kind.Sync) = made_local clause members.Clause clause_local
  member_by_local (Some kind.Syncq) = made_local clause members.Clause clause_local
  member_by_local (Some kind.SyncqCapital) = made_local clause members.Clause clause_local
  member_by_local (Some kind.Entry) = made_local (entry_block (block depth)) members.Entry (entry_block_local (block depth) (block_local depth))
  member_by_local (Some kind.Exit) = made_local (exit_block (block depth)) members.Exit (exit_block_local (block depth) (block_local depth))
  member_by_local (Some kind.When) = made_local (transition depth) members.When transition_local
  member_by_local _ = made_local (declaration depth) members.Declaration (declaration_local depth)

  member_local : Local (next_member depth)
  unfolding next_member
  member_local = choice_local (member_by depth) member_by_local

  empty_eats : EatsSome (word kind.Semicolon (Some members.Empty))
  empty_eats = eats_some (word kind.Semicolon (Some members.Empty)) (bind_eats (expect kind.Semicolon) _ (expect_eats kind.Semicolon) (λ _. pure_local (Some members.Empty)))

  some_made : {A : Type 0} (p : Reader A) (make : A → StateMember) → Eats p → EatsSome (λ k. and_then (p k) (λ x. pure (Some (make x))))
  some_made p make eats = eats_some (λ k. and_then (p k) (λ x. pure (Some (make x)))) (made_eats p make eats)

  member_by_eats : (o : Option Kind) → EatsSome (member_by depth o)
  unfolding c_member foreign_member option_member clause_member entry_member exit_member when_member declared_member
  member_by_eats (Some kind.CloseBrace) = none_eats
  member_by_eats (Some kind.Semicolon) = empty_eats
  member_by_eats (Some kind.CCode) = some_made (expect kind.CCode) members.CBlock (expect_eats kind.CCode)
  member_by_eats (Some kind.Foreign) = some_made foreign members.Foreign foreign_eats
  member_by_eats (Some kind.Option) = some_made option_line members.OptionLine option_line_eats
  member_by_eats (Some kind.Assign) = some_made clause members.Clause clause_eats
  member_by_eats (Some kind.Monitor) = some_made clause members.Clause clause_eats
  member_by_eats (Some kind.Sync) = some_made clause members.Clause clause_eats
  member_by_eats (Some kind.Syncq) = some_made clause members.Clause clause_eats
  member_by_eats (Some kind.SyncqCapital) = some_made clause members.Clause clause_eats
  member_by_eats (Some kind.Entry) = some_made (entry_block (block depth)) members.Entry (entry_block_eats (block depth) (block_local depth))
  member_by_eats (Some kind.Exit) = some_made (exit_block (block depth)) members.Exit (exit_block_eats (block depth) (block_local depth))
  member_by_eats (Some kind.When) = some_made (transition depth) members.When transition_eats
  member_by_eats _ = some_made (declaration depth) members.Declaration (declaration_eats depth)

  pub member_eats : EatsSome (next_member depth)
  unfolding next_member
  member_eats k x m e = member_by_eats (kind_at k) k x m e

  pub state_members_local : Local (state_members depth)
  unfolding state_members
  state_members_local =
      bind_local (expect kind.OpenBrace) _ (expect_local kind.OpenBrace) (λ _. bind_local (many (next_member depth) []) _ (many_local (next_member depth) member_eats member_local []) (λ ms. bind_local (expect kind.CloseBrace) _ (expect_local kind.CloseBrace) (λ _. pure_local ms)))
