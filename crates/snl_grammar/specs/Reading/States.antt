-- States and their members. How each choice is made, by one token alone:
-- A member is chosen by its first token; `}` ends the members, and any token that begins no other
-- form begins a declaration. In the brackets of `when` a `)` means that nothing is written; any
-- other token begins an expression. After the block of `when`, `state` and `exit` say where the
-- transition leads.
use Rattle.std.specs.Prelude.{ℕ, ◌-◌, List, [], Option, Some, None}
use Rattle.snl_lex.specs.declared.kind.Kind.{Kind}
use Rattle.snl_lex.specs.declared.kind.Kind.TheVariants as kind
use Rattle.snl_grammar.specs.declared.tree.statement.Member.{Member}
use Rattle.snl_grammar.specs.declared.tree.state.Target.{Target}
use Rattle.snl_grammar.specs.declared.tree.state.Target.TheVariants as targets
use Rattle.snl_grammar.specs.declared.tree.state.Transition.{Transition}
use Rattle.snl_grammar.specs.declared.tree.state.StateMember.{StateMember}
use Rattle.snl_grammar.specs.declared.tree.state.StateMember.TheVariants as members
use Rattle.snl_grammar.specs.Steps.{Reader, ◌>>=◌, ◌>>◌, pure, refuse, kind_at, expect, word, many}
use Rattle.snl_grammar.specs.Reading.Expressions.{expr}
use Rattle.snl_grammar.specs.Reading.Declarations.{declaration}
use Rattle.snl_grammar.specs.Reading.Clauses.{foreign, option_line, clause}
use Rattle.snl_grammar.specs.Reading.Statements.{before_paren, block}

-- ---- blocks at entry and exit, of the reader of a block

unfoldable pub entry_block : Reader (List Member) → Reader (List Member)
entry_block block = expect kind.Entry >> block

unfoldable pub exit_block : Reader (List Member) → Reader (List Member)
exit_block block = expect kind.Exit >> block

-- ---- transitions

unfoldable pub next_state : Reader Target
next_state = do
  expect kind.State
  n ← expect kind.Name
  pure (targets.State n)

abbrev pub target_by : Option Kind → Reader Target
target_by (Some kind.State) = next_state
target_by (Some kind.Exit) = word kind.Exit targets.Exit
target_by _ = refuse

unfoldable pub target : Reader Target
target = λ k. target_by (kind_at k) k

-- ---- members; `depth` levels are left with the one that they are in

module _ (depth : ℕ) where
  -- when = "when" "(" [expr] ")" block ( "state" NAME | "exit" )
  unfoldable pub transition : Reader Transition
  transition = do
    expect kind.When
    expect kind.OpenParen
    e ← before_paren (expr (depth - 1))
    b ← block depth
    t ← target
    pure (record { condition = e; block = b; target = t })

  unfoldable pub declared_member : Reader (Option StateMember)
  declared_member = do
    d ← declaration depth
    pure (Some (members.Declaration d))

  unfoldable pub entry_member : Reader (Option StateMember)
  entry_member = do
    b ← entry_block (block depth)
    pure (Some (members.Entry b))

  unfoldable pub exit_member : Reader (Option StateMember)
  exit_member = do
    b ← exit_block (block depth)
    pure (Some (members.Exit b))

  unfoldable pub when_member : Reader (Option StateMember)
  when_member = do
    t ← transition
    pure (Some (members.When t))

unfoldable pub foreign_member : Reader (Option StateMember)
foreign_member = do
  ns ← foreign
  pure (Some (members.Foreign ns))

unfoldable pub clause_member : Reader (Option StateMember)
clause_member = do
  c ← clause
  pure (Some (members.Clause c))

unfoldable pub option_member : Reader (Option StateMember)
option_member = do
  o ← option_line
  pure (Some (members.OptionLine o))

unfoldable pub c_member : Reader (Option StateMember)
c_member = do
  n ← expect kind.CCode
  pure (Some (members.CBlock n))

abbrev pub member_by : ℕ → Option Kind → Reader (Option StateMember)
member_by depth (Some kind.CloseBrace) = pure None
member_by depth (Some kind.Semicolon) = word kind.Semicolon (Some members.Empty)
member_by depth (Some kind.CCode) = c_member
member_by depth (Some kind.Foreign) = foreign_member
member_by depth (Some kind.Option) = option_member
member_by depth (Some kind.Assign) = clause_member
member_by depth (Some kind.Monitor) = clause_member
member_by depth (Some kind.Sync) = clause_member
member_by depth (Some kind.Syncq) = clause_member
member_by depth (Some kind.SyncqCapital) = clause_member
member_by depth (Some kind.Entry) = entry_member depth
member_by depth (Some kind.Exit) = exit_member depth
member_by depth (Some kind.When) = when_member depth
member_by depth _ = declared_member depth

unfoldable pub next_member : ℕ → Reader (Option StateMember)
next_member depth = λ k. member_by depth (kind_at k) k

-- ---- what comes after `state NAME`; `depth` levels are left within the braces

unfoldable pub state_members : ℕ → Reader (List StateMember)
state_members depth = do
  expect kind.OpenBrace
  ms ← many (next_member depth) []
  expect kind.CloseBrace
  pure ms
