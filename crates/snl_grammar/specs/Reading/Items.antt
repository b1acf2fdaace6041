-- Items. How each choice is made, by one token alone:
--   An item is chosen by its first token; any that begins no other form begins a type.
--   After a header's name `(` begins texts; any other token isn't the header's.
--   After an item the tokens end, and any token that is there is blamed.
use Rattle.std.specs.Prelude.{◌≡◌, ℕ, ◌-◌, min, List, [], length, Option, Some, None, Ok, Err}
use Rattle.snl_lex.specs.declared.kind.Kind.{Kind}
use Rattle.snl_lex.specs.declared.kind.Kind.TheVariants as kind
use Rattle.snl_grammar.specs.declared.tree.item.Item.{Item}
use Rattle.snl_grammar.specs.declared.tree.item.Item.TheVariants as items
use Rattle.snl_grammar.specs.Tokens.{ahead}
use Rattle.snl_grammar.specs.Steps.{Outcome, Reader, ◌>>=◌, ◌>>◌, pure, refuse, kind_at, expect, word}
use Rattle.snl_grammar.specs.Reading.Expressions.{texts}
use Rattle.snl_grammar.specs.Reading.Clauses.{foreign, option_line, clause}
use Rattle.snl_grammar.specs.Reading.Statements.{block}
use Rattle.snl_grammar.specs.Reading.Functions.{typed_item}
use Rattle.snl_grammar.specs.Reading.States.{entry_block, exit_block, state_members}

-- ---- headers and state sets

unfoldable pub some_texts : Reader (Option (List ℕ))
some_texts = do
  expect kind.OpenParen
  ts ← texts
  expect kind.CloseParen
  pure (Some ts)

abbrev pub texts_by : Option Kind → Reader (Option (List ℕ))
texts_by (Some kind.OpenParen) = some_texts
texts_by _ = pure None

-- texts in brackets, if they are there
unfoldable pub texts_part : Reader (Option (List ℕ))
texts_part = λ k. texts_by (kind_at k) k

-- header = "program" NAME [ "(" texts ")" ]
unfoldable pub header : Reader Item
header = do
  expect kind.Program
  n ← expect kind.Name
  ts ← texts_part
  pure (items.Header n ts)

-- ssbegin = "ss" NAME "{"
unfoldable pub set_begin : Reader Item
set_begin = do
  expect kind.Ss
  n ← expect kind.Name
  expect kind.OpenBrace
  pure (items.SsBegin n)

unfoldable pub c_block : Reader Item
c_block = do
  n ← expect kind.CCode
  pure (items.CBlock n)

-- ---- items that are in states as well

unfoldable pub foreign_item : Reader Item
foreign_item = do
  ns ← foreign
  pure (items.Foreign ns)

unfoldable pub clause_item : Reader Item
clause_item = do
  c ← clause
  pure (items.Clause c)

unfoldable pub option_item : Reader Item
option_item = do
  o ← option_line
  pure (items.OptionLine o)

-- ---- items by their first token; `depth` levels are left with the one that they are in

unfoldable pub entry_item : ℕ → Reader Item
entry_item depth = do
  b ← entry_block (block depth)
  pure (items.Entry b)

unfoldable pub exit_item : ℕ → Reader Item
exit_item depth = do
  b ← exit_block (block depth)
  pure (items.Exit b)

-- state = "state" NAME "{" { smember } "}"
unfoldable pub state_item : ℕ → Reader Item
state_item depth = do
  expect kind.State
  n ← expect kind.Name
  ms ← state_members (depth - 1)
  pure (items.StateBlock n ms)

abbrev pub item_by : ℕ → Option Kind → Reader Item
item_by depth (Some kind.Program) = header
item_by depth (Some kind.Ss) = set_begin
item_by depth (Some kind.CloseBrace) = word kind.CloseBrace items.SsEnd
item_by depth (Some kind.Semicolon) = word kind.Semicolon items.Empty
item_by depth (Some kind.CCode) = c_block
item_by depth (Some kind.Foreign) = foreign_item
item_by depth (Some kind.Option) = option_item
item_by depth (Some kind.Assign) = clause_item
item_by depth (Some kind.Monitor) = clause_item
item_by depth (Some kind.Sync) = clause_item
item_by depth (Some kind.Syncq) = clause_item
item_by depth (Some kind.SyncqCapital) = clause_item
item_by depth (Some kind.Entry) = entry_item depth
item_by depth (Some kind.Exit) = exit_item depth
item_by depth (Some kind.State) = state_item depth
item_by depth _ = typed_item depth (block depth)

unfoldable pub item : ℕ → Reader Item
item depth = λ k. item_by depth (kind_at k) k

-- ---- items with the end of their tokens

abbrev pub ended_by : Item → Option Kind → Reader Item
ended_by x None = pure x
ended_by x (Some y) = refuse

unfoldable pub ended : Item → Reader Item
ended x = λ k. ended_by x (kind_at k) k

unfoldable pub whole_item : ℕ → Reader Item
whole_item depth = do
  x ← item depth
  ended x

-- how many levels an item has, with the one that its own tokens are in
abbrev pub levels : ℕ
levels = 101

abbrev pub tree_of : Outcome Item → Option Item
tree_of (Ok p) = Some p.0
tree_of (Err j) = None

-- the item that all tokens of these kinds give, if they give one
unfoldable pub item_of : List Kind → Option Item
item_of kinds = tree_of (whole_item levels (ahead kinds 0))

-- The number of the token that is blamed, where no item is read: the last one, if all tokens were
-- read and more are wanted.
abbrev pub blamed_in : ℕ → Outcome Item → ℕ
blamed_in count (Ok p) = count - 1
blamed_in count (Err j) = min (count - length j) (count - 1)

unfoldable pub fault_of : List Kind → ℕ
fault_of kinds = blamed_in (length kinds) (whole_item levels (ahead kinds 0))
