-- Clauses on variables, options, and foreign names. How each choice is made, by one token alone:
-- After the name of an `assign`, `;` ends it and `[` begins a subscript; else `to` may be, and `{`
-- begins a list of texts, any other token a text. After a text in braces `,` is taken first; then
-- `}` ends the list, and any other token begins a further text. After the name and subscript of a
-- `syncq`, `to` or a name begins its event flag, an integer is the queue's length.
use Rattle.std.specs.Prelude.{ℕ, Bool, true, false, List, [], ◌∷◌, Option, Some, None}
use Rattle.snl_lex.specs.declared.kind.Kind.{Kind}
use Rattle.snl_lex.specs.declared.kind.Kind.TheVariants as kind
use Rattle.snl_grammar.specs.declared.step.Step.{Step}
use Rattle.snl_grammar.specs.declared.step.Step.TheVariants as steps
use Rattle.snl_grammar.specs.declared.tree.clause.Channel.{Channel}
use Rattle.snl_grammar.specs.declared.tree.clause.Channel.TheVariants as channels
use Rattle.snl_grammar.specs.declared.tree.clause.Flag.{Flag}
use Rattle.snl_grammar.specs.declared.tree.clause.Clause.{Clause}
use Rattle.snl_grammar.specs.declared.tree.clause.Clause.TheVariants as clauses
use Rattle.snl_grammar.specs.declared.tree.clause.OptionSign.{OptionSign}
use Rattle.snl_grammar.specs.declared.tree.clause.OptionSign.TheVariants as signs
use Rattle.snl_grammar.specs.declared.tree.clause.OptionLine.{OptionLine}
use Rattle.snl_grammar.specs.Steps.{Reader, ◌>>=◌, ◌>>◌, pure, refuse, kind_at, expect, accept, word, until}
use Rattle.snl_grammar.specs.Reading.Expressions.{commas, texts}

-- ---- foreign names and options

-- foreign = "foreign" NAME { "," NAME } ";"
unfoldable pub foreign : Reader (List ℕ)
foreign = do
  expect kind.Foreign
  ns ← commas (expect kind.Name)
  expect kind.Semicolon
  pure ns

abbrev pub sign_by : Option Kind → Reader OptionSign
sign_by (Some kind.Plus) = word kind.Plus signs.Plus
sign_by (Some kind.Minus) = word kind.Minus signs.Minus
sign_by _ = refuse

unfoldable pub sign : Reader OptionSign
sign = λ k. sign_by (kind_at k) k

-- option = "option" ( "+" | "-" ) NAME ";"
unfoldable pub option_line : Reader OptionLine
option_line = do
  expect kind.Option
  s ← sign
  n ← expect kind.Name
  expect kind.Semicolon
  pure (record { sign = s; letters = n })

-- ---- subscripts and flags

unfoldable pub subscript : Reader ℕ
subscript = do
  expect kind.OpenBracket
  n ← expect kind.Integer
  expect kind.CloseBracket
  pure n

unfoldable pub some_subscript : Reader (Option ℕ)
some_subscript = do
  n ← subscript
  pure (Some n)

abbrev pub subscript_by : Option Kind → Reader (Option ℕ)
subscript_by (Some kind.OpenBracket) = some_subscript
subscript_by _ = pure None

-- a subscript, if one is there
unfoldable pub subscript_part : Reader (Option ℕ)
subscript_part = λ k. subscript_by (kind_at k) k

-- [ "to" ] NAME
unfoldable pub flag : Reader Flag
flag = do
  b ← accept kind.To
  n ← expect kind.Name
  pure (record { to = b; name = n })

unfoldable pub some_flag : Reader (Option Flag)
some_flag = do
  f ← flag
  pure (Some f)

abbrev pub flag_by : Option Kind → Reader (Option Flag)
flag_by (Some kind.To) = some_flag
flag_by (Some kind.Name) = some_flag
flag_by _ = pure None

unfoldable pub flag_part : Reader (Option Flag)
flag_part = λ k. flag_by (kind_at k) k

unfoldable pub some_queue : Reader (Option ℕ)
some_queue = do
  n ← expect kind.Integer
  pure (Some n)

abbrev pub queue_by : Option Kind → Reader (Option ℕ)
queue_by (Some kind.Integer) = some_queue
queue_by _ = pure None

unfoldable pub queue_part : Reader (Option ℕ)
queue_part = λ k. queue_by (kind_at k) k

-- ---- channels

abbrev pub after_comma_by : Option Kind → Reader (Step (List ℕ) Bool)
after_comma_by (Some kind.CloseBrace) = pure (steps.Last None true)
after_comma_by _ = do
  x ← texts
  pure (steps.More x)

-- after a text and its comma
unfoldable pub after_comma : Reader (Step (List ℕ) Bool)
after_comma = expect kind.Comma >> (λ k. after_comma_by (kind_at k) k)

abbrev pub text_step_by : Option Kind → Reader (Step (List ℕ) Bool)
text_step_by (Some kind.Comma) = after_comma
text_step_by _ = pure (steps.Last None false)

unfoldable pub text_step : Reader (Step (List ℕ) Bool)
text_step = λ k. text_step_by (kind_at k) k

unfoldable pub some_elements : Bool → Reader Channel
some_elements b = do
  first ← texts
  r ← until text_step (first ∷ [])
  expect kind.CloseBrace
  pure (channels.Elements b r.0 r.1)

abbrev pub elements_by : Bool → Option Kind → Reader Channel
elements_by b (Some kind.CloseBrace) = word kind.CloseBrace (channels.Elements b [] false)
elements_by b _ = some_elements b

-- "{" [ texts { "," texts } [","] ] "}"
unfoldable pub elements : Bool → Reader Channel
elements b = expect kind.OpenBrace >> (λ k. elements_by b (kind_at k) k)

unfoldable pub whole : Bool → Reader Channel
whole b = do
  x ← texts
  pure (channels.Whole b x)

abbrev pub channel_to_by : Bool → Option Kind → Reader Channel
channel_to_by b (Some kind.OpenBrace) = elements b
channel_to_by b _ = whole b

unfoldable pub channel_to : Bool → Reader Channel
channel_to b = λ k. channel_to_by b (kind_at k) k

unfoldable pub named_channel : Reader Channel
named_channel = accept kind.To >>= channel_to

unfoldable pub element : Reader Channel
element = do
  n ← subscript
  b ← accept kind.To
  x ← texts
  pure (channels.Element n b x)

abbrev pub channel_by : Option Kind → Reader Channel
channel_by (Some kind.Semicolon) = pure channels.Anonymous
channel_by (Some kind.OpenBracket) = element
channel_by _ = named_channel

-- what comes after the name of an `assign`, but for the `;`
unfoldable pub channel : Reader Channel
channel = λ k. channel_by (kind_at k) k

-- ---- clauses

unfoldable pub assign : Reader Clause
assign = do
  expect kind.Assign
  n ← expect kind.Name
  x ← channel
  expect kind.Semicolon
  pure (clauses.Assign n x)

-- monitor = "monitor" NAME [ "[" INT "]" ] ";"
unfoldable pub monitor : Reader Clause
monitor = do
  expect kind.Monitor
  n ← expect kind.Name
  s ← subscript_part
  expect kind.Semicolon
  pure (clauses.Monitor n s)

-- sync = "sync" NAME [ "[" INT "]" ] ["to"] NAME ";"
unfoldable pub sync : Reader Clause
sync = do
  expect kind.Sync
  n ← expect kind.Name
  s ← subscript_part
  f ← flag
  expect kind.Semicolon
  pure (clauses.Sync n s f)

-- after the word: NAME [ "[" INT "]" ] [ ["to"] NAME ] [ INT ] ";"
unfoldable pub syncq_rest : Bool → Reader Clause
syncq_rest capital = do
  n ← expect kind.Name
  s ← subscript_part
  f ← flag_part
  q ← queue_part
  expect kind.Semicolon
  pure (clauses.Syncq capital n s f q)

abbrev pub syncq : Reader Clause
syncq = expect kind.Syncq >> syncq_rest false

abbrev pub syncq_capital : Reader Clause
syncq_capital = expect kind.SyncqCapital >> syncq_rest true

abbrev pub clause_by : Option Kind → Reader Clause
clause_by (Some kind.Assign) = assign
clause_by (Some kind.Monitor) = monitor
clause_by (Some kind.Sync) = sync
clause_by (Some kind.Syncq) = syncq
clause_by (Some kind.SyncqCapital) = syncq_capital
clause_by _ = refuse

unfoldable pub clause : Reader Clause
clause = λ k. clause_by (kind_at k) k

-- the words that begin a clause
abbrev pub begins_clause : Option Kind → Bool
begins_clause (Some kind.Assign) = true
begins_clause (Some kind.Monitor) = true
begins_clause (Some kind.Sync) = true
begins_clause (Some kind.Syncq) = true
begins_clause (Some kind.SyncqCapital) = true
begins_clause _ = false
