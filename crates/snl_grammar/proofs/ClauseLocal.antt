-- Readers of clauses, options and foreign names look no further than one token ahead.
use Rattle.std.proofs.Common.{ℕ, Bool, true, false, [], ◌∷◌, Option, Some, None}
use Rattle.snl_lex.specs.declared.kind.Kind.{Kind}
use Rattle.snl_lex.specs.declared.kind.Kind.TheVariants as kind
use Rattle.snl_grammar.specs.declared.step.Step.TheVariants as steps
use Rattle.snl_grammar.specs.declared.tree.clause.Channel.TheVariants as channels
use Rattle.snl_grammar.specs.declared.tree.clause.Clause.TheVariants as clauses
use Rattle.snl_grammar.specs.declared.tree.clause.OptionLine.{OptionLine}
use Rattle.snl_grammar.specs.declared.tree.clause.OptionSign.{OptionSign}
use Rattle.snl_grammar.specs.declared.tree.clause.OptionSign.TheVariants as signs
use Rattle.snl_grammar.specs.Steps.{and_then, pure, refuse, kind_at, expect, accept, until}
use Rattle.snl_grammar.specs.Reading.Expressions.{commas, texts}
use Rattle.snl_grammar.specs.Reading.Clauses.{foreign, sign_by, sign, option_line, subscript, some_subscript, subscript_by, subscript_part, flag, some_flag, flag_by, flag_part, some_queue, queue_by, queue_part, after_comma_by, after_comma, text_step_by, text_step, some_elements, elements_by, elements, whole, channel_to_by, channel_to, named_channel, element, channel_by, channel, assign, monitor, sync, syncq_rest, syncq, syncq_capital, clause_by, clause}
use Rattle.snl_grammar.proofs.Local.{Local, Eats, EatsMore, bind_local, choice_local, pure_local, refuse_local, expect_local, accept_local, until_local, bind_eats, expect_eats, eats_more}
use Rattle.snl_grammar.proofs.TypeLaws.{word_local}
use Rattle.snl_grammar.proofs.ExpressionLocal.{commas_local, texts_local}
use Rattle.snl_grammar.proofs.DeclarationLocal.{last_eats}

-- ---- foreign names and options

foreign_rest : Local (λ k. and_then (commas (expect kind.Name) k) (λ ns. λ l. and_then (expect kind.Semicolon l) (λ _. pure ns)))
foreign_rest = bind_local (commas (expect kind.Name)) _ (commas_local (expect kind.Name) (expect_local kind.Name)) (λ ns. bind_local (expect kind.Semicolon) _ (expect_local kind.Semicolon) (λ _. pure_local ns))

pub foreign_local : Local foreign
unfolding foreign
foreign_local = bind_local (expect kind.Foreign) _ (expect_local kind.Foreign) (λ _. foreign_rest)

pub foreign_eats : Eats foreign
unfolding foreign
foreign_eats = bind_eats (expect kind.Foreign) _ (expect_eats kind.Foreign) (λ _. foreign_rest)

sign_by_local : (o : Option Kind) → Local (sign_by o)
sign_by_local (Some kind.Plus) = word_local kind.Plus signs.Plus
sign_by_local (Some kind.Minus) = word_local kind.Minus signs.Minus
sign_by_local _ = refuse_local

sign_local : Local sign
unfolding sign
sign_local = choice_local sign_by sign_by_local

abbrev make_option : OptionSign → ℕ → OptionLine
make_option s n = record { sign = s; letters = n }

option_rest : Local (λ k. and_then (sign k) (λ s. λ l. and_then (expect kind.Name l) (λ n. λ m. and_then (expect kind.Semicolon m) (λ _. pure (make_option s n)))))
option_rest = bind_local sign _ sign_local (λ s. bind_local (expect kind.Name) _ (expect_local kind.Name) (λ n. bind_local (expect kind.Semicolon) _ (expect_local kind.Semicolon) (λ _. pure_local (make_option s n))))

pub option_line_local : Local option_line
unfolding option_line
option_line_local = bind_local (expect kind.Option) _ (expect_local kind.Option) (λ _. option_rest)

pub option_line_eats : Eats option_line
unfolding option_line
option_line_eats = bind_eats (expect kind.Option) _ (expect_eats kind.Option) (λ _. option_rest)

-- ---- subscripts and flags

subscript_local : Local subscript
unfolding subscript
subscript_local = bind_local (expect kind.OpenBracket) _ (expect_local kind.OpenBracket) (λ _. bind_local (expect kind.Integer) _ (expect_local kind.Integer) (λ n. bind_local (expect kind.CloseBracket) _ (expect_local kind.CloseBracket) (λ _. pure_local n)))

some_subscript_local : Local some_subscript
unfolding some_subscript
some_subscript_local = bind_local subscript _ subscript_local (λ n. pure_local (Some n))

subscript_by_local : (o : Option Kind) → Local (subscript_by o)
subscript_by_local (Some kind.OpenBracket) = some_subscript_local
subscript_by_local _ = pure_local None

subscript_part_local : Local subscript_part
unfolding subscript_part
subscript_part_local = choice_local subscript_by subscript_by_local

flag_local : Local flag
unfolding flag
flag_local = bind_local (accept kind.To) _ (accept_local kind.To) (λ b. bind_local (expect kind.Name) _ (expect_local kind.Name) (λ n. pure_local (record { to = b; name = n })))

some_flag_local : Local some_flag
unfolding some_flag
some_flag_local = bind_local flag _ flag_local (λ f. pure_local (Some f))

flag_by_local : (o : Option Kind) → Local (flag_by o)
flag_by_local (Some kind.To) = some_flag_local
flag_by_local (Some kind.Name) = some_flag_local
flag_by_local _ = pure_local None

flag_part_local : Local flag_part
unfolding flag_part
flag_part_local = choice_local flag_by flag_by_local

some_queue_local : Local some_queue
unfolding some_queue
some_queue_local = bind_local (expect kind.Integer) _ (expect_local kind.Integer) (λ n. pure_local (Some n))

queue_by_local : (o : Option Kind) → Local (queue_by o)
queue_by_local (Some kind.Integer) = some_queue_local
queue_by_local _ = pure_local None

queue_part_local : Local queue_part
unfolding queue_part
queue_part_local = choice_local queue_by queue_by_local

-- ---- channels

after_comma_by_local : (o : Option Kind) → Local (after_comma_by o)
after_comma_by_local (Some kind.CloseBrace) = pure_local (steps.Last None true)
after_comma_by_local _ = bind_local texts _ texts_local (λ x. pure_local (steps.More x))

after_comma_local : Local after_comma
unfolding after_comma
after_comma_local = bind_local (expect kind.Comma) _ (expect_local kind.Comma) (λ _. choice_local after_comma_by after_comma_by_local)

after_comma_eats : Eats after_comma
unfolding after_comma
after_comma_eats = bind_eats (expect kind.Comma) (λ _. λ k. after_comma_by (kind_at k) k) (expect_eats kind.Comma) (λ _. choice_local after_comma_by after_comma_by_local)

text_step_by_local : (o : Option Kind) → Local (text_step_by o)
text_step_by_local (Some kind.Comma) = after_comma_local
text_step_by_local _ = pure_local (steps.Last None false)

text_step_local : Local text_step
unfolding text_step
text_step_local = choice_local text_step_by text_step_by_local

text_step_by_eats : (o : Option Kind) → EatsMore (text_step_by o)
text_step_by_eats (Some kind.Comma) = eats_more after_comma after_comma_eats
text_step_by_eats _ = last_eats None false

pub text_step_eats : EatsMore text_step
unfolding text_step
text_step_eats k x m e = text_step_by_eats (kind_at k) k x m e

some_elements_local : (b : Bool) → Local (some_elements b)
unfolding some_elements
some_elements_local b =
    bind_local texts _ texts_local (λ first. bind_local (until text_step (first ∷ [])) _ (until_local text_step text_step_eats text_step_local (first ∷ [])) (λ r. bind_local (expect kind.CloseBrace) _ (expect_local kind.CloseBrace) (λ _. pure_local (channels.Elements b r.0 r.1))))

elements_by_local : (b : Bool) (o : Option Kind) → Local (elements_by b o)
elements_by_local b (Some kind.CloseBrace) = word_local kind.CloseBrace (channels.Elements b [] false)
elements_by_local b _ = some_elements_local b

elements_local : (b : Bool) → Local (elements b)
unfolding elements
elements_local b = bind_local (expect kind.OpenBrace) _ (expect_local kind.OpenBrace) (λ _. choice_local (elements_by b) (elements_by_local b))

whole_local : (b : Bool) → Local (whole b)
unfolding whole
whole_local b = bind_local texts _ texts_local (λ x. pure_local (channels.Whole b x))

channel_to_by_local : (b : Bool) (o : Option Kind) → Local (channel_to_by b o)
channel_to_by_local b (Some kind.OpenBrace) = elements_local b
channel_to_by_local b _ = whole_local b

channel_to_local : (b : Bool) → Local (channel_to b)
unfolding channel_to
channel_to_local b = choice_local (channel_to_by b) (channel_to_by_local b)

named_channel_local : Local named_channel
unfolding named_channel
named_channel_local = bind_local (accept kind.To) _ (accept_local kind.To) channel_to_local

element_local : Local element
unfolding element
element_local = bind_local subscript _ subscript_local (λ n. bind_local (accept kind.To) _ (accept_local kind.To) (λ b. bind_local texts _ texts_local (λ x. pure_local (channels.Element n b x))))

channel_by_local : (o : Option Kind) → Local (channel_by o)
channel_by_local (Some kind.Semicolon) = pure_local channels.Anonymous
channel_by_local (Some kind.OpenBracket) = element_local
channel_by_local _ = named_channel_local

channel_local : Local channel
unfolding channel
channel_local = choice_local channel_by channel_by_local

-- ---- clauses

assign_rest : Local (λ k. and_then (expect kind.Name k) (λ n. λ l. and_then (channel l) (λ x. λ m. and_then (expect kind.Semicolon m) (λ _. pure (clauses.Assign n x)))))
assign_rest = bind_local (expect kind.Name) _ (expect_local kind.Name) (λ n. bind_local channel _ channel_local (λ x. bind_local (expect kind.Semicolon) _ (expect_local kind.Semicolon) (λ _. pure_local (clauses.Assign n x))))

assign_local : Local assign
unfolding assign
assign_local = bind_local (expect kind.Assign) _ (expect_local kind.Assign) (λ _. assign_rest)

assign_eats : Eats assign
unfolding assign
assign_eats = bind_eats (expect kind.Assign) _ (expect_eats kind.Assign) (λ _. assign_rest)

monitor_rest : Local (λ k. and_then (expect kind.Name k) (λ n. λ l. and_then (subscript_part l) (λ s. λ m. and_then (expect kind.Semicolon m) (λ _. pure (clauses.Monitor n s)))))
monitor_rest = bind_local (expect kind.Name) _ (expect_local kind.Name) (λ n. bind_local subscript_part _ subscript_part_local (λ s. bind_local (expect kind.Semicolon) _ (expect_local kind.Semicolon) (λ _. pure_local (clauses.Monitor n s))))

monitor_local : Local monitor
unfolding monitor
monitor_local = bind_local (expect kind.Monitor) _ (expect_local kind.Monitor) (λ _. monitor_rest)

monitor_eats : Eats monitor
unfolding monitor
monitor_eats = bind_eats (expect kind.Monitor) _ (expect_eats kind.Monitor) (λ _. monitor_rest)

sync_rest : Local (λ k. and_then (expect kind.Name k) (λ n. λ l. and_then (subscript_part l) (λ s. λ i. and_then (flag i) (λ f. λ m. and_then (expect kind.Semicolon m) (λ _. pure (clauses.Sync n s f))))))
sync_rest = bind_local (expect kind.Name) _ (expect_local kind.Name) (λ n. bind_local subscript_part _ subscript_part_local (λ s. bind_local flag _ flag_local (λ f. bind_local (expect kind.Semicolon) _ (expect_local kind.Semicolon) (λ _. pure_local (clauses.Sync n s f)))))

sync_local : Local sync
unfolding sync
sync_local = bind_local (expect kind.Sync) _ (expect_local kind.Sync) (λ _. sync_rest)

sync_eats : Eats sync
unfolding sync
sync_eats = bind_eats (expect kind.Sync) _ (expect_eats kind.Sync) (λ _. sync_rest)

syncq_rest_local : (capital : Bool) → Local (syncq_rest capital)
unfolding syncq_rest
syncq_rest_local capital =
    bind_local (expect kind.Name) _ (expect_local kind.Name) (λ n. bind_local subscript_part _ subscript_part_local (λ s. bind_local flag_part _ flag_part_local (λ f. bind_local queue_part _ queue_part_local (λ q. bind_local (expect kind.Semicolon) _ (expect_local kind.Semicolon) (λ _. pure_local (clauses.Syncq capital n s f q))))))

syncq_local : Local syncq
syncq_local = bind_local (expect kind.Syncq) _ (expect_local kind.Syncq) (λ _. syncq_rest_local false)

syncq_eats : Eats syncq
syncq_eats = bind_eats (expect kind.Syncq) (λ _. syncq_rest false) (expect_eats kind.Syncq) (λ _. syncq_rest_local false)

syncq_capital_local : Local syncq_capital
syncq_capital_local = bind_local (expect kind.SyncqCapital) _ (expect_local kind.SyncqCapital) (λ _. syncq_rest_local true)

syncq_capital_eats : Eats syncq_capital
syncq_capital_eats = bind_eats (expect kind.SyncqCapital) (λ _. syncq_rest true) (expect_eats kind.SyncqCapital) (λ _. syncq_rest_local true)

clause_by_local : (o : Option Kind) → Local (clause_by o)
clause_by_local (Some kind.Assign) = assign_local
clause_by_local (Some kind.Monitor) = monitor_local
clause_by_local (Some kind.Sync) = sync_local
clause_by_local (Some kind.Syncq) = syncq_local
clause_by_local (Some kind.SyncqCapital) = syncq_capital_local
clause_by_local _ = refuse_local

pub clause_local : Local clause
unfolding clause
clause_local = choice_local clause_by clause_by_local

refuse_eats : {A : Type 0} → Eats {A = A} refuse
refuse_eats k x m e = absurd cc

clause_by_eats : (o : Option Kind) → Eats (clause_by o)
clause_by_eats (Some kind.Assign) = assign_eats
clause_by_eats (Some kind.Monitor) = monitor_eats
clause_by_eats (Some kind.Sync) = sync_eats
clause_by_eats (Some kind.Syncq) = syncq_eats
clause_by_eats (Some kind.SyncqCapital) = syncq_capital_eats
clause_by_eats _ = refuse_eats

pub clause_eats : Eats clause
unfolding clause
clause_eats k x m e = clause_by_eats (kind_at k) k x m e
