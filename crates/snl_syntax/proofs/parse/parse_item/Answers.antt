use Rattle.snl_grammar.specs.KindLaws.{some_kinds}
use Rattle.snl_grammar.specs.Parsing.{kinds_in}
use Rattle.snl_syntax.proofs.ParserAnswers.{answer_found, answer_spelled, answer_only, answer_none, answer_fault}
use Rattle.snl_syntax.proofs.parse.parse_item.Goals as goal

pub returns-in-None-clause-found : goal.returns-in-None-clause-found
returns-in-None-clause-found c = answer_found (kinds_in c.args.text.now c.args.tokens.now) c.item_read.ensures.told c.read_item.result c.read_item.ensures.tree

pub returns-in-None-clause-spelled : goal.returns-in-None-clause-spelled
returns-in-None-clause-spelled c = answer_spelled (kinds_in c.args.text.now c.args.tokens.now) c.item_read.ensures.told c.item_spelled.ensures.spelled c.read_item.result c.read_item.ensures.tree

pub returns-in-None-clause-only : goal.returns-in-None-clause-only
returns-in-None-clause-only c = answer_only (kinds_in c.args.text.now c.args.tokens.now) c.item_read.ensures.told c.one_item.ensures c.read_item.result c.read_item.ensures.tree

pub returns-in-None-clause-no_item : goal.returns-in-None-clause-no_item
returns-in-None-clause-no_item c = answer_none (kinds_in c.args.text.now c.args.tokens.now) c.item_read.ensures.read c.read_item.result c.read_item.ensures.none

pub returns-in-None-clause-fault : goal.returns-in-None-clause-fault
returns-in-None-clause-fault c = answer_fault (kinds_in c.args.text.now c.args.tokens.now) c.blamed_at_fault.ensures c.read_item.result (some_kinds c.args.text.now c.args.tokens.now c.requires.some) c.read_item.ensures.none c.read_item.ensures.blamed
