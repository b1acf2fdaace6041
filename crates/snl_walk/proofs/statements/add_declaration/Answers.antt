use Rattle.std.specs.List.{flat_map}
use Rattle.std.proofs.Common.{◌++◌, ◌∙◌, ap, refl}
use Rattle.snl_walk.specs.Declares.{is_event_flag}
use Rattle.snl_walk.specs.Statements.{found_in_declarator}
use Rattle.snl_walk.specs.Tokens.{token_bytes}
use Rattle.snl_facts.specs.Lists.{at_end}
use Rattle.snl_walk.proofs.Loops.{one_more_of_each}
use Rattle.snl_walk.proofs.statements.add_declaration.Goals as goal

pub loop-declarator-preserved : goal.loop-declarator-preserved
loop-declarator-preserved c =
    one_more_of_each (found_in_declarator (token_bytes c.args.source.now.text.now c.args.source.now.tokens.now) c.args.names.now (is_event_flag c.args.declaration.now.of.base) c.args.in_block)
    c.as_slice-declarator-items.result.now c.loop-declarator.declarator-index c.declarator-item.result c.loop-declarator.found.items _ _ c.loop-declarator-test.true c.declarator-item.is
    c.loop-declarator.invariant
    (c.in_ok-add_declarator.ensures ∙ ap (λ f. c.loop-declarator.found.items ++ found_in_declarator (token_bytes c.args.source.now.text.now c.args.source.now.tokens.now) c.args.names.now f c.args.in_block c.declarator-item.result) c.is_event_flag-is_flag.ensures)

pub returns : goal.returns
returns c =
    let all = flat_map (found_in_declarator (token_bytes c.args.source.now.text.now c.args.source.now.tokens.now) c.args.names.now (is_event_flag c.args.declaration.now.of.base) c.args.in_block) in
    at_end all refl c.as_slice-declarator-items.result.now c.loop-declarator.declarator-index c.loop-declarator.found.items _ c.loop-declarator-test.false c.loop-declarator.invariant
    ∙ ap (λ ds. c.args.found.now.items ++ all ds) c.as_slice-declarator-items.ensures
