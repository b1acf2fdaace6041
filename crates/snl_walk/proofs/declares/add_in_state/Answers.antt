use Rattle.std.specs.Str.{bytes_eq}
use Rattle.std.specs.List.{list_any}
use Rattle.std.proofs.Common.{List, ◌++◌, ◌∙◌, ap, map, refl}
use Rattle.snl_grammar.specs.declared.tree.declaration.Declarator.{Declarator}
use Rattle.snl_walk.specs.Declares.{declare, is_event_flag}
use Rattle.snl_walk.specs.Tokens.{token_bytes}
use Rattle.snl_facts.specs.Lists.{at_end}
use Rattle.snl_walk.proofs.declares.add_in_state.Goals as goal

pub returns : goal.returns
returns c =
    let bytes = (token_bytes c.args.source.now.text.now c.args.source.now.tokens.now) in
    let all = λ (ds : List Declarator). map (λ (d : Declarator). declare d.name (is_event_flag c.args.declaration.now.of.base) (list_any (bytes_eq (bytes d.name)) c.args.assigned.now)) ds in
    at_end all refl c.as_slice-declarator-items.result.now c.loop-declarator.declarator-index c.loop-declarator.declared.items _ c.loop-declarator-test.false c.loop-declarator.invariant
    ∙ ap (λ ds. c.args.declared.now.items ++ all ds) c.as_slice-declarator-items.ensures
