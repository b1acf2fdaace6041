use Rattle.std.proofs.Common.{List, [], ◌∷◌, ◌++◌, ◌∙◌, false, map, ap, refl}
use Rattle.snl_grammar.specs.declared.tree.declaration.Declarator.{Declarator}
use Rattle.snl_walk.specs.Declares.{declare, is_event_flag}
use Rattle.snl_facts.specs.Lists.{at_end}
use Rattle.snl_walk.proofs.Loops.{one_more}
use Rattle.snl_walk.proofs.declares.add_in_block.Goals as goal

pub loop-declarator-preserved : goal.loop-declarator-preserved
loop-declarator-preserved c =
    let own = λ (d : Declarator). declare d.name (is_event_flag c.args.declaration.now.of.base) false in
    one_more (λ (ds : List Declarator). map own ds) (λ (d : Declarator). own d ∷ []) (λ d ds. refl) c.as_slice-declarator-items.result.now c.loop-declarator.declarator-index
    c.declarator-item.result c.loop-declarator.declared.items _ _ c.loop-declarator-test.true c.declarator-item.is c.loop-declarator.invariant
    (c.in_ok-push.ensures.items ∙ ap (λ f. c.loop-declarator.declared.items ++ declare c.declarator-item.result.name f false ∷ []) c.is_event_flag-flag.ensures)

pub returns : goal.returns
returns c =
    let all = λ (ds : List Declarator). map (λ (d : Declarator). declare d.name (is_event_flag c.args.declaration.now.of.base) false) ds in
    at_end all refl c.as_slice-declarator-items.result.now c.loop-declarator.declarator-index c.loop-declarator.declared.items _ c.loop-declarator-test.false c.loop-declarator.invariant
    ∙ ap (λ ds. c.args.declared.now.items ++ all ds) c.as_slice-declarator-items.ensures
