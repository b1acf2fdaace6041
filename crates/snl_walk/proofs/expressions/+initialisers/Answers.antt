use Rattle.std.proofs.Common.{List, false, map, refl}
use Rattle.snl_grammar.specs.declared.tree.declaration.Init.{Init}
use Rattle.snl_walk.specs.Expressions.{names_in_init, names_in_values}
use Rattle.snl_walk.specs.Scopes.{seen}
use Rattle.snl_walk.specs.Tokens.{token_bytes}
use Rattle.snl_facts.specs.Lists.{at_end}
use Rattle.snl_walk.proofs.Loops.{one_more_mapped}
use Rattle.snl_walk.proofs.expressions.+initialisers.Goals as goal

pub add_inits-loop-value-preserved : goal.add_inits-loop-value-preserved
add_inits-loop-value-preserved t c =
    one_more_mapped (seen (token_bytes c.args.source.now.text.now c.args.source.now.tokens.now) c.args.names.now false) (λ (xs : List Init). names_in_values (map names_in_init xs)) (λ (x : Init). names_in_init x) (λ x xs. refl)
    c.args.values.now c.loop-value.value-index c.value-item.result c.loop-value.found.items _ _ c.loop-value-test.true c.value-item.is c.loop-value.invariant c.in_ok-add_init.ensures

pub add_inits-returns : goal.add_inits-returns
add_inits-returns t c = at_end (λ (xs : List Init). map (seen (token_bytes c.args.source.now.text.now c.args.source.now.tokens.now) c.args.names.now false) (names_in_values (map names_in_init xs))) refl c.args.values.now c.loop-value.value-index c.loop-value.found.items _ c.loop-value-test.false c.loop-value.invariant
