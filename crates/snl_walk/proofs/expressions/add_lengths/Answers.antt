use Rattle.std.proofs.Common.{List, Option, refl, false, map}
use Rattle.std.specs.List.{flat_map}
use Rattle.snl_grammar.specs.declared.tree.expression.Expr.{Expr}
use Rattle.snl_walk.specs.Expressions.{names_if}
use Rattle.snl_walk.specs.Scopes.{seen}
use Rattle.snl_walk.specs.Tokens.{token_bytes}
use Rattle.snl_facts.specs.Lists.{at_end}
use Rattle.snl_walk.proofs.Loops.{one_more_mapped}
use Rattle.snl_walk.proofs.expressions.add_lengths.Goals as goal

pub loop-length-preserved : goal.loop-length-preserved
loop-length-preserved c =
    one_more_mapped (seen (token_bytes c.args.source.now.text.now c.args.source.now.tokens.now) c.args.names.now false) (λ (xs : List (Option Expr)). flat_map names_if xs) (λ (x : Option Expr). names_if x)
    (λ x xs. refl) c.args.lengths.now c.loop-length.length-index c.length-item.result c.loop-length.found.items _ _ c.loop-length-test.true c.length-item.is c.loop-length.invariant
    c.in_ok-add_optional.ensures

pub returns : goal.returns
returns c = at_end (λ (xs : List (Option Expr)). map (seen (token_bytes c.args.source.now.text.now c.args.source.now.tokens.now) c.args.names.now false) (flat_map names_if xs)) refl c.args.lengths.now c.loop-length.length-index c.loop-length.found.items _ c.loop-length-test.false c.loop-length.invariant
