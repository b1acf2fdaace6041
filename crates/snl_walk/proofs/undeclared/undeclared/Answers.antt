use Rattle.std.proofs.Common.{◌∙◌, ap, sym, refl, List}
use Rattle.snl_walk.specs.Uses.{tokens_where}
use Rattle.snl_walk.specs.Undeclared.{firsts_after, is_undeclared}
use Rattle.snl_walk.specs.declared.occurrence.Occurrence.{Occurrence}
use Rattle.snl_walk.specs.Tokens.{token_bytes}
use Rattle.snl_facts.specs.Lists.{at_end}
use Rattle.snl_walk.proofs.OccurrenceLoops.{declared_there, undeclared_there}
use Rattle.snl_walk.proofs.undeclared.undeclared.Goals.{then-is_undeclared+in_ok-add_first, else-is_undeclared}
use Rattle.snl_walk.proofs.undeclared.undeclared.Goals as goal

pub loop-occurrence-preserved : goal.loop-occurrence-preserved
loop-occurrence-preserved g c =
    let bytes = (token_bytes c.args.source.now.text.now c.args.source.now.tokens.now) in
    let outer = g.O.OtherItems.outer_of c.args.others.now in
    elim c.if-is_undeclared.branch [
      | then-is_undeclared+in_ok-add_first w ↦
          undeclared_there c.args.found.now c.loop-occurrence.occurrence-index _ c.loop-occurrence-test.true bytes outer c.bytes-name.result.now c.bytes-name.ensures
          c.loop-occurrence.names c.loop-occurrence.firsts.items _ _ _ (sym c.is_undeclared.ensures ∙ w.if-is_undeclared.true) c.loop-occurrence.invariant
          (w.names-is ∙ w.in_ok-add_first.ensures.names) (ap (λ v. v.items) w.firsts-is ∙ w.in_ok-add_first.ensures.firsts)
      | else-is_undeclared w ↦
          declared_there c.args.found.now c.loop-occurrence.occurrence-index _ c.loop-occurrence-test.true bytes outer c.bytes-name.result.now c.bytes-name.ensures
          c.loop-occurrence.names c.loop-occurrence.firsts.items _ _ _ (sym c.is_undeclared.ensures ∙ w.if-is_undeclared.false) c.loop-occurrence.invariant
          w.names-is (ap (λ v. v.items) w.firsts-is)
    ]

pub returns : goal.returns
returns g c = at_end (λ (os : List Occurrence). firsts_after (token_bytes c.args.source.now.text.now c.args.source.now.tokens.now) c.loop-occurrence.names (tokens_where (λ (o : Occurrence). is_undeclared (g.O.OtherItems.outer_of c.args.others.now) ((token_bytes c.args.source.now.text.now c.args.source.now.tokens.now) o.token) o) os)) refl c.args.found.now c.loop-occurrence.occurrence-index c.loop-occurrence.firsts.items _ c.loop-occurrence-test.false c.loop-occurrence.invariant
