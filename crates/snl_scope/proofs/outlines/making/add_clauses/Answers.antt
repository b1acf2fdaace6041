use Rattle.std.proofs.Common.{◌≡◌, ◌∷◌, ◌++◌, [], ◌+◌, List, ap, arith, subst, sym, take, ◌∙◌}
use Rattle.std.proofs.lemmas.List.{take_more}
use Rattle.snl_scope.specs.declared.outlines.flat.FlatClause.{FlatClause}
use Rattle.snl_scope.specs.OutlineList.{AddsClauses}
use Rattle.snl_scope.proofs.AddedOutlines.{clauses_more, extends_more}
use Rattle.snl_scope.proofs.outlines.making.add_clauses.Goals as goal

pub loop-clause-preserved : goal.loop-clause-preserved
loop-clause-preserved c =
    let old = c.loop-clause.names in
    let new = c.flat_clause.new.names in
    let clauses = c.args.clauses.now in
    let i = c.loop-clause.clause-index in
    let d = c.clause-item.result in
    let told = c.in_ok-made.ensures in
    let more : take (i + 1) clauses ≡ take i clauses ++ d ∷ [] =
    take_more clauses i d (omega (arith, c.loop-clause-test.true)) ∙ ap (λ e. take i clauses ++ e ∷ []) (sym c.clause-item.is) in
    record {
      names = extends_more c.args.names.now old new c.loop-clause.invariant.names told.names;
      added = subst (AddsClauses new c.args.flat.now.items c.push.new.self.items) (sym more)
          (subst (λ (l : List FlatClause). AddsClauses new c.args.flat.now.items l (take i clauses ++ d ∷ [])) (sym c.in_ok-push.ensures.items)
          (clauses_more old new told.names c.args.flat.now.items c.loop-clause.flat.items (take i clauses) c.in_ok-made.made d c.loop-clause.invariant.added told.told told.numbered));
    }
