use Rattle.std.proofs.Common.{◌≡◌, ◌+◌, ◌++◌, ◌∷◌, [], ap, arith, map, subst, sym, take, ◌∙◌}
use Rattle.std.proofs.lemmas.List.{map_more}
use Rattle.snl_scope.specs.Resolved.{Assigns, linked}
use Rattle.snl_scope.proofs.clauses.assigned.assigned_in.Goals as goal

pub loop-clause-preserved : goal.loop-clause-preserved
loop-clause-preserved c =
    let clauses = c.args.clauses.now in
    let i = c.loop-clause.clause-index in
    let clause = c.clause-item.result in
    let more : map linked (take (i + 1) clauses) ≡ map linked (take i clauses) ++ linked clause ∷ [] =
    map_more linked clauses i clause (omega (arith, c.loop-clause-test.true)) ∙ ap (λ d. map linked (take i clauses) ++ linked d ∷ []) (sym c.clause-item.is) in
    subst (Assigns c.note.new.assigned.items) (sym more) (c.in_ok-note.ensures (map linked (take i clauses)) c.loop-clause.invariant)
