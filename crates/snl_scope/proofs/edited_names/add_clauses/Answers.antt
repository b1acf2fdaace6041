use Rattle.std.proofs.Common.{◌≡◌, ℕ, ◌+◌, ◌++◌, ◌∷◌, [], List, ap, ap₂, append_assoc, arith, map, sym, take, ◌∙◌}
use Rattle.std.proofs.lemmas.List.{map_more, map_push}
use Rattle.snl_summary.specs.declared.summary.VariableClause.{VariableClause}
use Rattle.snl_scope.proofs.edited_names.add_clauses.Goals as goal

abbrev name_of : VariableClause → List ℕ
name_of d = d.variable.name

pub loop-clause-preserved : goal.loop-clause-preserved
loop-clause-preserved c =
    let clauses = c.args.clauses.now in
    let i = c.loop-clause.clause-index in
    let clause = c.clause-item.result in
    let before : List (List ℕ) = map (λ n. n.now) c.args.names.now.items in
    let here : List (List ℕ) = map name_of (take i clauses) in
    let more : map name_of (take (i + 1) clauses) ≡ here ++ name_of clause ∷ [] =
    map_more name_of clauses i clause (omega (arith, c.loop-clause-test.true)) ∙ ap (λ d. here ++ name_of d ∷ []) (sym c.clause-item.is) in
    ap (map (λ n. n.now)) c.in_ok-push.ensures.items ∙ map_push (λ n. n.now) c.loop-clause.names.items _
    ∙ ap₂ (λ (l : List (List ℕ)) (n : List ℕ). l ++ n ∷ []) c.loop-clause.invariant c.bytes.ensures ∙ append_assoc before here (name_of clause ∷ [])
    ∙ ap (λ l. before ++ l) (sym more)
