use Rattle.std.proofs.Common.{◌≡◌, ℕ, ◌+◌, ◌++◌, ◌∷◌, [], List, None, ap, ap₂, append_assoc, arith, get_or, map, sym, take, ◌∙◌}
use Rattle.std.proofs.lemmas.List.{map_more, map_push, take_all}
use Rattle.std.proofs.lemmas.Simd.{map-map}
use Rattle.snl_facts.specs.Each.{each_got}
use Rattle.snl_scope.specs.Clauses.{LinkedClause, linked_clause}
use Rattle.snl_scope.specs.OutlineList.{IsClauseNumbered, clause_by}
use Rattle.snl_scope.specs.Resolved.{linked}
use Rattle.snl_scope.proofs.Searches.{index-at}
use Rattle.snl_scope.specs.declared.outlines.flat.FlatClause.{FlatClause}
use Rattle.snl_summary.specs.declared.summary.ClauseKind.TheVariants as kind
use Rattle.snl_summary.specs.declared.summary.Coverage.TheVariants as coverage
use Rattle.snl_scope.proofs.clauses.resolved.Place.add_clauses.Goals as goal

-- what a read after the end would give
abbrev none : FlatClause
none = record { variable = record { name = 0; token = 0 }; flag = None; coverage = coverage.Whole; kind = kind.Assign }

pub resolve_clause-requires-clause-names : goal.resolve_clause-requires-clause-names
resolve_clause-requires-clause-names c =
    let i = c.loop-clause.clause-index in
    each_got (IsClauseNumbered c.args.self.outlines.now.names) c.args.clauses.now i (get_or c.args.clauses.now i none) c.requires.names
    (index-at c.args.clauses.now i none (omega (arith, c.loop-clause-test.true)))

pub loop-clause-preserved : goal.loop-clause-preserved
loop-clause-preserved c = λ ss symbols f p.
    let names = c.args.self.outlines.now.names in
    let link : FlatClause → LinkedClause = λ d. linked_clause ss c.args.self.item (clause_by names d) in
    let clauses = c.args.clauses.now in
    let i = c.loop-clause.clause-index in
    let clause = get_or clauses i none in
    let before : List LinkedClause = map linked c.args.found.now.items in
    let here : List LinkedClause = map link (take i clauses) in
    let apart : (n : ℕ) → map (linked_clause ss c.args.self.item) (map (clause_by names) (take n clauses)) ≡ map link (take n clauses) =
    λ n. map-map (linked_clause ss c.args.self.item) (clause_by names) (take n clauses) in
    let more : map link (take (i + 1) clauses) ≡ here ++ link clause ∷ [] =
    map_more link clauses i none (omega (arith, c.loop-clause-test.true)) in
    ap (map linked) c.in_ok-push.ensures.items ∙ map_push linked c.loop-clause.found.items c.resolve_clause.result
    ∙ ap₂ (λ (l : List LinkedClause) (d : LinkedClause). l ++ d ∷ []) (c.loop-clause.invariant ss symbols f p ∙ ap (λ l. before ++ l) (apart i)) (c.resolve_clause.ensures ss symbols f p)
    ∙ append_assoc before here (link clause ∷ []) ∙ ap (λ l. before ++ l) (sym more ∙ sym (apart (i + 1)))

pub returns : goal.returns
returns c = λ ss symbols f p.
    let clauses = c.args.clauses.now in
    c.loop-clause.invariant ss symbols f p
    ∙ ap (λ (l : List FlatClause). map linked c.args.found.now.items ++ map (linked_clause ss c.args.self.item) (map (clause_by c.args.self.outlines.now.names) l))
    (take_all c.loop-clause.clause-index clauses (omega (arith, c.loop-clause-test.false)))
