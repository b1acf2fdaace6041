use Rattle.std.proofs.Common.{◌≡◌, List, ap, refl, subst, sym, ◌∙◌}
use Rattle.snl_summary.specs.declared.summary.ItemKind.{ItemKind}
use Rattle.snl_summary.specs.declared.summary.Outline.{Outline}
use Rattle.snl_scope.specs.LinkedItems.{LinkedItems}
use Rattle.snl_scope.specs.Renamed.{ClausesAlike}
use Rattle.snl_scope.proofs.FoundAlike.{clauses_alike, finds_alike, kept_kinds, kinds_by}
use Rattle.snl_scope.proofs.renamed_links.link_renamed.Goals as goal

pub with_names-requires-clause-found : goal.with_names-requires-clause-found
with_names-requires-clause-found c =
    finds_alike c.args.before.now.outlines c.in_ok-after.after.scopes c.args.item c.args.was.now c.args.made.now.outline c.requires.was c.in_ok-after.ensures.scopes
    (c.if-not-stays_of_its_kind.ensures.word refl) c.args.renaming c.args.names.now c.requires.names (c.if-not-are_off_clauses.ensures refl) (c.if-not-are_free.ensures refl)

pub with_names-requires-clause-kinds : goal.with_names-requires-clause-kinds
with_names-requires-clause-kinds c =
    let held : c.deref.result.now ≡ c.args.before.now.kinds = c.deref.ensures.value ∙ ap (λ (l : LinkedItems). l.kinds) c.before-2.view_is in
    c.in_ok-kinds.ensures
    ∙ ap (λ (ks : List ItemKind). kinds_by ks c.args.item c.args.made.now.kind) held
    ∙ kept_kinds c.args.before.now.kinds c.args.item c.args.made.now.kind (c.if-not-stays_of_its_kind.ensures.kind refl)

pub returns-clause-clauses : goal.returns-clause-clauses
returns-clause-clauses c =
    let before = c.args.before.now.outlines in
    let after = c.in_ok-after.after.scopes in
    let is : c.in_ok-links.links.outlines ≡ after = ap (λ (l : LinkedItems). l.outlines) c.in_ok-links.ensures.links in
    subst (λ (os : List Outline). ClausesAlike before os) (sym is)
    (clauses_alike before after
    (finds_alike before after c.args.item c.args.was.now c.args.made.now.outline c.requires.was c.in_ok-after.ensures.scopes
    (c.if-not-stays_of_its_kind.ensures.word refl) c.args.renaming c.args.names.now c.requires.names (c.if-not-are_off_clauses.ensures refl) (c.if-not-are_free.ensures refl))
    (c.if-not-leave_the_rest.ensures.flags refl))
