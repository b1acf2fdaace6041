use Rattle.std.proofs.Common.{◌≡◌, ◌∙◌, ap, Some, sym}
use Rattle.std.specs.List.{position}
use Rattle.std.specs.Option.{option_or}
use Rattle.std.specs.Str.{bytes_eq}
use Rattle.snl_scope.specs.declared.names.namespaces.Namespace.TheVariants as namespace
use Rattle.snl_scope.specs.Clauses.{resolve_in}
use Rattle.snl_scope.specs.NameTables.{nearest_under, number_under}
use Rattle.snl_scope.specs.Places.{enclosing_set}
use Rattle.snl_scope.proofs.Resolving.{resolved_in}
use Rattle.snl_scope.proofs.names.scopes.Scopes.resolve_in.Goals as goal

pub returns : goal.returns
returns c =
    let names = c.self.inside.outlines.names in
    let first = c.self.inside.first in
    let ss = c.self.inside.outlines.outlines in
    let item = c.args.item in
    let name = c.args.name.now in
    let n = c.in_ok-name.name in
    let numbered : position (bytes_eq name) names ≡ Some n = sym c.number.ensures ∙ c.in_ok-name.was in
    c.nearest_to.ensures
    ∙ ap (λ p. option_or (number_under first (namespace.State item) n) (nearest_under first p n)) (c.enclosing_set.ensures ∙ ap (λ os. enclosing_set os item) (sym c.self.view_is))
    ∙ resolved_in names first c.self.inside.symbols.items ss c.self.invariant.1 name n numbered item ∙ ap (λ os. resolve_in os item name) c.self.view_is
