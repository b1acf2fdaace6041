use Rattle.std.proofs.Common.{◌∙◌, ap}
use Rattle.std.specs.Option.{option_or}
use Rattle.snl_scope.specs.declared.names.namespaces.Namespace.TheVariants as namespace
use Rattle.snl_scope.specs.NameTables.{nearest_under, number_under}
use Rattle.snl_scope.specs.OutlineList.{name_at}
use Rattle.snl_scope.proofs.Resolving.{resolved_in}
use Rattle.snl_scope.proofs.clauses.resolved.Place.resolve.Goals as goal

pub returns : goal.returns
returns c = λ ss symbols f p.
    let names = c.args.self.outlines.now.names in
    let first = c.args.self.first.now in
    let n = c.args.name in
    c.nearest_to.ensures
    ∙ ap (λ q. option_or (number_under first (namespace.State c.args.self.item) n) (nearest_under first q n)) p
    ∙ resolved_in names first symbols ss f (name_at names n) n (c.differ.ensures n c.requires.name) c.args.self.item
