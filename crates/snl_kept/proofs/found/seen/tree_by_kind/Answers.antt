use Rattle.std.proofs.Common.{ap, sym, ◌∙◌}
use Rattle.snl_scope.specs.Order.{is_faulty}
use Rattle.snl_kept.specs.Parts.{tree_of_part}
use Rattle.snl_kept.proofs.SoundTrees.{no_tree_where_faulty, tree_where_sound}
use Rattle.snl_kept.proofs.found.seen.tree_by_kind.Goals as goal

pub known_tree-requires : goal.known_tree-requires
known_tree-requires c =
    tree_where_sound (tree_of_part c.args.part.now)
    (ap is_faulty (sym c.requires) ∙ sym c.is_faulty.ensures ∙ c.if-is_faulty.false)

pub returns-then-is_faulty : goal.returns-then-is_faulty
returns-then-is_faulty c =
    no_tree_where_faulty (tree_of_part c.args.part.now)
    (ap is_faulty (sym c.requires) ∙ sym c.is_faulty.ensures ∙ c.if-is_faulty.true)
