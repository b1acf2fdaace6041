use Rattle.std.proofs.Common.{refl, List, map, ◌∙◌, ap}
use Rattle.std.specs.List.{flat_map}
use Rattle.snl_facts.specs.Lists.{at_end}
use Rattle.snl_check.specs.declared.rows.item_clauses.ResolvedClause.{ResolvedClause}
use Rattle.snl_check.specs.Channels.{channels_of_clause}
use Rattle.snl_check.specs.Collected.{assigned, items_in, resolved}
use Rattle.snl_check.proofs.rows.channels.assigned_channels.Goals as goal

pub returns : goal.returns
returns c =
    at_end (λ (cs : List ResolvedClause). flat_map (channels_of_clause c.args.row_source.now.program.text.now (items_in c.args.row_source.now.program)) (map resolved cs)) refl c.args.row_source.now.clauses.now c.loop-clause.clause-index (map assigned c.loop-clause.channels.items) _ c.loop-clause-test.false c.loop-clause.invariant
    ∙ ap (flat_map (channels_of_clause c.args.row_source.now.program.text.now (items_in c.args.row_source.now.program))) c.requires.clauses
