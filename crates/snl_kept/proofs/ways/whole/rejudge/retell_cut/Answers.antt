use Rattle.std.proofs.Common.{map, ap, sym, subst, ◌∙◌}
use Rattle.std.specs.List.{All}
use Rattle.snl_kept.specs.Parts.{IsPart, item_of_part}
use Rattle.snl_kept.proofs.ways.whole.rejudge.retell_cut.Goals as goal

pub retell_parts-requires-clause-items : goal.retell_parts-requires-clause-items
retell_parts-requires-clause-items c =
    let cut = c.args.cut.now in
    ap (map (item_of_part cut.tokens.now)) c.deref.ensures.value ∙ c.in_ok-parts.ensures.items

pub retell_parts-requires-clause-parts : goal.retell_parts-requires-clause-parts
retell_parts-requires-clause-parts c =
    let cut = c.args.cut.now in
    subst (All (IsPart cut.text.now cut.tokens.now)) (sym c.deref.ensures.value) c.in_ok-parts.ensures.inside
