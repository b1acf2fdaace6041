use Rattle.std.proofs.Common.{map, ap, subst, ◌∙◌}
use Rattle.std.specs.List.{All}
use Rattle.snl_lex.specs.Pieces.{tokens_of}
use Rattle.snl_kept.specs.Parts.{IsPart, item_of_part}
use Rattle.snl_kept.specs.Program.{items_of}
use Rattle.snl_kept.proofs.Trees.{same_items}
use Rattle.snl_kept.proofs.ways.whole.rejudge.retell_parts.Goals as goal

pub recheck_after-requires-clause-tokens : goal.recheck_after-requires-clause-tokens
recheck_after-requires-clause-tokens c = c.args.cut.now.tokens_are ∙ ap tokens_of c.requires.text

pub recheck_after-requires-clause-items : goal.recheck_after-requires-clause-items
recheck_after-requires-clause-items c =
    let cut = c.args.cut.now in
    same_items cut.text.now cut.tokens.now cut.ends.now (map (item_of_part cut.tokens.now) c.args.parts.now) cut.tokens_are cut.ends_are c.requires.items ∙ ap items_of c.requires.text

pub recheck_after-requires-clause-parts : goal.recheck_after-requires-clause-parts
recheck_after-requires-clause-parts c =
    let cut = c.args.cut.now in
    subst (λ t. All (IsPart t cut.tokens.now) c.args.parts.now) c.requires.text c.requires.parts
