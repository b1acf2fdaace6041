use Rattle.std.proofs.Common.{rules, ◌<◌, ◌-◌, length, subst, sym}
use Rattle.std.specs.List.{All}
use Rattle.std.proofs.lemmas.List.Elements.{All-get_or}
use Rattle.snl_lex.specs.Pieces.{LiesIn}
use Rattle.snl_reading.specs.ItemsRead.{ReadFrom}
use Rattle.snl_reading.specs.declared.items.ReadItem.{ReadItem}
use Rattle.snl_rule_tests.proofs.findings.told_of_last.Goals as goal

pub told_of-requires : goal.told_of-requires
told_of-requires c =
    let items = c.args.items.now in
    let item = c.index-items-number.result in
    let number = length items - 1 in
    let within : number < length items = search rules in
    subst (λ (x : ReadItem). All (LiesIn c.args.text.now) x.tokens.now)
    (sym c.index-items-number.is)
    (All-get_or (ReadFrom c.args.text.now) items number item within c.requires)
