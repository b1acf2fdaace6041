use Rattle.std.proofs.Common.{rules, sym, ap, ◌∙◌, cond, filter}
use Rattle.std.proofs.lemmas.List.Elements.{filter_from_retain}
use Rattle.snl_shown.specs.References.{is_use}
use Rattle.snl_shown.proofs.references.keep_asked.Goals as goal

pub returns-then-not-includes_declaration : goal.returns-then-not-includes_declaration
returns-then-not-includes_declaration c =
    let found = c.args.references.now.items in
    filter_from_retain _ is_use (λ p x b q k. search rules) _ found _ c.retain.ensures.filtered
    ∙ sym (ap (λ b. cond b found (filter is_use found)) c.if-not-includes_declaration.true)
