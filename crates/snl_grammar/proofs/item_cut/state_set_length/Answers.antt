use Rattle.std.proofs.Common.{sym, ◌∙◌}
use Rattle.snl_grammar.proofs.StateSets.{state_set_named, state_set_whole}
use Rattle.snl_grammar.proofs.item_cut.state_set_length.Goals as goal

pub returns-then-not-is_open_at : goal.returns-then-not-is_open_at
returns-then-not-is_open_at c =
    sym (state_set_named c.args.rest.now c.requires (sym c.is_name_at.ensures ∙ c.if-not-is_name_at.false) (sym c.is_open_at.ensures ∙ c.if-not-is_open_at.true))

pub returns-else-not-is_open_at : goal.returns-else-not-is_open_at
returns-else-not-is_open_at c =
    sym (state_set_whole c.args.rest.now c.requires (sym c.is_name_at.ensures ∙ c.if-not-is_name_at.false) (sym c.is_open_at.ensures ∙ c.if-not-is_open_at.false))
