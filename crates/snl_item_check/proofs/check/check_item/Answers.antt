use Rattle.std.proofs.Common.{ap, ◌∙◌}
use Rattle.snl_walk.specs.Tokens.{token_bytes}
use Rattle.snl_item_check.specs.View.{is_in_set, known_of, leads_to}
use Rattle.snl_item_check.proofs.Bare.{no_faults, no_target_uses, no_wake_uses}
use Rattle.snl_item_check.proofs.check.check_item.Goals as goal

pub returns-in-Empty-clause-faults : goal.returns-in-Empty-clause-faults
returns-in-Empty-clause-faults c =
    let outlines = c.args.links.now.outlines in
    let item = c.args.item in
    let bytes = token_bytes c.args.text.now c.args.tokens.now in
    ap (λ r. r.faults) c.clean.ensures
    ∙ no_faults bytes (is_in_set outlines item) (known_of outlines item) (leads_to outlines item) c.args.tree.now c.in-Empty.is

pub returns-in-Empty-clause-wake_uses : goal.returns-in-Empty-clause-wake_uses
returns-in-Empty-clause-wake_uses c =
    ap (λ r. r.wake_uses) c.clean.ensures ∙ no_wake_uses (token_bytes c.args.text.now c.args.tokens.now) c.args.tree.now c.in-Empty.is

pub returns-in-Empty-clause-target_uses : goal.returns-in-Empty-clause-target_uses
returns-in-Empty-clause-target_uses c =
    ap (λ r. r.target_uses) c.clean.ensures ∙ no_target_uses (token_bytes c.args.text.now c.args.tokens.now) c.args.tree.now c.in-Empty.is
