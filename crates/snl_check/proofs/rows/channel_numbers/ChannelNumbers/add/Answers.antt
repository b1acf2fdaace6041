use Rattle.std.proofs.Common.{subst}
use Rattle.snl_check.specs.Numbered.{Adds, same_key}
use Rattle.snl_check.proofs.Numbers.{adds_first}
use Rattle.snl_check.proofs.rows.channel_numbers.ChannelNumbers.add.Goals as goal

pub returns : goal.returns
returns c =
    let added = c.in_ok-add_first.ensures in
    subst (λ l. Adds l c.add_first.new.self (same_key c.args.key) c.args.number) c.self.view_is
    (adds_first c.args.key c.args.number c.self.inside.held c.add_first.new.self c.in_ok-add_first.field-0 added.seen added.stays added.put)
