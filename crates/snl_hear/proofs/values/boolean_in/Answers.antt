use Rattle.std.proofs.Common.{◌∙◌}
use Rattle.snl_hear.proofs.Seen.{boolean_seen}
use Rattle.snl_hear.proofs.values.boolean_in.Goals as goal

pub returns : goal.returns
returns c = c.as_bool.ensures ∙ boolean_seen c.args.value.now
