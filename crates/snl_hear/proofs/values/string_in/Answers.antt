use Rattle.std.proofs.Common.{◌∙◌}
use Rattle.snl_hear.proofs.Seen.{string_seen}
use Rattle.snl_hear.proofs.values.string_in.Goals as goal

pub returns : goal.returns
returns c = c.as_str.ensures ∙ string_seen c.args.value.now
