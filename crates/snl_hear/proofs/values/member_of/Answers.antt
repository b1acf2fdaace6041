use Rattle.std.proofs.Common.{option_map, ap, ◌∙◌}
use Rattle.snl_hear.specs.Values.{data_of}
use Rattle.snl_hear.proofs.Seen.{member_seen, seen_refs}
use Rattle.snl_hear.proofs.values.member_of.Goals as goal

pub returns : goal.returns
returns c =
    seen_refs c.get.result
    ∙ ap (option_map data_of) c.get.ensures
    ∙ member_seen c.args.key.now c.args.value.now
