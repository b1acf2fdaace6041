use Rattle.std.proofs.Common.{refl, map}
use Rattle.std.specs.List.{flat_map}
use Rattle.snl_facts.specs.Lists.{at_end}
use Rattle.snl_walk.specs.Tokens.{token_bytes}
use Rattle.snl_check.specs.Settings.{settings_in_member}
use Rattle.snl_check.specs.SettingTrees.{as_setting}
use Rattle.snl_check.specs.ItemTokens.{own_tokens}
use Rattle.snl_check.proofs.rows.option_rows.add_settings.Goals as goal

pub returns : goal.returns
returns c =
    at_end (flat_map (settings_in_member (token_bytes c.args.source.now.text.now (own_tokens c.args.source.now)))) refl c.args.members.now c.loop-member.member-index (map as_setting c.loop-member.settings.items) _ c.loop-member-test.false c.loop-member.invariant
