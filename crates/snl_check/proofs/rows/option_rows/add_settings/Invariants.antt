use Rattle.std.proofs.Common.{◌≡◌, ◌++◌, drop, map}
use Rattle.std.specs.List.{flat_map}
use Rattle.snl_walk.specs.Tokens.{token_bytes}
use Rattle.snl_check.specs.SettingTrees.{as_setting}
use Rattle.snl_check.specs.Settings.{settings_in_member}
use Rattle.snl_check.specs.ItemTokens.{own_tokens}
use Rattle.snl_check.proofs.rows.option_rows.add_settings.Given as goal

-- the settings so far and those of the rest are those of all
abbrev pub invariant-loop-member : goal.invariant-loop-member
invariant-loop-member l =
    let bytes = token_bytes l.source.text.now (own_tokens l.source) in
    map as_setting l.settings.items ++ flat_map (settings_in_member bytes) (drop l.member-index l.members)
    ≡ map as_setting l.initial.settings.items ++ flat_map (settings_in_member bytes) l.members
