use Rattle.std.proofs.Common.{◌≡◌, drop, map}
use Rattle.std.specs.Option.{option_or}
use Rattle.snl_check.specs.SettingTrees.{as_setting}
use Rattle.snl_check.specs.Settings.{last_setting}
use Rattle.snl_check.proofs.rows.option_rows.last_setting.Given as goal

-- the last of the settings so far holds, unless one of the rest speaks of the letter
abbrev pub invariant-loop-setting : goal.invariant-loop-setting
invariant-loop-setting l =
    option_or (last_setting l.letter (map as_setting (drop l.setting-index l.settings))) l.last ≡ last_setting l.letter (map as_setting l.settings)
