use Rattle.std.proofs.Common.{◌≡◌, map}
use Rattle.snl_check.specs.Collected.{items_in}
use Rattle.snl_check.specs.Settings.{gathered, setting_at}
use Rattle.snl_check.specs.SettingTrees.{as_setting}
use Rattle.snl_check.proofs.rows.option_rows.program_settings.Given as goal

-- the settings of the items so far are collected
abbrev pub invariant-loop-item : goal.invariant-loop-item
invariant-loop-item l = map as_setting l.settings.items ≡ gathered (setting_at l.row_source.program.text.now (items_in l.row_source.program) l.row_source.links.now.outlines) l.item
