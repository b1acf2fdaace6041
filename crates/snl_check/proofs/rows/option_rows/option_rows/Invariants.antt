use Rattle.std.proofs.Common.{◌≡◌, ◌++◌, drop, map}
use Rattle.std.specs.List.{filter_map}
use Rattle.snl_check.specs.SettingTrees.{as_setting}
use Rattle.snl_check.specs.Settings.{option_row_of}
use Rattle.snl_check.proofs.rows.option_rows.option_rows.Given as goal

-- the rows so far and those of the rest are all
abbrev pub invariant-loop-letter : goal.invariant-loop-letter
invariant-loop-letter l =
    let row = option_row_of (map as_setting l.settings) in
    l.rows.items ++ filter_map row (drop l.letter-index l.letters) ≡ filter_map row l.letters
