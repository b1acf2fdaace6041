-- The settings that the code has collected, as settings of a text.
use Rattle.snl_check.specs.declared.rows.option_rows.LetterSetting.{LetterSetting}
use Rattle.snl_check.specs.Settings as settings

abbrev pub as_setting : LetterSetting → settings.LetterSetting
as_setting s = record { letters = s.letters.now; is_set = s.is_set }
