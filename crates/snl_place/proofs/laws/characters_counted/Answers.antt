use Rattle.snl_place.proofs.Characters.{utf16_line, utf8_line}
use Rattle.snl_place.proofs.laws.characters_counted.Goals as goal

pub returns : goal.returns
returns c = record { utf8 = utf8_line; utf16 = utf16_line }
