use Rattle.snl_token_laws.proofs.CharacterEnds.{characters_held}
use Rattle.snl_token_laws.proofs.characters.pieces_hold_characters.Goals as goal

pub returns : goal.returns
returns c = characters_held
