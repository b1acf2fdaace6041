use Rattle.snl_grammar.proofs.ItemSpells.{item_spells}
use Rattle.snl_grammar.proofs.spelling_laws.item_spelled.Goals as goal

pub returns : goal.returns
returns c = record { spelled = item_spells }
