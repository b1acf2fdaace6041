use Rattle.snl_say.proofs.SymbolText.{symbols_same}
use Rattle.snl_say.proofs.laws.symbols_are_json.Goals as goal

pub returns : goal.returns
returns c = symbols_same
