use Rattle.snl_say.proofs.Nesting.{all_kept, all_nested}
use Rattle.snl_say.proofs.laws.symbols_are_nested.Goals as goal

pub returns : goal.returns
returns c = record {
  kept = all_kept;
  nested = all_nested;
}
