use Rattle.snl_excerpt.specs.Safe.{IsNoCommand}
use Rattle.snl_excerpt.proofs.SafeLemmas.{no_commands, shown_holds}
use Rattle.snl_excerpt.proofs.laws.nothing_commands.Goals as goal

pub returns : goal.returns
returns c = shown_holds IsNoCommand no_commands
