use Rattle.snl_table_laws.proofs.Assigns.{sound_apart}
use Rattle.snl_table_laws.proofs.channel_laws.sound_assigns_apart.Goals as goal

pub returns : goal.returns
returns c = sound_apart
