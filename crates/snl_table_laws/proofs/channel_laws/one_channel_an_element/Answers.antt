use Rattle.snl_table_laws.proofs.OneChannel.{one_channel}
use Rattle.snl_table_laws.proofs.channel_laws.one_channel_an_element.Goals as goal

pub returns : goal.returns
returns c = λ text xs. one_channel text xs (c.same_clauses.ensures text xs)
