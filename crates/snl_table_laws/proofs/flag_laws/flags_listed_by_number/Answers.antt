use Rattle.snl_table_laws.proofs.FlagLines.{flag_has_line}
use Rattle.snl_table_laws.proofs.flag_laws.flags_listed_by_number.Goals as goal

pub returns : goal.returns
returns c = flag_has_line
