use Rattle.snl_table_laws.proofs.FlagRows.{flag_has_row, one_flag, row_has_flag}
use Rattle.snl_table_laws.proofs.flag_laws.flags_have_rows.Goals as goal

pub returns-clause-row : goal.returns-clause-row
returns-clause-row c = flag_has_row

pub returns-clause-flag : goal.returns-clause-flag
returns-clause-flag c = row_has_flag

pub returns-clause-apart : goal.returns-clause-apart
returns-clause-apart c = one_flag
