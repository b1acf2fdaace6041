use Rattle.std.proofs.Common.{refl}
use Rattle.std.specs.Prelude.{codes}
use Rattle.snl_table_laws.proofs.Rows.{channel_is_line, flag_is_line, goto_is_line, option_is_line, program_is_line, set_is_line, state_is_line, wake_is_line, when_is_line}
use Rattle.snl_table_laws.proofs.listing_laws.rows_are_lines.Goals as goal

pub returns-clause-program : goal.returns-clause-program
returns-clause-program c = program_is_line

pub returns-clause-option : goal.returns-clause-option
returns-clause-option c = option_is_line (codes "") refl

pub returns-clause-state_option : goal.returns-clause-state_option
returns-clause-state_option c = option_is_line (codes "  ") refl

pub returns-clause-flag : goal.returns-clause-flag
returns-clause-flag c = flag_is_line

pub returns-clause-channel : goal.returns-clause-channel
returns-clause-channel c = channel_is_line

pub returns-clause-set : goal.returns-clause-set
returns-clause-set c = set_is_line

pub returns-clause-state : goal.returns-clause-state
returns-clause-state c = state_is_line

pub returns-clause-transition : goal.returns-clause-transition
returns-clause-transition c = when_is_line

pub returns-clause-goto : goal.returns-clause-goto
returns-clause-goto c = goto_is_line

pub returns-clause-wake_up_set : goal.returns-clause-wake_up_set
returns-clause-wake_up_set c = wake_is_line
