use Rattle.snl_table_laws.proofs.Lines.{lines_ascii, lines_end}
use Rattle.snl_table_laws.proofs.listing_laws.lines_are_ascii.Goals as goal

pub returns-clause-ascii : goal.returns-clause-ascii
returns-clause-ascii c = lines_ascii

pub returns-clause-line_ends : goal.returns-clause-line_ends
returns-clause-line_ends c = lines_end
