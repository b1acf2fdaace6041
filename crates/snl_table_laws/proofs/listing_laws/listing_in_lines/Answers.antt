use Rattle.snl_table_laws.proofs.Lines.{in_lines}
use Rattle.snl_table_laws.proofs.listing_laws.listing_in_lines.Goals as goal

pub returns : goal.returns
returns c = in_lines
