use Rattle.snl_report_laws.proofs.HeadLemmas.{head_is_line}
use Rattle.snl_report_laws.proofs.heads.heads_are_lines.Goals as goal

pub returns : goal.returns
returns c = head_is_line c.shown_as_it_is.ensures
