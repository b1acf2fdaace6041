use Rattle.snl_item_check.specs.Items.{tokens_in}
use Rattle.snl_moved.proofs.SpanLaws.{have_bytes, tables_lie}
use Rattle.snl_moved.proofs.laws.spans_lie_in_text.Goals as goal

pub returns-clause-lie : goal.returns-clause-lie
returns-clause-lie c = tables_lie

pub returns-clause-bytes : goal.returns-clause-bytes
returns-clause-bytes c = λ text xs read. have_bytes text xs read (λ item t is. c.names_are_tokens.ensures text (tokens_in xs item) t (read.trees item t is))
