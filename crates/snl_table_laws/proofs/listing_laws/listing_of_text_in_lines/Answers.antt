use Rattle.snl_check.specs.Tables.{tables_of}
use Rattle.snl_table_laws.proofs.TableBytes.{tables_of_bytes}
use Rattle.snl_table_laws.proofs.listing_laws.listing_of_text_in_lines.Goals as goal

pub returns-clause-bytes : goal.returns-clause-bytes
returns-clause-bytes c = tables_of_bytes

pub returns-clause-lines : goal.returns-clause-lines
returns-clause-lines c = λ text xs h. c.listing_in_lines.ensures text (tables_of text xs) h (tables_of_bytes text xs h)
