use Rattle.std.proofs.Common.{List, ℕ, get_or}
use Rattle.std.specs.Prelude.{All}
use Rattle.snl_lex.specs.Classes.{HasItsClass}
use Rattle.snl_lex.specs.Pieces.{LiesIn, pieces_of}
use Rattle.snl_token_laws.proofs.Marked.{ends_line}
use Rattle.snl_token_laws.proofs.Rising.{EndsLine, first_file, first_number, next_file, next_number, one_line}
use Rattle.snl_token_laws.proofs.lines.lines_rise.Goals as goal

all_end : (text : List ℕ) → All (HasItsClass text) (pieces_of text) → All (LiesIn text) (pieces_of text) → All (EndsLine text) (pieces_of text)
all_end text class lie = λ k d lt. ends_line text (get_or (pieces_of text) k d) (class k d lt) (lie k d lt)

pub returns-clause-first : goal.returns-clause-first
returns-clause-first c = first_number

pub returns-clause-no_file : goal.returns-clause-no_file
returns-clause-no_file c = first_file

pub returns-clause-one_line : goal.returns-clause-one_line
returns-clause-one_line c = one_line

pub returns-clause-next : goal.returns-clause-next
returns-clause-next c = λ text. next_number text (all_end text (c.text_in_pieces.ensures.class text) (c.text_in_pieces.ensures.inside text))

pub returns-clause-same_file : goal.returns-clause-same_file
returns-clause-same_file c = λ text. next_file text (all_end text (c.text_in_pieces.ensures.class text) (c.text_in_pieces.ensures.inside text))
