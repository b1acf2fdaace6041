use Rattle.std.proofs.Common.{get_or}
use Rattle.snl_lex.specs.Pieces.{pieces_of}
use Rattle.snl_token_laws.proofs.Marked.{kept_file, marked_file, marked_number, marker_end}
use Rattle.snl_token_laws.proofs.lines.lines_after_markers.Goals as goal

pub returns-clause-at_line_end : goal.returns-clause-at_line_end
returns-clause-at_line_end c =
    λ text k d lt. marker_end text (get_or (pieces_of text) k d) (c.text_in_pieces.ensures.class text k d lt) (c.text_in_pieces.ensures.inside text k d lt)

pub returns-clause-number : goal.returns-clause-number
returns-clause-number c = λ text k d lt. marked_number text (c.text_in_pieces.ensures.inside text) (c.text_in_pieces.ensures.class text) k d lt

pub returns-clause-file : goal.returns-clause-file
returns-clause-file c = λ text k d lt. marked_file text (c.text_in_pieces.ensures.inside text) (c.text_in_pieces.ensures.class text) k d lt

pub returns-clause-kept_file : goal.returns-clause-kept_file
returns-clause-kept_file c = λ text k d lt. kept_file text (c.text_in_pieces.ensures.inside text) (c.text_in_pieces.ensures.class text) k d lt
