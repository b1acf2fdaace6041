use Rattle.std.proofs.Common.{get_or}
use Rattle.snl_lex.specs.Pieces.{pieces_of}
use Rattle.snl_token_laws.proofs.IntegerForms.{integer_form, integer_value}
use Rattle.snl_token_laws.proofs.NumberKinds.{bad_piece, float_piece, integer_piece}
use Rattle.snl_token_laws.proofs.numbers.numbers_by_form.Goals as goal

pub returns-clause-integers : goal.returns-clause-integers
returns-clause-integers c =
    λ text k d lt. integer_piece text (get_or (pieces_of text) k d) (c.text_in_pieces.ensures.class text k d lt) (c.text_in_pieces.ensures.inside text k d lt)

pub returns-clause-floats : goal.returns-clause-floats
returns-clause-floats c =
    λ text k d lt. float_piece text (get_or (pieces_of text) k d) (c.text_in_pieces.ensures.class text k d lt) (c.text_in_pieces.ensures.inside text k d lt)

pub returns-clause-bad : goal.returns-clause-bad
returns-clause-bad c =
    λ text k d lt. bad_piece text (get_or (pieces_of text) k d) (c.text_in_pieces.ensures.class text k d lt) (c.text_in_pieces.ensures.inside text k d lt)

pub returns-clause-values : goal.returns-clause-values
returns-clause-values c = λ bytes v. (integer_form bytes v, integer_value bytes v)
