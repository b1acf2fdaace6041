use Rattle.std.proofs.Common.{◌≡◌, ℕ, ◌<◌, List, drop, get_or, length, length-drop, sym, ◌∙◌, arith}
use Rattle.snl_lex.specs.declared.piece.Piece.{Piece}
use Rattle.snl_lex.specs.declared.piece.Class.TheVariants.{Punct}
use Rattle.snl_lex.specs.Pieces.{LiesIn, pieces_of}
use Rattle.snl_lex.specs.Classes.{HasItsClass}
use Rattle.snl_token_laws.specs.Fronts.{IsPunctuatorFront}
use Rattle.snl_token_laws.proofs.PunctuatorBytes.{first_byte}
use Rattle.snl_token_laws.proofs.PunctuatorFronts.{front_punct, front_some}
use Rattle.snl_token_laws.proofs.Told.{told_at}
use Rattle.snl_token_laws.proofs.punctuators.punctuators_by_front.Goals as goal

pub returns-clause-first_byte : goal.returns-clause-first_byte
returns-clause-first_byte c = first_byte

pub returns-clause-punctuator : goal.returns-clause-punctuator
returns-clause-punctuator c = front_punct

pub returns-clause-no_other : goal.returns-clause-no_other
returns-clause-no_other c = λ text some e. told_at text Punct some e

pub returns-clause-longest : goal.returns-clause-longest
returns-clause-longest c = λ text is. c.first_piece_reaches.ensures.punctuator text (front_some text is) (front_punct text is)

-- A piece of the text, by its front.
piece_front : (text : List ℕ) (p : Piece) → HasItsClass text p → LiesIn text p → (p.kind ≡ Punct → IsPunctuatorFront (drop p.start text)) × (IsPunctuatorFront (drop p.start text) → p.kind ≡ Punct)
piece_front text p class lies =
    let some : 0 < length (drop p.start text) = omega (arith, lies.0, lies.1, length-drop p.start text) in
    (λ e. told_at (drop p.start text) Punct some (sym class.kind ∙ e), λ is. class.kind ∙ front_punct (drop p.start text) is)

pub returns-clause-pieces : goal.returns-clause-pieces
returns-clause-pieces c =
    λ text k d lt. piece_front text (get_or (pieces_of text) k d) (c.text_in_pieces.ensures.class text k d lt) (c.text_in_pieces.ensures.inside text k d lt)
