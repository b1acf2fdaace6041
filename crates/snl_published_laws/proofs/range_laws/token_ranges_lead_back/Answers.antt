use Rattle.std.proofs.Common.{◌≡◌, ℕ, ◌+◌, ap, sym, ◌∙◌, arith}
use Rattle.snl_lex.specs.Pieces.{piece_end}
use Rattle.snl_shown.specs.Found.{extent}
use Rattle.snl_shown.specs.Spans.{offset_at, place_at}
use Rattle.snl_published_laws.proofs.Ranges.{TokenLaws, begins_character, cuts_nothing, ends_character, extent_is}
use Rattle.snl_published_laws.proofs.range_laws.token_ranges_lead_back.Goals as goal

pub returns-clause-start : goal.returns-clause-start
returns-clause-start c = λ encoding text d token utf8 at first.
    let laws : TokenLaws text = record {
      characters = c.pieces_hold_characters.ensures text utf8;
      class = c.text_in_pieces.ensures.class text;
      white = λ u some white. (c.first_piece_reaches.ensures.white u some white).0;
    } in
    ap (λ (o : ℕ). offset_at encoding text (place_at encoding text o)) (sym first)
    ∙ c.places_return.ensures encoding text token.start
    (begins_character text laws d.offset token at) (cuts_nothing text laws d.offset token at)

pub returns-clause-stop : goal.returns-clause-stop
returns-clause-stop c = λ encoding text d token utf8 at first quotes whole.
    let laws : TokenLaws text = record {
      characters = c.pieces_hold_characters.ensures text utf8;
      class = c.text_in_pieces.ensures.class text;
      white = λ u some white. (c.first_piece_reaches.ensures.white u some white).0;
    } in
    let stop : d.offset + extent text d ≡ piece_end token =
    omega (arith, first, extent_is text d token at quotes) in
    ap (λ (o : ℕ). offset_at encoding text (place_at encoding text o)) stop
    ∙ c.places_return.ensures encoding text (piece_end token)
    (ends_character text laws d.offset token at) whole
