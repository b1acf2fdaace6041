use Rattle.std.proofs.Common.{◌≡◌, ℕ, ◌<◌, List, drop, get_or, length, length-drop, sym, ap, ◌∙◌, arith, take}
use Rattle.std.specs.Prelude.{IsSomeAnd}
use Rattle.snl_lex.specs.declared.piece.Piece.{Piece}
use Rattle.snl_lex.specs.declared.piece.Class.TheVariants.{Int}
use Rattle.snl_lex.specs.Classes.{HasItsClass}
use Rattle.snl_lex.specs.Numbers.{int_value_of, number_class}
use Rattle.snl_lex.specs.Pieces.{LiesIn, bytes_at, pieces_of}
use Rattle.snl_token_laws.proofs.Limits.{IsSmall, small_value, valued}
use Rattle.snl_token_laws.proofs.Told.{told_at}
use Rattle.snl_token_laws.proofs.integers.integers_have_values.Goals as goal

piece_value : (text : List ℕ) (p : Piece) → HasItsClass text p → LiesIn text p → p.kind ≡ Int → IsSomeAnd (int_value_of (bytes_at text p)) IsSmall
piece_value text p class lies e =
    let u : List ℕ = drop p.start text in
    let some : 0 < length u = omega (arith, lies.0, lies.1, length-drop p.start text) in
    let told : number_class (bytes_at text p) ≡ Int = ap (λ (n : ℕ). number_class (take n u)) class.len ∙ told_at u Int some (sym class.kind ∙ e) in
    valued (bytes_at text p) told

pub returns-clause-value : goal.returns-clause-value
returns-clause-value c =
    λ text k d lt. piece_value text (get_or (pieces_of text) k d) (c.text_in_pieces.ensures.class text k d lt) (c.text_in_pieces.ensures.inside text k d lt)

pub returns-clause-limit : goal.returns-clause-limit
returns-clause-limit c = small_value
