-- The tokens that a list of tokens holds, whatever its form.
use Rattle.std.specs.Prelude.{List}
use Rattle.snl_lex.specs.declared.piece.Piece.{Piece}
use Rattle.snl_items.specs.declared.token_list.Form.{Form}
use Rattle.snl_items.specs.declared.token_list.Form.TheVariants.{Listed, Numbered}

abbrev pub tokens_in : Form → List Piece
tokens_in (Listed tokens) = tokens.now
tokens_in (Numbered tokens) = tokens
