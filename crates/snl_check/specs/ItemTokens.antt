-- The tokens of an item, which are those of its text from one number up to another.
use Rattle.std.specs.Prelude.{List}
use Rattle.snl_items.specs.OwnTokens.{tokens_between}
use Rattle.snl_lex.specs.declared.piece.Piece.{Piece}
use Rattle.snl_check.specs.declared.rows.item_source.ItemSource.{ItemSource}

abbrev pub own_tokens : ItemSource → List Piece
own_tokens source = tokens_between source.tokens.now source.start source.stop
