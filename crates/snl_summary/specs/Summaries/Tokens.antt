-- The names that are at tokens of an item, by their numbers in it.
use Rattle.std.specs.Prelude.{ℕ, List}
use Rattle.snl_lex.specs.declared.piece.Piece.{Piece}
use Rattle.snl_summary.specs.declared.summary.NameRef.{NameRef}
pub use Rattle.snl_walk.specs.Tokens.{IsSource, bytes_if}
unfoldable pub use Rattle.snl_walk.specs.Tokens.{token_bytes}

-- The name that is at the token with this number.
abbrev pub name_ref_at : List ℕ → List Piece → ℕ → NameRef
name_ref_at text tokens number = record { name = token_bytes text tokens number; token = number }
