-- What tokens are to the grammar.
use Rattle.std.proofs.Common.{ℕ, ◌<◌, List, length, sym, subst}
use Rattle.std.proofs.lemmas.List.{length-map}
use Rattle.snl_lex.specs.declared.piece.Piece.{Piece}
use Rattle.snl_grammar.specs.Parsing.{kind_in, kinds_in}

pub some_kinds : (text : List ℕ) (tokens : List Piece) → 0 < length tokens → 0 < length (kinds_in text tokens)
some_kinds text tokens some = subst (λ n. 0 < n) (sym (length-map tokens (kind_in text))) some
