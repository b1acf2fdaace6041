-- The tokens of an item as pieces of a text.
use Rattle.std.specs.Prelude.{ℕ, ◌+◌, ◌≤◌, Bool, true, false, List, length, take, drop, map}
use Rattle.snl_lex.specs.declared.piece.Class.{Class}
use Rattle.snl_lex.specs.declared.piece.Class.TheVariants as class
use Rattle.snl_lex.specs.declared.piece.Piece.{Piece}
use Rattle.snl_lex.specs.declared.kind.Kind.{Kind}
use Rattle.snl_lex.specs.Kinds.{kind_of}

-- whether a piece is a faulty token
abbrev pub is_bad_class : Class → Bool
is_bad_class class.Bad = true
is_bad_class _ = false

abbrev pub is_bad : Piece → Bool
is_bad p = is_bad_class p.kind

-- the piece lies in the text
abbrev pub LiesIn : List ℕ → Piece → Type 0
LiesIn text p = p.start + p.len ≤ length text

-- what each token is to the grammar
abbrev pub kind_in : List ℕ → Piece → Kind
kind_in text p = kind_of p.kind (take p.len (drop p.start text))

abbrev pub kinds_in : List ℕ → List Piece → List Kind
kinds_in text tokens = map (kind_in text) tokens
