-- The items of a text as its tokens give them: what each token is to the cut, where the items end,
-- and how they are spelled.
use Rattle.std.specs.Prelude.{ℕ, List, map}
use Rattle.snl_cut.specs.Cut.{ends_of, members}
use Rattle.snl_lex.specs.declared.piece.Class.{Class}
use Rattle.snl_lex.specs.declared.piece.Piece.{Piece}
use Rattle.snl_lex.specs.Pieces.{bytes_at, tokens_of}
use Rattle.snl_lex.specs.PieceList.{spelling}
use Rattle.snl_grammar.specs.declared.marks.Mark.{Mark}
use Rattle.snl_grammar.specs.Items.{item}
use Rattle.snl_grammar.specs.Marks.{mark_of}

-- What a token is to the cut into items.
abbrev pub mark_in : List ℕ → Piece → Mark
mark_in text p = mark_of p.kind (bytes_at text p)

-- The marks of the tokens of a text.
abbrev pub marks_of : List ℕ → List Mark
marks_of text = map (mark_in text) (tokens_of text)

-- Where the items of a text end, as numbers of tokens.
abbrev pub item_ends : List ℕ → List ℕ
item_ends text = ends_of item (marks_of text)

-- The tokens of a text as they are spelled: the class and the bytes of each.
abbrev pub spellings : List ℕ → List (Class × List ℕ)
spellings text = map (spelling text) (tokens_of text)

-- The items of a text, each as its tokens are spelled.
abbrev pub spelled_items : List ℕ → List (List (Class × List ℕ))
spelled_items text = members (spellings text) 0 (item_ends text)
