-- What a token is to the cut into items, by its class and its bytes.
use Rattle.std.specs.Prelude.{ℕ, List}
use Rattle.snl_lex.specs.declared.piece.Class.{Class}
use Rattle.snl_lex.specs.declared.kind.Kind.{Kind}
use Rattle.snl_lex.specs.declared.kind.Kind.TheVariants as kind
use Rattle.snl_grammar.specs.declared.marks.Mark.{Mark}
use Rattle.snl_grammar.specs.declared.marks.Mark.TheVariants as mark
use Rattle.snl_lex.specs.Kinds.{kind_of}

-- The words and punctuators that begin, end or nest an item, names, texts and C code; the cut tells all
-- others not apart.
abbrev pub mark_of_kind : Kind → Mark
mark_of_kind kind.Program = mark.Program
mark_of_kind kind.Ss = mark.Ss
mark_of_kind kind.State = mark.Body
mark_of_kind kind.Entry = mark.Body
mark_of_kind kind.Exit = mark.Body
mark_of_kind kind.Name = mark.Name
mark_of_kind kind.Text = mark.Text
mark_of_kind kind.CCode = mark.CCode
mark_of_kind kind.OpenBrace = mark.OpenBrace
mark_of_kind kind.CloseBrace = mark.CloseBrace
mark_of_kind kind.OpenParen = mark.OpenParen
mark_of_kind kind.CloseParen = mark.CloseParen
mark_of_kind kind.Semicolon = mark.Semicolon
mark_of_kind _ = mark.Other

-- The mark of a token.
abbrev pub mark_of : Class → List ℕ → Mark
mark_of class bytes = mark_of_kind (kind_of class bytes)
