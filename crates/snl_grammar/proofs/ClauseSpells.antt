-- Clauses on variables, options, and foreign names spell their tokens.
use Rattle.std.proofs.Common.{Bool, true, false, List, refl}
use Rattle.snl_lex.specs.declared.kind.Kind.TheVariants as kind
use Rattle.snl_grammar.specs.declared.tree.clause.OptionSign.{OptionSign}
use Rattle.snl_grammar.specs.declared.tree.clause.OptionSign.TheVariants as signs
use Rattle.snl_grammar.specs.Tokens.{NumberedKind}
use Rattle.snl_grammar.specs.Grammar.Base.{First, Leaf, Perhaps}
use Rattle.snl_grammar.specs.Grammar.Expressions.{AreTexts}
use Rattle.snl_grammar.specs.Grammar.Clauses.{AreForeign, option_kind, IsOptionLine, IsSubscript, IsFlag, IsChannel, anonymous, whole, element, elements, syncq_word, IsClause, assign, monitor, sync, syncq}
use Rattle.snl_grammar.specs.Spelling.Base.{leaf, perhaps}
use Rattle.snl_grammar.specs.Spelling.Expressions.{spell_texts}
use Rattle.snl_grammar.specs.Spelling.Clauses.{spell_foreign, spell_sign, spell_option_line, spell_subscript, spell_flag, spell_channel, spell_syncq, spell_clause}
use Rattle.snl_grammar.proofs.Covers.{Covers, Spells, nothing_covers, word_covers, leaf_covers, ◌and◌, covers_as, written_spells, perhaps_spells, commas_spell}
use Rattle.snl_grammar.proofs.ExpressionSpells.{texts_spell}
use Rattle.snl_grammar.proofs.DeclarationSpells.{braced_spell}

-- ---- foreign names and options

name_spells : Spells (Leaf kind.Name) (leaf kind.Name)
name_spells n k rest e = leaf_covers e

pub foreign_spells : Spells AreForeign spell_foreign
foreign_spells t k rest is = word_covers is.word and commas_spell (Leaf kind.Name) (leaf kind.Name) name_spells t is.m1 is.m2 is.names and word_covers is.semicolon

sign_spells : (sign : OptionSign) (k rest : List NumberedKind) → First (option_kind sign) k rest → Covers (spell_sign sign) k rest
sign_spells signs.Plus k rest f = word_covers f
sign_spells signs.Minus k rest f = word_covers f

pub option_line_spells : Spells IsOptionLine spell_option_line
option_line_spells t k rest is = word_covers is.word and sign_spells t.sign is.m1 is.m2 is.sign and leaf_covers is.letters and word_covers is.semicolon

-- ---- clauses

subscript_spells : Spells IsSubscript spell_subscript
subscript_spells n k rest is = word_covers is.opening and leaf_covers is.number and word_covers is.closing

flag_spells : Spells IsFlag spell_flag
flag_spells t k rest is = written_spells kind.To t.to k is.mid is.to and leaf_covers is.name

channel_spells : Spells IsChannel spell_channel
channel_spells t k rest (anonymous is e) = covers_as spell_channel is refl (nothing_covers e)
channel_spells t k rest (whole to ns mid is to_is are) = covers_as spell_channel is refl (written_spells kind.To to k mid to_is and texts_spell ns mid rest are)
channel_spells t k rest (element n to ns m1 m2 is subscript to_is are) =
    covers_as spell_channel is refl (subscript_spells n k m1 subscript and written_spells kind.To to m1 m2 to_is and texts_spell ns m2 rest are)
channel_spells t k rest (elements to xs trailing m1 m2 is to_is opening are) =
    let inside = braced_spell AreTexts spell_texts texts_spell xs trailing m2 rest are in
    covers_as spell_channel is refl (written_spells kind.To to k m1 to_is and (word_covers opening and inside.1 and word_covers inside.2))

subscript_perhaps : Spells (Perhaps IsSubscript) (perhaps spell_subscript)
subscript_perhaps = perhaps_spells IsSubscript spell_subscript subscript_spells

syncq_spells : (capital : Bool) (k rest : List NumberedKind) → First (syncq_word capital) k rest → Covers (spell_syncq capital) k rest
syncq_spells true k rest f = word_covers f
syncq_spells false k rest f = word_covers f

integer_spells : Spells (Leaf kind.Integer) (leaf kind.Integer)
integer_spells n k rest e = leaf_covers e

pub clause_spells : Spells IsClause spell_clause
clause_spells t k rest (assign n x is w) = covers_as spell_clause is refl (word_covers w.word and leaf_covers w.name and channel_spells x w.m2 w.m3 w.channel and word_covers w.semicolon)
clause_spells t k rest (monitor n s is w) = covers_as spell_clause is refl (word_covers w.word and leaf_covers w.name and subscript_perhaps s w.m2 w.m3 w.subscript and word_covers w.semicolon)
clause_spells t k rest (sync n s f is w) =
    covers_as spell_clause is refl (word_covers w.word and leaf_covers w.name and subscript_perhaps s w.m2 w.m3 w.subscript and flag_spells f w.m3 w.m4 w.flag and word_covers w.semicolon)
clause_spells t k rest (syncq capital n s f q is w) =
    covers_as spell_clause is refl
    (syncq_spells capital k w.m1 w.word
    and leaf_covers w.name
    and subscript_perhaps s w.m2 w.m3 w.subscript
    and perhaps_spells IsFlag spell_flag flag_spells f w.m3 w.m4 w.flag
    and perhaps_spells (Leaf kind.Integer) (leaf kind.Integer) integer_spells q w.m4 w.m5 w.queue
    and word_covers w.semicolon)
