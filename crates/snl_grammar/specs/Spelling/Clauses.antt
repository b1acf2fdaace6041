-- What clauses on variables, options, and foreign names spell.
use Rattle.std.specs.Prelude.{ℕ, Bool, true, false, List, [], ◌++◌, map}
use Rattle.snl_lex.specs.declared.kind.Kind.TheVariants as kind
use Rattle.snl_grammar.specs.declared.tree.clause.Channel.{Channel}
use Rattle.snl_grammar.specs.declared.tree.clause.Channel.TheVariants as channels
use Rattle.snl_grammar.specs.declared.tree.clause.Flag.{Flag}
use Rattle.snl_grammar.specs.declared.tree.clause.Clause.{Clause}
use Rattle.snl_grammar.specs.declared.tree.clause.Clause.TheVariants as clauses
use Rattle.snl_grammar.specs.declared.tree.clause.OptionSign.{OptionSign}
use Rattle.snl_grammar.specs.declared.tree.clause.OptionSign.TheVariants as signs
use Rattle.snl_grammar.specs.declared.tree.clause.OptionLine.{OptionLine}
use Rattle.snl_grammar.specs.Spelling.Base.{Spelled, word, leaf, written, perhaps, commas, in_brackets, in_braces}
use Rattle.snl_grammar.specs.Spelling.Expressions.{spell_texts}

-- foreign = "foreign" NAME { "," NAME } ";"
abbrev pub spell_foreign : List ℕ → List Spelled
spell_foreign names = word kind.Foreign ++ commas (map (leaf kind.Name) names) ++ word kind.Semicolon

abbrev pub spell_sign : OptionSign → List Spelled
spell_sign signs.Plus = word kind.Plus
spell_sign signs.Minus = word kind.Minus

-- option = "option" ( "+" | "-" ) NAME ";"
abbrev pub spell_option_line : OptionLine → List Spelled
spell_option_line line = word kind.Option ++ spell_sign line.sign ++ leaf kind.Name line.letters ++ word kind.Semicolon

-- "[" INT "]"
abbrev pub spell_subscript : ℕ → List Spelled
spell_subscript n = in_brackets (leaf kind.Integer n)

-- ["to"] NAME
abbrev pub spell_flag : Flag → List Spelled
spell_flag flag = written kind.To flag.to ++ leaf kind.Name flag.name

-- nothing | ["to"] texts | "[" INT "]" ["to"] texts | ["to"] "{" [ texts { "," texts } [","] ] "}"
abbrev pub spell_channel : Channel → List Spelled
spell_channel channels.Anonymous = []
spell_channel (channels.Whole to text) = written kind.To to ++ spell_texts text
spell_channel (channels.Element subscript to text) = spell_subscript subscript ++ written kind.To to ++ spell_texts text
spell_channel (channels.Elements to texts trailing) = written kind.To to ++ in_braces (commas (map spell_texts texts) ++ written kind.Comma trailing)

-- "syncQ" or "syncq"
abbrev pub spell_syncq : Bool → List Spelled
spell_syncq true = word kind.SyncqCapital
spell_syncq false = word kind.Syncq

-- assign = "assign" NAME channel ";"
-- monitor = "monitor" NAME [ "[" INT "]" ] ";"
-- sync = "sync" NAME [ "[" INT "]" ] ["to"] NAME ";"
-- syncq = "syncq" NAME [ "[" INT "]" ] [ ["to"] NAME ] [ INT ] ";"
abbrev pub spell_clause : Clause → List Spelled
spell_clause (clauses.Assign name channel) = word kind.Assign ++ leaf kind.Name name ++ spell_channel channel ++ word kind.Semicolon
spell_clause (clauses.Monitor name subscript) = word kind.Monitor ++ leaf kind.Name name ++ perhaps spell_subscript subscript ++ word kind.Semicolon
spell_clause (clauses.Sync name subscript flag) = word kind.Sync ++ leaf kind.Name name ++ perhaps spell_subscript subscript ++ spell_flag flag ++ word kind.Semicolon
spell_clause (clauses.Syncq capital name subscript flag queue) = spell_syncq capital ++ leaf kind.Name name ++ perhaps spell_subscript subscript ++ perhaps spell_flag flag ++ perhaps (leaf kind.Integer) queue ++ word kind.Semicolon
