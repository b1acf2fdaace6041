-- What an item spells.
use Rattle.std.specs.Prelude.{ℕ, List, ◌++◌}
use Rattle.snl_lex.specs.declared.kind.Kind.TheVariants as kind
use Rattle.snl_grammar.specs.declared.tree.item.Item.{Item}
use Rattle.snl_grammar.specs.declared.tree.item.Item.TheVariants as items
use Rattle.snl_grammar.specs.Spelling.Base.{Spelled, word, leaf, perhaps, in_parens}
use Rattle.snl_grammar.specs.Spelling.Expressions.{spell_texts}
use Rattle.snl_grammar.specs.Spelling.Declarations.{spell_declaration}
use Rattle.snl_grammar.specs.Spelling.Statements.{spell_block}
use Rattle.snl_grammar.specs.Spelling.Clauses.{spell_foreign, spell_option_line, spell_clause}
use Rattle.snl_grammar.specs.Spelling.Functions.{spell_function, spell_struct}
use Rattle.snl_grammar.specs.Spelling.States.{spell_state}

-- "(" texts ")"
abbrev pub spell_header_text : List ℕ → List Spelled
spell_header_text texts = in_parens (spell_texts texts)

-- header = "program" NAME [ "(" texts ")" ]
-- ssbegin = "ss" NAME "{"
-- ssend = "}"
-- cblock = CCODE
-- empty = ";"
-- entry = "entry" block
-- exit = "exit" block
abbrev pub spell_item : Item → List Spelled
spell_item (items.Header name parameters) = word kind.Program ++ leaf kind.Name name ++ perhaps spell_header_text parameters
spell_item (items.SsBegin name) = word kind.Ss ++ leaf kind.Name name ++ word kind.OpenBrace
spell_item items.SsEnd = word kind.CloseBrace
spell_item (items.CBlock n) = leaf kind.CCode n
spell_item items.Empty = word kind.Semicolon
spell_item (items.OptionLine line) = spell_option_line line
spell_item (items.Foreign names) = spell_foreign names
spell_item (items.Definition d) = spell_declaration d
spell_item (items.Clause clause) = spell_clause clause
spell_item (items.Entry block) = word kind.Entry ++ spell_block block
spell_item (items.Exit block) = word kind.Exit ++ spell_block block
spell_item (items.StateBlock name parts) = spell_state name parts
spell_item (items.Function f) = spell_function f
spell_item (items.StructDef name parts) = spell_struct name parts
