-- What declarations and initialisers spell.
use Rattle.std.specs.Prelude.{List, ◌++◌, map, Option}
use Rattle.snl_lex.specs.declared.kind.Kind.TheVariants as kind
use Rattle.snl_grammar.specs.declared.tree.expression.Expr.{Expr}
use Rattle.snl_grammar.specs.declared.tree.declaration.Init.{Init}
use Rattle.snl_grammar.specs.declared.tree.declaration.Init.TheOpen.{Init-F}
use Rattle.snl_grammar.specs.declared.tree.declaration.Init.TheFolds.{fold-Init}
use Rattle.snl_grammar.specs.declared.tree.declaration.Declarator.{Declarator}
use Rattle.snl_grammar.specs.declared.tree.declaration.Declaration.{Declaration}
use Rattle.snl_grammar.specs.Spelling.Base.{Spelled, word, leaf, written, perhaps, joined, commas, in_brackets, in_braces}
use Rattle.snl_grammar.specs.Spelling.Types.{spell_type, spell_stars}
use Rattle.snl_grammar.specs.Spelling.Expressions.{spell_expr}

-- "[" [expr] "]"
abbrev pub spell_length : Option Expr → List Spelled
spell_length size = in_brackets (perhaps spell_expr size)

-- init = assignx | "{" [ init { "," init } [","] ] "}", with what each part spells in its place
abbrev pub spell_init_step : Init-F (List Spelled) → List Spelled
spell_init_step (Init-F.Value x) = spell_expr x
spell_init_step (Init-F.List values trailing) = in_braces (commas values ++ written kind.Comma trailing)

abbrev pub spell_init : Init → List Spelled
spell_init = fold-Init (List Spelled) spell_init_step

-- "=" init
abbrev pub spell_value : Init → List Spelled
spell_value init = word kind.Equal ++ spell_init init

-- dcl = stars NAME { "[" [expr] "]" } [ "=" init ]
abbrev pub spell_declarator : Declarator → List Spelled
spell_declarator d = spell_stars d.pointers ++ leaf kind.Name d.name ++ joined (map spell_length d.lengths) ++ perhaps spell_value d.init

-- decl = type dcl { "," dcl } ";"
abbrev pub spell_declaration : Declaration → List Spelled
spell_declaration d = spell_type d.of ++ commas (map spell_declarator d.declarators) ++ word kind.Semicolon
