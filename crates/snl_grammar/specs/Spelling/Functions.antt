-- What functions and structs spell.
use Rattle.std.specs.Prelude.{ℕ, List, ◌++◌, map, Option, Some, None}
use Rattle.snl_lex.specs.declared.kind.Kind.TheVariants as kind
use Rattle.snl_grammar.specs.declared.tree.declaration.Parameter.{Parameter}
use Rattle.snl_grammar.specs.declared.tree.statement.Member.{Member}
use Rattle.snl_grammar.specs.declared.tree.item.Function.{Function}
use Rattle.snl_grammar.specs.declared.tree.item.StructMember.{StructMember}
use Rattle.snl_grammar.specs.declared.tree.item.StructMember.TheVariants as members
use Rattle.snl_grammar.specs.Spelling.Base.{Spelled, word, leaf, perhaps, joined, commas, in_parens, in_braces}
use Rattle.snl_grammar.specs.Spelling.Types.{spell_type, spell_stars}
use Rattle.snl_grammar.specs.Spelling.Declarations.{spell_length, spell_declaration}
use Rattle.snl_grammar.specs.Spelling.Statements.{spell_block}

-- param = type stars [NAME] { "[" [expr] "]" }
abbrev pub spell_parameter : Parameter → List Spelled
spell_parameter p = spell_type p.of ++ spell_stars p.pointers ++ perhaps (leaf kind.Name) p.name ++ joined (map spell_length p.lengths)

-- block | ";"
abbrev pub spell_body : Option (List Member) → List Spelled
spell_body None = word kind.Semicolon
spell_body (Some members) = spell_block members

-- function = type stars NAME "(" [ param { "," param } ] ")" ( block | ";" )
abbrev pub spell_function : Function → List Spelled
spell_function f = spell_type f.of ++ spell_stars f.pointers ++ leaf kind.Name f.name ++ in_parens (commas (map spell_parameter f.parameters)) ++ spell_body f.body

-- decl | CCODE
abbrev pub spell_struct_member : StructMember → List Spelled
spell_struct_member (members.Declaration d) = spell_declaration d
spell_struct_member (members.CBlock n) = leaf kind.CCode n

-- struct = "struct" NAME "{" { decl | CCODE } "}" ";"
abbrev pub spell_struct : ℕ → List StructMember → List Spelled
spell_struct name parts = word kind.Struct ++ leaf kind.Name name ++ in_braces (joined (map spell_struct_member parts)) ++ word kind.Semicolon
