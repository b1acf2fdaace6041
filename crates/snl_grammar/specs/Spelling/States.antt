-- What states and their members spell.
use Rattle.std.specs.Prelude.{ℕ, List, ◌++◌, map}
use Rattle.snl_lex.specs.declared.kind.Kind.TheVariants as kind
use Rattle.snl_grammar.specs.declared.tree.state.Target.{Target}
use Rattle.snl_grammar.specs.declared.tree.state.Target.TheVariants as targets
use Rattle.snl_grammar.specs.declared.tree.state.Transition.{Transition}
use Rattle.snl_grammar.specs.declared.tree.state.StateMember.{StateMember}
use Rattle.snl_grammar.specs.declared.tree.state.StateMember.TheVariants as members
use Rattle.snl_grammar.specs.Spelling.Base.{Spelled, word, leaf, perhaps, joined, in_parens, in_braces}
use Rattle.snl_grammar.specs.Spelling.Expressions.{spell_expr}
use Rattle.snl_grammar.specs.Spelling.Declarations.{spell_declaration}
use Rattle.snl_grammar.specs.Spelling.Statements.{spell_block}
use Rattle.snl_grammar.specs.Spelling.Clauses.{spell_foreign, spell_option_line, spell_clause}

-- "state" NAME | "exit"
abbrev pub spell_target : Target → List Spelled
spell_target (targets.State name) = word kind.State ++ leaf kind.Name name
spell_target targets.Exit = word kind.Exit

-- when = "when" "(" [expr] ")" block ( "state" NAME | "exit" )
abbrev pub spell_transition : Transition → List Spelled
spell_transition t = word kind.When ++ in_parens (perhaps spell_expr t.condition) ++ spell_block t.block ++ spell_target t.target

-- smember = decl | foreign | assign | monitor | sync | syncq | option | ";" | CCODE | "entry" block
-- | "exit" block | when
abbrev pub spell_state_member : StateMember → List Spelled
spell_state_member (members.Declaration d) = spell_declaration d
spell_state_member (members.Foreign names) = spell_foreign names
spell_state_member (members.Clause clause) = spell_clause clause
spell_state_member (members.OptionLine line) = spell_option_line line
spell_state_member members.Empty = word kind.Semicolon
spell_state_member (members.CBlock n) = leaf kind.CCode n
spell_state_member (members.Entry block) = word kind.Entry ++ spell_block block
spell_state_member (members.Exit block) = word kind.Exit ++ spell_block block
spell_state_member (members.When t) = spell_transition t

-- state = "state" NAME "{" { smember } "}"
abbrev pub spell_state : ℕ → List StateMember → List Spelled
spell_state name parts = word kind.State ++ leaf kind.Name name ++ in_braces (joined (map spell_state_member parts))
