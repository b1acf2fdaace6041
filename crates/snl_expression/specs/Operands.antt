-- Operands with nothing before them.
use Rattle.std.specs.Prelude.{Bool, true, false, [], Option, Some}
use Rattle.snl_lex.specs.declared.kind.Kind.{Kind}
use Rattle.snl_lex.specs.declared.kind.Kind.TheVariants as kind
use Rattle.snl_grammar.specs.declared.tree.expression.Expr.{Expr}
use Rattle.snl_grammar.specs.declared.tree.types.TypeName.{TypeName}
use Rattle.snl_grammar.specs.Reading.Expressions.{atom, next_suffix, suffixed}
use Rattle.snl_grammar.specs.Steps.{Reader, ◌>>=◌, pure, many}

-- whether a token is before an operand or opens a bracket
abbrev pub is_before : Option Kind → Bool
is_before (Some kind.Plus) = true
is_before (Some kind.Minus) = true
is_before (Some kind.Exclamation) = true
is_before (Some kind.Tilde) = true
is_before (Some kind.Star) = true
is_before (Some kind.Ampersand) = true
is_before (Some kind.PlusPlus) = true
is_before (Some kind.MinusMinus) = true
is_before (Some kind.Sizeof) = true
is_before (Some kind.OpenParen) = true
is_before _ = false

-- an operand of one token or of joined strings, with what comes after it
unfoldable pub postfix : Reader Expr → Reader TypeName → Reader Expr
postfix inner names = do
  x ← atom
  ss ← many (next_suffix inner names) []
  pure (suffixed x ss)
