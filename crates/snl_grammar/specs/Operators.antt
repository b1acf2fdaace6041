-- The operators of expressions: their tokens, and how tightly those between operands bind.
use Rattle.std.specs.Prelude.{ℕ, Option, Some, None}
use Rattle.snl_lex.specs.declared.kind.Kind.{Kind}
use Rattle.snl_lex.specs.declared.kind.Kind.TheVariants as kind
use Rattle.snl_grammar.specs.declared.operator.Binary.{Binary}
use Rattle.snl_grammar.specs.declared.operator.Binary.TheVariants as binaries
use Rattle.snl_grammar.specs.declared.operator.Assignment.{Assignment}
use Rattle.snl_grammar.specs.declared.operator.Assignment.TheVariants as assignments
use Rattle.snl_grammar.specs.declared.operator.Sign.{Sign}
use Rattle.snl_grammar.specs.declared.operator.Sign.TheVariants as signs

-- The operators between operands are in ten tiers: 1 binds tightest (`* / %`), 10 loosest (`||`).
abbrev pub tier : Binary → ℕ
tier binaries.Or = 10
tier binaries.And = 9
tier binaries.BitOr = 8
tier binaries.BitXor = 7
tier binaries.BitAnd = 6
tier binaries.Equal = 5
tier binaries.NotEqual = 5
tier binaries.Less = 4
tier binaries.Greater = 4
tier binaries.LessEqual = 4
tier binaries.GreaterEqual = 4
tier binaries.ShiftLeft = 3
tier binaries.ShiftRight = 3
tier binaries.Add = 2
tier binaries.Subtract = 2
tier binaries.Multiply = 1
tier binaries.Divide = 1
tier binaries.Remainder = 1

abbrev pub binary_kind : Binary → Kind
binary_kind binaries.Or = kind.BarBar
binary_kind binaries.And = kind.AmpersandAmpersand
binary_kind binaries.BitOr = kind.Bar
binary_kind binaries.BitXor = kind.Caret
binary_kind binaries.BitAnd = kind.Ampersand
binary_kind binaries.Equal = kind.EqualEqual
binary_kind binaries.NotEqual = kind.NotEqual
binary_kind binaries.Less = kind.Less
binary_kind binaries.Greater = kind.Greater
binary_kind binaries.LessEqual = kind.LessEqual
binary_kind binaries.GreaterEqual = kind.GreaterEqual
binary_kind binaries.ShiftLeft = kind.LessLess
binary_kind binaries.ShiftRight = kind.GreaterGreater
binary_kind binaries.Add = kind.Plus
binary_kind binaries.Subtract = kind.Minus
binary_kind binaries.Multiply = kind.Star
binary_kind binaries.Divide = kind.Slash
binary_kind binaries.Remainder = kind.Percent

abbrev pub binary_of : Kind → Option Binary
binary_of kind.BarBar = Some binaries.Or
binary_of kind.AmpersandAmpersand = Some binaries.And
binary_of kind.Bar = Some binaries.BitOr
binary_of kind.Caret = Some binaries.BitXor
binary_of kind.Ampersand = Some binaries.BitAnd
binary_of kind.EqualEqual = Some binaries.Equal
binary_of kind.NotEqual = Some binaries.NotEqual
binary_of kind.Less = Some binaries.Less
binary_of kind.Greater = Some binaries.Greater
binary_of kind.LessEqual = Some binaries.LessEqual
binary_of kind.GreaterEqual = Some binaries.GreaterEqual
binary_of kind.LessLess = Some binaries.ShiftLeft
binary_of kind.GreaterGreater = Some binaries.ShiftRight
binary_of kind.Plus = Some binaries.Add
binary_of kind.Minus = Some binaries.Subtract
binary_of kind.Star = Some binaries.Multiply
binary_of kind.Slash = Some binaries.Divide
binary_of kind.Percent = Some binaries.Remainder
binary_of _ = None

abbrev pub assignment_kind : Assignment → Kind
assignment_kind assignments.Plain = kind.Equal
assignment_kind assignments.Add = kind.PlusEqual
assignment_kind assignments.Subtract = kind.MinusEqual
assignment_kind assignments.Multiply = kind.StarEqual
assignment_kind assignments.Divide = kind.SlashEqual
assignment_kind assignments.Remainder = kind.PercentEqual
assignment_kind assignments.BitAnd = kind.AmpersandEqual
assignment_kind assignments.BitOr = kind.BarEqual
assignment_kind assignments.BitXor = kind.CaretEqual
assignment_kind assignments.ShiftLeft = kind.LessLessEqual
assignment_kind assignments.ShiftRight = kind.GreaterGreaterEqual

abbrev pub assignment_of : Kind → Option Assignment
assignment_of kind.Equal = Some assignments.Plain
assignment_of kind.PlusEqual = Some assignments.Add
assignment_of kind.MinusEqual = Some assignments.Subtract
assignment_of kind.StarEqual = Some assignments.Multiply
assignment_of kind.SlashEqual = Some assignments.Divide
assignment_of kind.PercentEqual = Some assignments.Remainder
assignment_of kind.AmpersandEqual = Some assignments.BitAnd
assignment_of kind.BarEqual = Some assignments.BitOr
assignment_of kind.CaretEqual = Some assignments.BitXor
assignment_of kind.LessLessEqual = Some assignments.ShiftLeft
assignment_of kind.GreaterGreaterEqual = Some assignments.ShiftRight
assignment_of _ = None

abbrev pub sign_kind : Sign → Kind
sign_kind signs.Plus = kind.Plus
sign_kind signs.Minus = kind.Minus
sign_kind signs.Not = kind.Exclamation
sign_kind signs.Complement = kind.Tilde
sign_kind signs.Dereference = kind.Star
sign_kind signs.Address = kind.Ampersand
sign_kind signs.Increment = kind.PlusPlus
sign_kind signs.Decrement = kind.MinusMinus
