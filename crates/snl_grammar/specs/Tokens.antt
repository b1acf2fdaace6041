-- The tokens of an item as readers see them: what each is to the grammar, and its number.
use Rattle.std.specs.Prelude.{ℕ, suc, ◌==◌, Bool, List, [], ◌∷◌, drop}
use Rattle.snl_lex.specs.declared.kind.Kind.{Kind}
use Rattle.snl_lex.specs.declared.kind.Kind.TheVariants as kind

-- a token's kind, and its number in the item
abbrev pub NumberedKind : Type 0
NumberedKind = Kind × ℕ

abbrev pub numbered : ℕ → List Kind → List NumberedKind
numbered n [] = []
numbered n (x ∷ xs) = (x, n) ∷ numbered (suc n) xs

-- the tokens from a number on
unfoldable pub ahead : List Kind → ℕ → List NumberedKind
ahead kinds at = numbered at (drop at kinds)

-- a number for each kind
abbrev pub code : Kind → ℕ
code kind.Name = 0
code kind.Integer = 1
code kind.Floating = 2
code kind.Text = 3
code kind.Character = 4
code kind.CCode = 5
code kind.Bad = 6
code kind.Program = 7
code kind.Ss = 8
code kind.State = 9
code kind.Entry = 10
code kind.Exit = 11
code kind.When = 12
code kind.Option = 13
code kind.Assign = 14
code kind.To = 15
code kind.Monitor = 16
code kind.Sync = 17
code kind.Syncq = 18
code kind.SyncqCapital = 19
code kind.Foreign = 20
code kind.If = 21
code kind.Else = 22
code kind.While = 23
code kind.For = 24
code kind.Break = 25
code kind.Continue = 26
code kind.Return = 27
code kind.Sizeof = 28
code kind.Const = 29
code kind.Void = 30
code kind.Char = 31
code kind.Short = 32
code kind.Int = 33
code kind.Long = 34
code kind.Unsigned = 35
code kind.Int8 = 36
code kind.Uint8 = 37
code kind.Int16 = 38
code kind.Uint16 = 39
code kind.Int32 = 40
code kind.Uint32 = 41
code kind.Float = 42
code kind.Double = 43
code kind.String = 44
code kind.Evflag = 45
code kind.Enum = 46
code kind.Struct = 47
code kind.Union = 48
code kind.Typename = 49
code kind.OpenBrace = 50
code kind.CloseBrace = 51
code kind.OpenParen = 52
code kind.CloseParen = 53
code kind.OpenBracket = 54
code kind.CloseBracket = 55
code kind.Semicolon = 56
code kind.Comma = 57
code kind.Dot = 58
code kind.Arrow = 59
code kind.PlusPlus = 60
code kind.MinusMinus = 61
code kind.Exclamation = 62
code kind.Tilde = 63
code kind.Plus = 64
code kind.Minus = 65
code kind.Star = 66
code kind.Slash = 67
code kind.Percent = 68
code kind.Ampersand = 69
code kind.Bar = 70
code kind.Caret = 71
code kind.AmpersandAmpersand = 72
code kind.BarBar = 73
code kind.LessLess = 74
code kind.GreaterGreater = 75
code kind.Less = 76
code kind.Greater = 77
code kind.LessEqual = 78
code kind.GreaterEqual = 79
code kind.EqualEqual = 80
code kind.NotEqual = 81
code kind.Equal = 82
code kind.PlusEqual = 83
code kind.MinusEqual = 84
code kind.StarEqual = 85
code kind.SlashEqual = 86
code kind.PercentEqual = 87
code kind.AmpersandEqual = 88
code kind.BarEqual = 89
code kind.CaretEqual = 90
code kind.LessLessEqual = 91
code kind.GreaterGreaterEqual = 92
code kind.Question = 93
code kind.Colon = 94

abbrev pub same : Kind → Kind → Bool
same a b = code a == code b
