-- The kinds of tokens that may come, and their names in a message.
use Rattle.std.specs.Prelude.{ℕ, List, [], ◌∷◌, codes}
use Rattle.snl_lex.specs.declared.kind.Kind.{Kind}
use Rattle.snl_lex.specs.declared.kind.Kind.TheVariants as kind

-- The kinds of the tokens that the grammar takes, in the order in which a message names them: what
-- closes and parts comes first, then words, leaves, and all other marks.
abbrev pub all_kinds : List Kind
all_kinds =
    kind.Semicolon
    ∷ kind.CloseParen
    ∷ kind.CloseBracket
    ∷ kind.CloseBrace
    ∷ kind.Comma
    ∷ kind.Colon
    ∷ kind.OpenBrace
    ∷ kind.Program
    ∷ kind.Ss
    ∷ kind.State
    ∷ kind.Entry
    ∷ kind.Exit
    ∷ kind.When
    ∷ kind.Option
    ∷ kind.Assign
    ∷ kind.To
    ∷ kind.Monitor
    ∷ kind.Sync
    ∷ kind.Syncq
    ∷ kind.SyncqCapital
    ∷ kind.Foreign
    ∷ kind.If
    ∷ kind.Else
    ∷ kind.While
    ∷ kind.For
    ∷ kind.Break
    ∷ kind.Continue
    ∷ kind.Return
    ∷ kind.Sizeof
    ∷ kind.Const
    ∷ kind.Void
    ∷ kind.Char
    ∷ kind.Short
    ∷ kind.Int
    ∷ kind.Long
    ∷ kind.Unsigned
    ∷ kind.Int8
    ∷ kind.Uint8
    ∷ kind.Int16
    ∷ kind.Uint16
    ∷ kind.Int32
    ∷ kind.Uint32
    ∷ kind.Float
    ∷ kind.Double
    ∷ kind.String
    ∷ kind.Evflag
    ∷ kind.Enum
    ∷ kind.Struct
    ∷ kind.Union
    ∷ kind.Typename
    ∷ kind.Name
    ∷ kind.Integer
    ∷ kind.Floating
    ∷ kind.Text
    ∷ kind.Character
    ∷ kind.CCode
    ∷ kind.OpenParen
    ∷ kind.OpenBracket
    ∷ kind.Dot
    ∷ kind.Arrow
    ∷ kind.PlusPlus
    ∷ kind.MinusMinus
    ∷ kind.Exclamation
    ∷ kind.Tilde
    ∷ kind.Plus
    ∷ kind.Minus
    ∷ kind.Star
    ∷ kind.Slash
    ∷ kind.Percent
    ∷ kind.Ampersand
    ∷ kind.Bar
    ∷ kind.Caret
    ∷ kind.AmpersandAmpersand
    ∷ kind.BarBar
    ∷ kind.LessLess
    ∷ kind.GreaterGreater
    ∷ kind.Less
    ∷ kind.Greater
    ∷ kind.LessEqual
    ∷ kind.GreaterEqual
    ∷ kind.EqualEqual
    ∷ kind.NotEqual
    ∷ kind.Equal
    ∷ kind.PlusEqual
    ∷ kind.MinusEqual
    ∷ kind.StarEqual
    ∷ kind.SlashEqual
    ∷ kind.PercentEqual
    ∷ kind.AmpersandEqual
    ∷ kind.BarEqual
    ∷ kind.CaretEqual
    ∷ kind.LessLessEqual
    ∷ kind.GreaterGreaterEqual
    ∷ kind.Question
    ∷ []

-- The name of a kind.
abbrev pub phrase_of : Kind → List ℕ
phrase_of kind.Name = codes "a name"
phrase_of kind.Integer = codes "an integer"
phrase_of kind.Floating = codes "a floating-point number"
phrase_of kind.Text = codes "a string"
phrase_of kind.Character = codes "a character"
phrase_of kind.CCode = codes "C code"
phrase_of kind.Bad = codes "no token"
phrase_of kind.Program = codes "'program'"
phrase_of kind.Ss = codes "'ss'"
phrase_of kind.State = codes "'state'"
phrase_of kind.Entry = codes "'entry'"
phrase_of kind.Exit = codes "'exit'"
phrase_of kind.When = codes "'when'"
phrase_of kind.Option = codes "'option'"
phrase_of kind.Assign = codes "'assign'"
phrase_of kind.To = codes "'to'"
phrase_of kind.Monitor = codes "'monitor'"
phrase_of kind.Sync = codes "'sync'"
phrase_of kind.Syncq = codes "'syncq'"
phrase_of kind.SyncqCapital = codes "'syncQ'"
phrase_of kind.Foreign = codes "'foreign'"
phrase_of kind.If = codes "'if'"
phrase_of kind.Else = codes "'else'"
phrase_of kind.While = codes "'while'"
phrase_of kind.For = codes "'for'"
phrase_of kind.Break = codes "'break'"
phrase_of kind.Continue = codes "'continue'"
phrase_of kind.Return = codes "'return'"
phrase_of kind.Sizeof = codes "'sizeof'"
phrase_of kind.Const = codes "'const'"
phrase_of kind.Void = codes "'void'"
phrase_of kind.Char = codes "'char'"
phrase_of kind.Short = codes "'short'"
phrase_of kind.Int = codes "'int'"
phrase_of kind.Long = codes "'long'"
phrase_of kind.Unsigned = codes "'unsigned'"
phrase_of kind.Int8 = codes "'int8_t'"
phrase_of kind.Uint8 = codes "'uint8_t'"
phrase_of kind.Int16 = codes "'int16_t'"
phrase_of kind.Uint16 = codes "'uint16_t'"
phrase_of kind.Int32 = codes "'int32_t'"
phrase_of kind.Uint32 = codes "'uint32_t'"
phrase_of kind.Float = codes "'float'"
phrase_of kind.Double = codes "'double'"
phrase_of kind.String = codes "'string'"
phrase_of kind.Evflag = codes "'evflag'"
phrase_of kind.Enum = codes "'enum'"
phrase_of kind.Struct = codes "'struct'"
phrase_of kind.Union = codes "'union'"
phrase_of kind.Typename = codes "'typename'"
phrase_of kind.OpenBrace = codes "'{'"
phrase_of kind.CloseBrace = codes "'}'"
phrase_of kind.OpenParen = codes "'('"
phrase_of kind.CloseParen = codes "')'"
phrase_of kind.OpenBracket = codes "'['"
phrase_of kind.CloseBracket = codes "']'"
phrase_of kind.Semicolon = codes "';'"
phrase_of kind.Comma = codes "','"
phrase_of kind.Dot = codes "'.'"
phrase_of kind.Arrow = codes "'->'"
phrase_of kind.PlusPlus = codes "'++'"
phrase_of kind.MinusMinus = codes "'--'"
phrase_of kind.Exclamation = codes "'!'"
phrase_of kind.Tilde = codes "'~'"
phrase_of kind.Plus = codes "'+'"
phrase_of kind.Minus = codes "'-'"
phrase_of kind.Star = codes "'*'"
phrase_of kind.Slash = codes "'/'"
phrase_of kind.Percent = codes "'%'"
phrase_of kind.Ampersand = codes "'&'"
phrase_of kind.Bar = codes "'|'"
phrase_of kind.Caret = codes "'^'"
phrase_of kind.AmpersandAmpersand = codes "'&&'"
phrase_of kind.BarBar = codes "'||'"
phrase_of kind.LessLess = codes "'<<'"
phrase_of kind.GreaterGreater = codes "'>>'"
phrase_of kind.Less = codes "'<'"
phrase_of kind.Greater = codes "'>'"
phrase_of kind.LessEqual = codes "'<='"
phrase_of kind.GreaterEqual = codes "'>='"
phrase_of kind.EqualEqual = codes "'=='"
phrase_of kind.NotEqual = codes "'!='"
phrase_of kind.Equal = codes "'='"
phrase_of kind.PlusEqual = codes "'+='"
phrase_of kind.MinusEqual = codes "'-='"
phrase_of kind.StarEqual = codes "'*='"
phrase_of kind.SlashEqual = codes "'/='"
phrase_of kind.PercentEqual = codes "'%='"
phrase_of kind.AmpersandEqual = codes "'&='"
phrase_of kind.BarEqual = codes "'|='"
phrase_of kind.CaretEqual = codes "'^='"
phrase_of kind.LessLessEqual = codes "'<<='"
phrase_of kind.GreaterGreaterEqual = codes "'>>='"
phrase_of kind.Question = codes "'?'"
phrase_of kind.Colon = codes "':'"
