-- A kind is known by its number.
use Rattle.std.proofs.Common.{◌≡◌, ℕ, true, List, [], ◌∷◌, get_or, refl, sym, ap, ◌∙◌}
use Rattle.std.proofs.lemmas.Bool.{eqb-true, eq-eqb}
use Rattle.snl_lex.specs.declared.kind.Kind.{Kind}
use Rattle.snl_lex.specs.declared.kind.Kind.TheVariants as kind
use Rattle.snl_grammar.specs.Tokens.{code, same}

abbrev all : List Kind
all = kind.Name ∷ kind.Integer ∷ kind.Floating ∷ kind.Text ∷ kind.Character ∷ kind.CCode ∷ kind.Bad ∷ kind.Program ∷ kind.Ss ∷ kind.State ∷ kind.Entry ∷ kind.Exit ∷ kind.When ∷ kind.Option ∷ kind.Assign ∷ kind.To ∷ kind.Monitor ∷ kind.Sync ∷ kind.Syncq ∷ kind.SyncqCapital ∷ kind.Foreign ∷ kind.If ∷ kind.Else ∷ kind.While ∷ kind.For ∷ kind.Break ∷ kind.Continue ∷ kind.Return ∷ kind.Sizeof ∷ kind.Const ∷ kind.Void ∷ kind.Char ∷ kind.Short ∷ kind.Int ∷ kind.Long ∷ kind.Unsigned ∷ kind.Int8 ∷ kind.Uint8 ∷ kind.Int16 ∷ kind.Uint16 ∷ kind.Int32 ∷ kind.Uint32 ∷ kind.Float ∷ kind.Double ∷ kind.String ∷ kind.Evflag ∷ kind.Enum ∷ kind.Struct ∷ kind.Union ∷ kind.Typename ∷ kind.OpenBrace ∷ kind.CloseBrace ∷ kind.OpenParen ∷ kind.CloseParen ∷ kind.OpenBracket ∷ kind.CloseBracket ∷ kind.Semicolon ∷ kind.Comma ∷ kind.Dot ∷ kind.Arrow ∷ kind.PlusPlus ∷ kind.MinusMinus ∷ kind.Exclamation ∷ kind.Tilde ∷ kind.Plus ∷ kind.Minus ∷ kind.Star ∷ kind.Slash ∷ kind.Percent ∷ kind.Ampersand ∷ kind.Bar ∷ kind.Caret ∷ kind.AmpersandAmpersand ∷ kind.BarBar ∷ kind.LessLess ∷ kind.GreaterGreater ∷ kind.Less ∷ kind.Greater ∷ kind.LessEqual ∷ kind.GreaterEqual ∷ kind.EqualEqual ∷ kind.NotEqual ∷ kind.Equal ∷ kind.PlusEqual ∷ kind.MinusEqual ∷ kind.StarEqual ∷ kind.SlashEqual ∷ kind.PercentEqual ∷ kind.AmpersandEqual ∷ kind.BarEqual ∷ kind.CaretEqual ∷ kind.LessLessEqual ∷ kind.GreaterGreaterEqual ∷ kind.Question ∷ kind.Colon ∷ []

abbrev decode : ℕ → Kind
decode n = get_or all n kind.Bad

decode-code : (x : Kind) → decode (code x) ≡ x
decode-code kind.Name = refl
decode-code kind.Integer = refl
decode-code kind.Floating = refl
decode-code kind.Text = refl
decode-code kind.Character = refl
decode-code kind.CCode = refl
decode-code kind.Bad = refl
decode-code kind.Program = refl
decode-code kind.Ss = refl
decode-code kind.State = refl
decode-code kind.Entry = refl
decode-code kind.Exit = refl
decode-code kind.When = refl
decode-code kind.Option = refl
decode-code kind.Assign = refl
decode-code kind.To = refl
decode-code kind.Monitor = refl
decode-code kind.Sync = refl
decode-code kind.Syncq = refl
decode-code kind.SyncqCapital = refl
decode-code kind.Foreign = refl
decode-code kind.If = refl
decode-code kind.Else = refl
decode-code kind.While = refl
decode-code kind.For = refl
decode-code kind.Break = refl
decode-code kind.Continue = refl
decode-code kind.Return = refl
decode-code kind.Sizeof = refl
decode-code kind.Const = refl
decode-code kind.Void = refl
decode-code kind.Char = refl
decode-code kind.Short = refl
decode-code kind.Int = refl
decode-code kind.Long = refl
decode-code kind.Unsigned = refl
decode-code kind.Int8 = refl
decode-code kind.Uint8 = refl
decode-code kind.Int16 = refl
decode-code kind.Uint16 = refl
decode-code kind.Int32 = refl
decode-code kind.Uint32 = refl
decode-code kind.Float = refl
decode-code kind.Double = refl
decode-code kind.String = refl
decode-code kind.Evflag = refl
decode-code kind.Enum = refl
decode-code kind.Struct = refl
decode-code kind.Union = refl
decode-code kind.Typename = refl
decode-code kind.OpenBrace = refl
decode-code kind.CloseBrace = refl
decode-code kind.OpenParen = refl
decode-code kind.CloseParen = refl
decode-code kind.OpenBracket = refl
decode-code kind.CloseBracket = refl
decode-code kind.Semicolon = refl
decode-code kind.Comma = refl
decode-code kind.Dot = refl
decode-code kind.Arrow = refl
decode-code kind.PlusPlus = refl
decode-code kind.MinusMinus = refl
decode-code kind.Exclamation = refl
decode-code kind.Tilde = refl
decode-code kind.Plus = refl
decode-code kind.Minus = refl
decode-code kind.Star = refl
decode-code kind.Slash = refl
decode-code kind.Percent = refl
decode-code kind.Ampersand = refl
decode-code kind.Bar = refl
decode-code kind.Caret = refl
decode-code kind.AmpersandAmpersand = refl
decode-code kind.BarBar = refl
decode-code kind.LessLess = refl
decode-code kind.GreaterGreater = refl
decode-code kind.Less = refl
decode-code kind.Greater = refl
decode-code kind.LessEqual = refl
decode-code kind.GreaterEqual = refl
decode-code kind.EqualEqual = refl
decode-code kind.NotEqual = refl
decode-code kind.Equal = refl
decode-code kind.PlusEqual = refl
decode-code kind.MinusEqual = refl
decode-code kind.StarEqual = refl
decode-code kind.SlashEqual = refl
decode-code kind.PercentEqual = refl
decode-code kind.AmpersandEqual = refl
decode-code kind.BarEqual = refl
decode-code kind.CaretEqual = refl
decode-code kind.LessLessEqual = refl
decode-code kind.GreaterGreaterEqual = refl
decode-code kind.Question = refl
decode-code kind.Colon = refl

pub same_true : (a b : Kind) → same a b ≡ true → a ≡ b
same_true a b h = sym (decode-code a) ∙ ap decode (eqb-true (code a) (code b) h) ∙ decode-code b

pub same_refl : (a : Kind) → same a a ≡ true
same_refl a = eq-eqb (code a) (code a) refl
