-- The words and punctuators of the language, 43 and 45, and what a token is to the grammar, by its
-- class and its bytes.
use Rattle.std.specs.Prelude.{ℕ, Bool, List, [], ◌∷◌, ◌++◌, codes, cond, filter, length, map, take}
use Rattle.std.specs.List.{list_any}
use Rattle.std.specs.Str.{bytes_eq}
use Rattle.snl_lex.specs.declared.piece.Class.{Class}
use Rattle.snl_lex.specs.declared.piece.Class.TheVariants as class
use Rattle.snl_lex.specs.declared.kind.Kind.{Kind}
use Rattle.snl_lex.specs.declared.kind.Kind.TheVariants as kind

-- A spelling and what it is.
pub record Entry : Type 0 where
  pub bytes : List ℕ
  pub kind : Kind

infixl 10 ◌is◌
abbrev pub ◌is◌ : List ℕ → Kind → Entry
bytes is kind = record { bytes = bytes; kind = kind }

-- What the table says of the bytes: the first entry counts, and `Bad` where there is none.
abbrev pub look_up : List Entry → List ℕ → Kind
look_up [] bytes = kind.Bad
look_up (e ∷ es) bytes = cond (bytes_eq bytes e.bytes) e.kind (look_up es bytes)

-- The spellings in the table.
abbrev pub spellings : List Entry → List (List ℕ)
spellings es = map (λ (e : Entry). e.bytes) es

-- The table has the bytes.
abbrev pub has : List Entry → List ℕ → Bool
has es bytes = list_any (bytes_eq bytes) (spellings es)

-- The words of two letters, of three, and so on.
abbrev pub words_of_2 : List Entry
words_of_2 = (codes "ss" is kind.Ss) ∷ (codes "to" is kind.To) ∷ (codes "if" is kind.If) ∷ []

abbrev pub words_of_3 : List Entry
words_of_3 = (codes "for" is kind.For) ∷ (codes "int" is kind.Int) ∷ []

-- The rest of the words of four letters.
abbrev pub more_words_of_4 : List Entry
more_words_of_4 =
    (codes "void" is kind.Void) ∷ (codes "char" is kind.Char) ∷ (codes "long" is kind.Long) ∷ (codes "enum" is kind.Enum) ∷ []

abbrev pub words_of_4 : List Entry
words_of_4 =
    (codes "exit" is kind.Exit) ∷ (codes "when" is kind.When) ∷ (codes "sync" is kind.Sync) ∷ (codes "else" is kind.Else)
    ∷ more_words_of_4

-- The rest of the words of five letters.
abbrev pub more_words_of_5 : List Entry
more_words_of_5 =
    (codes "break" is kind.Break) ∷ (codes "const" is kind.Const) ∷ (codes "short" is kind.Short)
    ∷ (codes "float" is kind.Float) ∷ (codes "union" is kind.Union) ∷ []

abbrev pub words_of_5 : List Entry
words_of_5 =
    (codes "state" is kind.State) ∷ (codes "entry" is kind.Entry) ∷ (codes "syncq" is kind.Syncq) ∷ (codes "syncQ" is kind.SyncqCapital)
    ∷ (codes "while" is kind.While)
    ∷ more_words_of_5

-- The rest of the words of six letters.
abbrev pub more_words_of_6 : List Entry
more_words_of_6 =
    (codes "struct" is kind.Struct) ∷ (codes "return" is kind.Return) ∷ (codes "sizeof" is kind.Sizeof)
    ∷ (codes "int8_t" is kind.Int8) ∷ []

abbrev pub words_of_6 : List Entry
words_of_6 =
    (codes "assign" is kind.Assign) ∷ (codes "string" is kind.String) ∷ (codes "double" is kind.Double) ∷ (codes "evflag" is kind.Evflag)
    ∷ (codes "option" is kind.Option)
    ∷ more_words_of_6

-- The rest of the words of seven letters.
abbrev pub more_words_of_7 : List Entry
more_words_of_7 =
    (codes "uint8_t" is kind.Uint8) ∷ (codes "int16_t" is kind.Int16) ∷ (codes "int32_t" is kind.Int32) ∷ []

abbrev pub words_of_7 : List Entry
words_of_7 =
    (codes "program" is kind.Program) ∷ (codes "monitor" is kind.Monitor) ∷ (codes "foreign" is kind.Foreign)
    ∷ more_words_of_7

abbrev pub words_of_8 : List Entry
words_of_8 =
    (codes "continue" is kind.Continue) ∷ (codes "unsigned" is kind.Unsigned) ∷ (codes "uint16_t" is kind.Uint16)
    ∷ (codes "uint32_t" is kind.Uint32) ∷ (codes "typename" is kind.Typename) ∷ []

-- All words, from the shortest on. Case counts.
abbrev pub words : List Entry
words = words_of_2 ++ (words_of_3 ++ (words_of_4 ++ (words_of_5 ++ (words_of_6 ++ (words_of_7 ++ words_of_8)))))

-- The words that begin with these bytes.
abbrev pub words_on : List ℕ → List Entry
words_on front = filter (λ (e : Entry). bytes_eq (take (length front) e.bytes) front) words

-- The bytes spell one of the words.
unfoldable pub is_word : List ℕ → Bool
is_word bytes = has words bytes

-- The punctuators of one byte, of two and of three.
abbrev pub punctuators_of_1 : List Entry
punctuators_of_1 =
    (codes "{" is kind.OpenBrace) ∷ (codes "}" is kind.CloseBrace) ∷ (codes "(" is kind.OpenParen) ∷ (codes ")" is kind.CloseParen)
    ∷ (codes "[" is kind.OpenBracket) ∷ (codes "]" is kind.CloseBracket) ∷ (codes ";" is kind.Semicolon) ∷ (codes "," is kind.Comma)
    ∷ (codes "." is kind.Dot) ∷ (codes "!" is kind.Exclamation) ∷ (codes "~" is kind.Tilde) ∷ (codes "+" is kind.Plus)
    ∷ (codes "-" is kind.Minus) ∷ (codes "*" is kind.Star) ∷ (codes "/" is kind.Slash) ∷ (codes "%" is kind.Percent)
    ∷ (codes "&" is kind.Ampersand) ∷ (codes "|" is kind.Bar) ∷ (codes "^" is kind.Caret) ∷ (codes "<" is kind.Less)
    ∷ (codes ">" is kind.Greater) ∷ (codes "=" is kind.Equal) ∷ (codes "?" is kind.Question) ∷ (codes ":" is kind.Colon) ∷ []

abbrev pub punctuators_of_2 : List Entry
punctuators_of_2 =
    (codes "->" is kind.Arrow) ∷ (codes "++" is kind.PlusPlus) ∷ (codes "--" is kind.MinusMinus) ∷ (codes "&&" is kind.AmpersandAmpersand)
    ∷ (codes "||" is kind.BarBar) ∷ (codes "<<" is kind.LessLess) ∷ (codes ">>" is kind.GreaterGreater) ∷ (codes "<=" is kind.LessEqual)
    ∷ (codes ">=" is kind.GreaterEqual) ∷ (codes "==" is kind.EqualEqual) ∷ (codes "!=" is kind.NotEqual) ∷ (codes "+=" is kind.PlusEqual)
    ∷ (codes "-=" is kind.MinusEqual) ∷ (codes "*=" is kind.StarEqual) ∷ (codes "/=" is kind.SlashEqual) ∷ (codes "%=" is kind.PercentEqual)
    ∷ (codes "&=" is kind.AmpersandEqual) ∷ (codes "|=" is kind.BarEqual) ∷ (codes "^=" is kind.CaretEqual) ∷ []

abbrev pub punctuators_of_3 : List Entry
punctuators_of_3 = (codes "<<=" is kind.LessLessEqual) ∷ (codes ">>=" is kind.GreaterGreaterEqual) ∷ []

-- All punctuators, from the shortest on.
abbrev pub punctuators : List Entry
punctuators = punctuators_of_1 ++ (punctuators_of_2 ++ punctuators_of_3)

-- What a token is, by its class, and a word or a punctuator by its bytes too. White space, comments
-- and markers are no tokens.
unfoldable pub kind_of : Class → List ℕ → Kind
kind_of class.Name bytes = kind.Name
kind_of class.Word bytes = look_up words bytes
kind_of class.Int bytes = kind.Integer
kind_of class.Float bytes = kind.Floating
kind_of class.Text bytes = kind.Text
kind_of class.CharLit bytes = kind.Character
kind_of class.CCode bytes = kind.CCode
kind_of class.Punct bytes = look_up punctuators bytes
kind_of _ bytes = kind.Bad
