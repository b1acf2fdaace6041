-- Clauses on variables, options, and foreign names.
use Rattle.std.specs.Prelude.{◌≡◌, ℕ, Bool, true, false, List, Option}
use Rattle.snl_lex.specs.declared.kind.Kind.{Kind}
use Rattle.snl_lex.specs.declared.kind.Kind.TheVariants as kind
use Rattle.snl_grammar.specs.declared.tree.clause.Channel.{Channel}
use Rattle.snl_grammar.specs.declared.tree.clause.Channel.TheVariants as channels
use Rattle.snl_grammar.specs.declared.tree.clause.Flag.{Flag}
use Rattle.snl_grammar.specs.declared.tree.clause.Clause.{Clause}
use Rattle.snl_grammar.specs.declared.tree.clause.Clause.TheVariants as clauses
use Rattle.snl_grammar.specs.declared.tree.clause.OptionSign.{OptionSign}
use Rattle.snl_grammar.specs.declared.tree.clause.OptionSign.TheVariants as signs
use Rattle.snl_grammar.specs.declared.tree.clause.OptionLine.{OptionLine}
use Rattle.snl_grammar.specs.Tokens.{NumberedKind}
use Rattle.snl_grammar.specs.Grammar.Base.{First, Leaf, Perhaps}
use Rattle.snl_grammar.specs.Grammar.Types.{Written}
use Rattle.snl_grammar.specs.Grammar.Expressions.{AreCommas, AreTexts}
use Rattle.snl_grammar.specs.Grammar.Declarations.{AreBraced}

-- foreign = "foreign" NAME { "," NAME } ";"
pub record AreForeign (t : List ℕ) (k rest : List NumberedKind) : Type 0 where
  pub m1 : List NumberedKind
  pub m2 : List NumberedKind
  pub word : First kind.Foreign k m1
  pub names : AreCommas (Leaf kind.Name) t m1 m2
  pub semicolon : First kind.Semicolon m2 rest

abbrev pub option_kind : OptionSign → Kind
option_kind signs.Plus = kind.Plus
option_kind signs.Minus = kind.Minus

-- option = "option" ( "+" | "-" ) NAME ";"
pub record IsOptionLine (t : OptionLine) (k rest : List NumberedKind) : Type 0 where
  pub m1 : List NumberedKind
  pub m2 : List NumberedKind
  pub m3 : List NumberedKind
  pub word : First kind.Option k m1
  pub sign : First (option_kind t.sign) m1 m2
  pub letters : Leaf kind.Name t.letters m2 m3
  pub semicolon : First kind.Semicolon m3 rest

-- "[" INT "]"
pub record IsSubscript (t : ℕ) (k rest : List NumberedKind) : Type 0 where
  pub m1 : List NumberedKind
  pub m2 : List NumberedKind
  pub opening : First kind.OpenBracket k m1
  pub number : Leaf kind.Integer t m1 m2
  pub closing : First kind.CloseBracket m2 rest

-- ["to"] NAME
pub record IsFlag (t : Flag) (k rest : List NumberedKind) : Type 0 where
  pub mid : List NumberedKind
  pub to : Written kind.To t.to k mid
  pub name : Leaf kind.Name t.name mid rest

-- what is between an assign's NAME and its ";"
pub data IsChannel (t : Channel) (k rest : List NumberedKind) : Type 0 where
  anonymous : t ≡ channels.Anonymous → k ≡ rest → IsChannel t k rest
  whole : (to : Bool) (ns : List ℕ) (mid : List NumberedKind) → t ≡ channels.Whole to ns → Written kind.To to k mid → AreTexts ns mid rest → IsChannel t k rest
  element : (n : ℕ) (to : Bool) (ns : List ℕ) (m1 m2 : List NumberedKind) → t ≡ channels.Element n to ns → IsSubscript n k m1 → Written kind.To to m1 m2 → AreTexts ns m2 rest → IsChannel t k rest
  elements : (to : Bool) (xs : List (List ℕ)) (trailing : Bool) (m1 m2 : List NumberedKind) → t ≡ channels.Elements to xs trailing → Written kind.To to k m1 → First kind.OpenBrace m1 m2 → AreBraced AreTexts xs trailing m2 rest → IsChannel t k rest

-- "assign" NAME channel ";"
pub record IsAssign (n : ℕ) (x : Channel) (k rest : List NumberedKind) : Type 0 where
  pub m1 : List NumberedKind
  pub m2 : List NumberedKind
  pub m3 : List NumberedKind
  pub word : First kind.Assign k m1
  pub name : Leaf kind.Name n m1 m2
  pub channel : IsChannel x m2 m3
  pub semicolon : First kind.Semicolon m3 rest

-- "monitor" NAME [ "[" INT "]" ] ";"
pub record IsMonitor (n : ℕ) (s : Option ℕ) (k rest : List NumberedKind) : Type 0 where
  pub m1 : List NumberedKind
  pub m2 : List NumberedKind
  pub m3 : List NumberedKind
  pub word : First kind.Monitor k m1
  pub name : Leaf kind.Name n m1 m2
  pub subscript : Perhaps IsSubscript s m2 m3
  pub semicolon : First kind.Semicolon m3 rest

-- "sync" NAME [ "[" INT "]" ] ["to"] NAME ";"
pub record IsSync (n : ℕ) (s : Option ℕ) (f : Flag) (k rest : List NumberedKind) : Type 0 where
  pub m1 : List NumberedKind
  pub m2 : List NumberedKind
  pub m3 : List NumberedKind
  pub m4 : List NumberedKind
  pub word : First kind.Sync k m1
  pub name : Leaf kind.Name n m1 m2
  pub subscript : Perhaps IsSubscript s m2 m3
  pub flag : IsFlag f m3 m4
  pub semicolon : First kind.Semicolon m4 rest

abbrev pub syncq_word : Bool → Kind
syncq_word true = kind.SyncqCapital
syncq_word false = kind.Syncq

-- "syncq" NAME [ "[" INT "]" ] [ ["to"] NAME ] [ INT ] ";"
pub record IsSyncq (capital : Bool) (n : ℕ) (s : Option ℕ) (f : Option Flag) (q : Option ℕ) (k rest : List NumberedKind) : Type 0 where
  pub m1 : List NumberedKind
  pub m2 : List NumberedKind
  pub m3 : List NumberedKind
  pub m4 : List NumberedKind
  pub m5 : List NumberedKind
  pub word : First (syncq_word capital) k m1
  pub name : Leaf kind.Name n m1 m2
  pub subscript : Perhaps IsSubscript s m2 m3
  pub flag : Perhaps IsFlag f m3 m4
  pub queue : Perhaps (Leaf kind.Integer) q m4 m5
  pub semicolon : First kind.Semicolon m5 rest

pub data IsClause (t : Clause) (k rest : List NumberedKind) : Type 0 where
  assign : (n : ℕ) (x : Channel) → t ≡ clauses.Assign n x → IsAssign n x k rest → IsClause t k rest
  monitor : (n : ℕ) (s : Option ℕ) → t ≡ clauses.Monitor n s → IsMonitor n s k rest → IsClause t k rest
  sync : (n : ℕ) (s : Option ℕ) (f : Flag) → t ≡ clauses.Sync n s f → IsSync n s f k rest → IsClause t k rest
  syncq : (capital : Bool) (n : ℕ) (s : Option ℕ) (f : Option Flag) (q : Option ℕ) → t ≡ clauses.Syncq capital n s f q → IsSyncq capital n s f q k rest → IsClause t k rest
