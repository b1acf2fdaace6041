-- Items, and which item all tokens of a list make.
use Rattle.std.specs.Prelude.{◌≡◌, ℕ, suc, List, [], Option}
use Rattle.snl_lex.specs.declared.kind.Kind.{Kind}
use Rattle.snl_lex.specs.declared.kind.Kind.TheVariants as kind
use Rattle.snl_grammar.specs.declared.tree.statement.Member.{Member}
use Rattle.snl_grammar.specs.declared.tree.clause.Clause.{Clause}
use Rattle.snl_grammar.specs.declared.tree.clause.OptionLine.{OptionLine}
use Rattle.snl_grammar.specs.declared.tree.state.StateMember.{StateMember}
use Rattle.snl_grammar.specs.declared.tree.item.Item.{Item}
use Rattle.snl_grammar.specs.declared.tree.item.Item.TheVariants as items
use Rattle.snl_grammar.specs.Tokens.{NumberedKind, ahead}
use Rattle.snl_grammar.specs.Grammar.Base.{First, Leaf, Perhaps}
use Rattle.snl_grammar.specs.Grammar.Expressions.{AreTexts, IsExpr}
use Rattle.snl_grammar.specs.Grammar.Declarations.{IsDeclaration}
use Rattle.snl_grammar.specs.Grammar.Clauses.{AreForeign, IsOptionLine, IsClause}
use Rattle.snl_grammar.specs.Grammar.Statements.{IsBlockWithin}
use Rattle.snl_grammar.specs.Grammar.Functions.{IsParameter, IsTypedItem}
use Rattle.snl_grammar.specs.Grammar.States.{IsBlockAfter, IsState}

-- "(" texts ")"
pub record AreBracketed (ns : List ℕ) (k rest : List NumberedKind) : Type 0 where
  pub m1 : List NumberedKind
  pub m2 : List NumberedKind
  pub opening : First kind.OpenParen k m1
  pub strings : AreTexts ns m1 m2
  pub closing : First kind.CloseParen m2 rest

-- header = "program" NAME [ "(" texts ")" ]
pub record IsHeader (n : ℕ) (ns : Option (List ℕ)) (k rest : List NumberedKind) : Type 0 where
  pub m1 : List NumberedKind
  pub m2 : List NumberedKind
  pub word : First kind.Program k m1
  pub name : Leaf kind.Name n m1 m2
  pub parameters : Perhaps AreBracketed ns m2 rest

-- ssbegin = "ss" NAME "{"
pub record IsSetBegin (n : ℕ) (k rest : List NumberedKind) : Type 0 where
  pub m1 : List NumberedKind
  pub m2 : List NumberedKind
  pub word : First kind.Ss k m1
  pub name : Leaf kind.Name n m1 m2
  pub opening : First kind.OpenBrace m2 rest

-- An item that is in two levels more than `depth`: so the members of a state are in one more, and
-- what the brackets of a `when` hold in `depth`. Tokens from the `free`th on may use `extra` more.
pub data IsItemWithin (free extra depth : ℕ) (t : Item) (k rest : List NumberedKind) : Type 0 where
  header : (n : ℕ) (ns : Option (List ℕ)) → t ≡ items.Header n ns → IsHeader n ns k rest → IsItemWithin free extra depth t k rest
  set_begin : (n : ℕ) → t ≡ items.SsBegin n → IsSetBegin n k rest → IsItemWithin free extra depth t k rest
  set_end : t ≡ items.SsEnd → First kind.CloseBrace k rest → IsItemWithin free extra depth t k rest
  empty : t ≡ items.Empty → First kind.Semicolon k rest → IsItemWithin free extra depth t k rest
  c_block : (n : ℕ) → t ≡ items.CBlock n → Leaf kind.CCode n k rest → IsItemWithin free extra depth t k rest
  foreign : (ns : List ℕ) → t ≡ items.Foreign ns → AreForeign ns k rest → IsItemWithin free extra depth t k rest
  clause : (c : Clause) → t ≡ items.Clause c → IsClause c k rest → IsItemWithin free extra depth t k rest
  option_line : (o : OptionLine) → t ≡ items.OptionLine o → IsOptionLine o k rest → IsItemWithin free extra depth t k rest
  entry : (b : List Member) → t ≡ items.Entry b → IsBlockAfter kind.Entry (IsBlockWithin free extra (suc (suc depth))) b k rest → IsItemWithin free extra depth t k rest
  exit : (b : List Member) → t ≡ items.Exit b → IsBlockAfter kind.Exit (IsBlockWithin free extra (suc (suc depth))) b k rest → IsItemWithin free extra depth t k rest
  state : (n : ℕ) (ms : List StateMember) → t ≡ items.StateBlock n ms → IsState (IsExpr free extra depth) (IsDeclaration free extra (suc depth)) (IsBlockWithin free extra (suc depth)) n ms k rest → IsItemWithin free extra depth t k rest
  typed : IsTypedItem (IsDeclaration free extra (suc (suc depth))) (IsDeclaration free extra (suc depth)) (IsParameter free extra (suc depth)) (IsBlockWithin free extra (suc (suc depth))) t k rest → IsItemWithin free extra depth t k rest

-- The item that all tokens of these kinds make: each leaf is the number of its token, and no token
-- lies within more than 100 levels.
abbrev pub IsItem : Item → List Kind → Type 0
IsItem t kinds = IsItemWithin 0 0 99 t (ahead kinds 0) []

-- No other item consists of these tokens.
abbrev pub IsOnlyItem : Item → List Kind → Type 0
IsOnlyItem t kinds = (u : Item) → IsItem u kinds → u ≡ t

-- No item consists of these tokens.
abbrev pub MakeNoItem : List Kind → Type 0
MakeNoItem kinds = (u : Item) → IsItem u kinds → ⊥
