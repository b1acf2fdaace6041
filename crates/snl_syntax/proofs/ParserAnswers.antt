-- What the parser's answer says of the grammar, by what the reader of items says and by the laws of
-- the grammar.
use Rattle.std.proofs.Common.{◌≡◌, ◌<◌, List, length, Some, None, Result, Ok, Err, IfOk, sym, subst}
use Rattle.snl_lex.specs.declared.kind.Kind.{Kind}
use Rattle.snl_grammar.specs.declared.tree.item.Item.{Item}
use Rattle.snl_syntax.specs.declared.fault.ParseFault.{ParseFault}
use Rattle.snl_syntax.specs.declared.fault.ParseFault.TheVariants as faults
use Rattle.snl_syntax.specs.Answered.{IfNoItem}
use Rattle.snl_grammar.specs.Grammar.Items.{IsItem, IsOnlyItem, MakeNoItem}
use Rattle.snl_grammar.specs.Reading.Items.{fault_of, item_of}
use Rattle.snl_grammar.specs.Viability.{IsFaultAt}
use Rattle.snl_grammar.specs.Tokens.{ahead}
use Rattle.snl_grammar.specs.Spelling.Base.{Matches}
use Rattle.snl_grammar.specs.Spelling.Items.{spell_item}

module _ (kinds : List Kind) (told : (ks : List Kind) (t : Item) → item_of ks ≡ Some t → IsItem t ks) where
  pub answer_found : (r : Result Item ParseFault) → IfOk r (λ t. item_of kinds ≡ Some t) → IfOk r (λ t. IsItem t kinds)
  answer_found (Ok t) e = told kinds t e
  answer_found (Err f) e = tt

  pub answer_spelled : ((t : Item) (ks : List Kind) → IsItem t ks → Matches (spell_item t) (ahead ks 0))
      → (r : Result Item ParseFault) → IfOk r (λ t. item_of kinds ≡ Some t) → IfOk r (λ t. Matches (spell_item t) (ahead kinds 0))
  answer_spelled spells (Ok t) e = spells t kinds (told kinds t e)
  answer_spelled spells (Err f) e = tt

  pub answer_only : ((ks : List Kind) (t u : Item) → IsItem t ks → IsItem u ks → t ≡ u)
      → (r : Result Item ParseFault) → IfOk r (λ t. item_of kinds ≡ Some t) → IfOk r (λ t. IsOnlyItem t kinds)
  answer_only one (Ok t) e = λ u is. one kinds u t is (told kinds t e)
  answer_only one (Err f) e = tt

module _ (kinds : List Kind) where
  pub answer_none : ((ks : List Kind) (t : Item) → IsItem t ks → item_of ks ≡ Some t)
      → (r : Result Item ParseFault) → IfNoItem r (λ n. item_of kinds ≡ None) → IfNoItem r (λ n. MakeNoItem kinds)
  answer_none read (Ok t) e = tt
  answer_none read (Err (faults.NoItem n)) e = λ u is. let some = read kinds u is in absurd cc
  answer_none read (Err (faults.BadPiece n)) e = tt
  answer_none read (Err faults.OutOfMemory) e = tt

  pub answer_fault : ((ks : List Kind) → 0 < length ks → item_of ks ≡ None → IsFaultAt ks (fault_of ks))
      → (r : Result Item ParseFault) → 0 < length kinds → IfNoItem r (λ n. item_of kinds ≡ None) → IfNoItem r (λ n. n ≡ fault_of kinds) → IfNoItem r (λ n. IsFaultAt kinds n)
  answer_fault fault (Ok t) some e h = tt
  answer_fault fault (Err (faults.NoItem n)) some e h = subst (IsFaultAt kinds) (sym h) (fault kinds some e)
  answer_fault fault (Err (faults.BadPiece n)) some e h = tt
  answer_fault fault (Err faults.OutOfMemory) some e h = tt
