-- Tiers of binary operators can be completed where a reader fails, and what it took is in the
-- grammar.
use Rattle.std.proofs.Common.{ℕ, zero, suc, List, [], ◌∷◌, refl, subst}
use Rattle.snl_lex.specs.declared.kind.Kind.TheVariants as kind
use Rattle.snl_grammar.specs.declared.operator.Binary.{Binary}
use Rattle.snl_grammar.specs.declared.tree.types.TypeName.{TypeName}
use Rattle.snl_grammar.specs.declared.tree.expression.Expr.{Expr}
use Rattle.snl_grammar.specs.Tokens.{NumberedKind}
use Rattle.snl_grammar.specs.Steps.{Reader, many}
use Rattle.snl_grammar.specs.Grammar.Base.{Each}
use Rattle.snl_grammar.specs.Grammar.Expressions.{IsPrefix, IsLink, alone, chain, IsTier}
use Rattle.snl_grammar.specs.Reading.Expressions.{chained, next_link, prefix, tiers_from, operand}
use Rattle.snl_grammar.proofs.Viable.{Completable, Both, both, IsNothing, bind_completable, into_completable, pure_completable}
use Rattle.snl_grammar.proofs.CommasViable.{Int, links_completable}
use Rattle.snl_grammar.proofs.OperandViable.{prefix_completable}

module _ (Inner : Expr → List NumberedKind → List NumberedKind → Type 0) (Names : TypeName → List NumberedKind → List NumberedKind → Type 0) where
  -- a prefix expression that the tiers up to n go on from
  abbrev pub Continues : ℕ → Expr → Expr → List NumberedKind → List NumberedKind → Type 0
  Continues n x t k rest = (m : List NumberedKind) → IsPrefix Inner Names x m k → IsTier Inner Names n t m rest

module _ (free extra : ℕ) (Inner : Expr → List NumberedKind → List NumberedKind → Type 0) (Names : TypeName → List NumberedKind → List NumberedKind → Type 0) (inner : Reader Expr) (names : Reader TypeName) (fi : Completable free extra inner Inner Int) (fn : Completable free extra names Names (kind.Int ∷ [])) where
  make_chain : (n : ℕ) (x : Expr) (links : List (Binary × Expr)) (k m rest : List NumberedKind) → IsTier Inner Names n x k m → Each (IsLink (suc n) (IsTier Inner Names n)) links m rest → IsTier Inner Names (suc n) (chained x links) k rest
  make_chain n x [] k m rest r e = alone (subst (λ l. IsTier Inner Names n x k l) e r)
  make_chain n x (link ∷ links) k m rest r e = chain x link links m refl r e

  into_tier : (n : ℕ) (x : Expr) (y : Expr) (k rest : List NumberedKind) → Both (Continues Inner Names n x) (λ first. Both (Each (IsLink (suc n) (IsTier Inner Names n))) (λ links. IsNothing (chained first links))) y k rest → Continues Inner Names (suc n) x y k rest
  into_tier n x y k rest (both first m c (both links m2 e h)) front p = subst (λ z. IsTier Inner Names (suc n) z front rest) h.0 (make_chain n first links front m rest (c front p) (subst (λ l. Each (IsLink (suc n) (IsTier Inner Names n)) links m l) h.1 e))

  into_operand : (n : ℕ) (y : Expr) (k rest : List NumberedKind) → Both (IsPrefix Inner Names) (Continues Inner Names n) y k rest → IsTier Inner Names n y k rest
  into_operand n y k rest (both x m p c) = c k p

  into_zero : (x y : Expr) (k rest : List NumberedKind) → IsNothing x y k rest → Continues Inner Names 0 x y k rest
  into_zero x y k rest h front p = subst (λ z. IsPrefix Inner Names z front rest) h.0 (subst (λ l. IsPrefix Inner Names x front l) h.1 p)

  operand_of : (n : ℕ) → ((x : Expr) → Completable free extra (tiers_from inner names n x) (Continues Inner Names n x) []) → Completable free extra (operand inner names n) (IsTier Inner Names n) Int
  operand_of n f = into_completable free extra (operand inner names n) _ (IsTier Inner Names n) Int (into_operand n) (bind_completable free extra (prefix inner names) (tiers_from inner names n) (IsPrefix Inner Names) (Continues Inner Names n) Int [] (prefix_completable free extra Inner Names inner names fi fn) f)

  pub tiers_completable : (n : ℕ) (x : Expr) → Completable free extra (tiers_from inner names n x) (Continues Inner Names n x) []
  unfolding tiers_from
  tiers_completable zero x = into_completable free extra (tiers_from inner names zero x) (IsNothing x) (Continues Inner Names 0 x) [] (into_zero x) (pure_completable free extra x)
  tiers_completable (suc n) x =
      into_completable free extra (tiers_from inner names (suc n) x) _ (Continues Inner Names (suc n) x) [] (into_tier n x)
      (bind_completable free extra (tiers_from inner names n x) _ (Continues Inner Names n x) (λ first. Both (Each (IsLink (suc n) (IsTier Inner Names n))) (λ links. IsNothing (chained first links))) [] [] (tiers_completable n x) (λ first.
      bind_completable free extra (many (next_link (suc n) (operand inner names n)) []) _ (Each (IsLink (suc n) (IsTier Inner Names n))) (λ links. IsNothing (chained first links)) [] [] (links_completable free extra (suc n) (IsTier Inner Names n) (operand inner names n) (operand_of n (tiers_completable n))) (λ links. pure_completable free extra (chained first links))))

  pub operand_completable : (n : ℕ) → Completable free extra (operand inner names n) (IsTier Inner Names n) Int
  operand_completable n = operand_of n (tiers_completable n)
