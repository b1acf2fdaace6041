-- An expression or nothing before a mark, and what is in the brackets of a statement, can be
-- completed where a reader fails.
use Rattle.std.proofs.Common.{ℕ, List, [], ◌∷◌, Option, Some, None, refl, subst}
use Rattle.snl_lex.specs.declared.kind.Kind.{Kind}
use Rattle.snl_lex.specs.declared.kind.Kind.TheVariants as kind
use Rattle.snl_grammar.specs.declared.tree.expression.Expr.{Expr}
use Rattle.snl_grammar.specs.declared.tree.statement.ForHead.{ForHead}
use Rattle.snl_grammar.specs.Tokens.{NumberedKind}
use Rattle.snl_grammar.specs.Steps.{Reader, expect, word}
use Rattle.snl_grammar.specs.Grammar.Base.{Leaf, Within}
use Rattle.snl_grammar.specs.Grammar.Expressions.{IsExpr}
use Rattle.snl_grammar.specs.Grammar.Statements.{IsBefore, IsCondition, AreForParts, IsForHead, IsForHeadWithin}
use Rattle.snl_grammar.specs.Reading.Expressions.{expr}
use Rattle.snl_grammar.specs.Reading.Statements.{some_before, semicolon_by, before_semicolon, paren_by, before_paren, condition, for_parts, for_head}
use Rattle.snl_grammar.proofs.Viable.{Viable, Completable, Exists, Both, both, IsNothing, bind_completable, into_completable, choice_viable, expect_completable, pure_completable, level_completable}
use Rattle.snl_grammar.proofs.TypeLaws.{word_completable, first_then}
use Rattle.snl_grammar.proofs.CommasViable.{Int}
use Rattle.snl_grammar.proofs.ExpressionViable.{expr_completable}

abbrev pub Semi : List Kind
Semi = kind.Semicolon ∷ []

-- ---- an expression or nothing, and the token that ends it

module _ (free extra : ℕ) (R : Expr → List NumberedKind → List NumberedKind → Type 0) (p : Reader Expr) (f : Completable free extra p R Int) where
  into_some : (x : Kind) (y : Option Expr) (k rest : List NumberedKind) → Both R (λ e. Both (Leaf x) (λ _. IsNothing (Some e))) y k rest → IsBefore x R y k rest
  into_some x y k rest (both e m r (both n m2 h v)) = subst (λ z. IsBefore x R z k rest) v.0 (record { mid = m; value = r; mark = first_then x n m m2 rest h v.1 })

  some_completable : (x : Kind) → Completable free extra (some_before x p) (IsBefore x R) (kind.Integer ∷ x ∷ [])
  unfolding some_before
  some_completable x = into_completable free extra (some_before x p) _ (IsBefore x R) (kind.Integer ∷ x ∷ []) (into_some x) (bind_completable free extra p _ R (λ e. Both (Leaf x) (λ _. IsNothing (Some e))) Int (x ∷ []) f (λ e. bind_completable free extra (expect x) _ (Leaf x) (λ _. IsNothing (Some e)) (x ∷ []) [] (expect_completable free extra x) (λ _. pure_completable free extra (Some e))))

  none_completable : (x : Kind) → Completable free extra (word x None) (IsBefore x R) (x ∷ [])
  none_completable x = word_completable free extra x None (IsBefore x R) (λ k rest h. record { mid = k; value = refl; mark = h })

  semicolon_by_viable : (o : Option Kind) → Viable free extra (semicolon_by p o) (IsBefore kind.Semicolon R) (Exists (IsBefore kind.Semicolon R))
  semicolon_by_viable (Some kind.Semicolon) = (none_completable kind.Semicolon).viable
  semicolon_by_viable _ = (some_completable kind.Semicolon).viable

  pub semicolon_completable : Completable free extra (before_semicolon p) (IsBefore kind.Semicolon R) Semi
  unfolding before_semicolon
  semicolon_completable = record { viable = choice_viable free extra (semicolon_by p) (IsBefore kind.Semicolon R) (Exists (IsBefore kind.Semicolon R)) semicolon_by_viable; makes = (none_completable kind.Semicolon).makes }

  paren_by_viable : (o : Option Kind) → Viable free extra (paren_by p o) (IsBefore kind.CloseParen R) (Exists (IsBefore kind.CloseParen R))
  paren_by_viable (Some kind.CloseParen) = (none_completable kind.CloseParen).viable
  paren_by_viable _ = (some_completable kind.CloseParen).viable

  pub paren_completable : Completable free extra (before_paren p) (IsBefore kind.CloseParen R) (kind.CloseParen ∷ [])
  unfolding before_paren
  paren_completable = record { viable = choice_viable free extra (paren_by p) (IsBefore kind.CloseParen R) (Exists (IsBefore kind.CloseParen R)) paren_by_viable; makes = (none_completable kind.CloseParen).makes }

-- ---- what is in the brackets of a statement

abbrev a_head : Option Expr → Option Expr → Option Expr → ForHead
a_head a b c = record { first = a; condition = b; step = c }

module _ (free extra depth : ℕ) where
  abbrev R : Expr → List NumberedKind → List NumberedKind → Type 0
  R = IsExpr free extra depth

  into_condition : (y : Expr) (k rest : List NumberedKind) → Both (Leaf kind.OpenParen) (λ _. Both R (λ e. Both (Leaf kind.CloseParen) (λ _. IsNothing e))) y k rest → IsCondition R y k rest
  into_condition y k rest (both n m e (both x m2 r (both i m3 f h))) = subst (λ z. IsCondition R z k rest) h.0 (record { m1 = m; m2 = m2; opening = (n, e); value = r; closing = first_then kind.CloseParen i m2 m3 rest f h.1 })

  pub condition_completable : Completable free extra (condition depth) (IsCondition R) (kind.OpenParen ∷ kind.Integer ∷ kind.CloseParen ∷ [])
  unfolding condition
  condition_completable = into_completable free extra (condition depth) _ (IsCondition R) (kind.OpenParen ∷ kind.Integer ∷ kind.CloseParen ∷ []) into_condition
      (bind_completable free extra (expect kind.OpenParen) _ (Leaf kind.OpenParen) (λ _. Both R (λ e. Both (Leaf kind.CloseParen) (λ _. IsNothing e))) (kind.OpenParen ∷ []) (kind.Integer ∷ kind.CloseParen ∷ []) (expect_completable free extra kind.OpenParen) (λ _.
      bind_completable free extra (expr depth) _ R (λ e. Both (Leaf kind.CloseParen) (λ _. IsNothing e)) Int (kind.CloseParen ∷ []) (expr_completable free extra depth) (λ e.
      bind_completable free extra (expect kind.CloseParen) _ (Leaf kind.CloseParen) (λ _. IsNothing e) (kind.CloseParen ∷ []) [] (expect_completable free extra kind.CloseParen) (λ _. pure_completable free extra e))))

  into_parts : (y : ForHead) (k rest : List NumberedKind) → Both (IsBefore kind.Semicolon R) (λ a. Both (IsBefore kind.Semicolon R) (λ b. Both (IsBefore kind.CloseParen R) (λ c. IsNothing (a_head a b c)))) y k rest → AreForParts R y k rest
  into_parts y k rest (both a m ra (both b m2 rb (both c m3 rc h))) =
      subst (λ z. AreForParts R z k rest) h.0 (record { m1 = m; m2 = m2; first = ra; condition = rb; step = subst (λ l. IsBefore kind.CloseParen R c m2 l) h.1 rc })

  parts_completable : Completable free extra (for_parts depth) (AreForParts R) (kind.Semicolon ∷ kind.Semicolon ∷ kind.CloseParen ∷ [])
  unfolding for_parts
  parts_completable = into_completable free extra (for_parts depth) _ (AreForParts R) (kind.Semicolon ∷ kind.Semicolon ∷ kind.CloseParen ∷ []) into_parts
      (bind_completable free extra (before_semicolon (expr depth)) _ (IsBefore kind.Semicolon R) (λ a. Both (IsBefore kind.Semicolon R) (λ b. Both (IsBefore kind.CloseParen R) (λ c. IsNothing (a_head a b c)))) Semi (kind.Semicolon ∷ kind.CloseParen ∷ []) (semicolon_completable free extra R (expr depth) (expr_completable free extra depth)) (λ a.
      bind_completable free extra (before_semicolon (expr depth)) _ (IsBefore kind.Semicolon R) (λ b. Both (IsBefore kind.CloseParen R) (λ c. IsNothing (a_head a b c))) Semi (kind.CloseParen ∷ []) (semicolon_completable free extra R (expr depth) (expr_completable free extra depth)) (λ b.
      bind_completable free extra (before_paren (expr depth)) _ (IsBefore kind.CloseParen R) (λ c. IsNothing (a_head a b c)) (kind.CloseParen ∷ []) [] (paren_completable free extra R (expr depth) (expr_completable free extra depth)) (λ c. pure_completable free extra (a_head a b c)))))

  abbrev Parts : ForHead → List NumberedKind → List NumberedKind → Type 0
  Parts = Within free extra depth (AreForParts R)

  into_head : (y : ForHead) (k rest : List NumberedKind) → Both (Leaf kind.OpenParen) (λ _. Parts) y k rest → IsForHead Parts y k rest
  into_head y k rest (both n m e r) = record { mid = m; opening = (n, e); parts = r }

  pub head_completable : Completable free extra (for_head depth) (IsForHeadWithin free extra depth) (kind.OpenParen ∷ kind.Semicolon ∷ kind.Semicolon ∷ kind.CloseParen ∷ [])
  unfolding for_head
  head_completable = into_completable free extra (for_head depth) _ (IsForHead Parts) (kind.OpenParen ∷ kind.Semicolon ∷ kind.Semicolon ∷ kind.CloseParen ∷ []) into_head
      (bind_completable free extra (expect kind.OpenParen) _ (Leaf kind.OpenParen) (λ _. Parts) (kind.OpenParen ∷ []) (kind.Semicolon ∷ kind.Semicolon ∷ kind.CloseParen ∷ []) (expect_completable free extra kind.OpenParen) (λ _.
      level_completable free extra depth (for_parts depth) (AreForParts R) (kind.Semicolon ∷ kind.Semicolon ∷ kind.CloseParen ∷ []) parts_completable))
