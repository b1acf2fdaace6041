-- Bodies and loops can be completed where a reader fails, and are closed where an `else` comes
-- next.
use Rattle.std.proofs.Common.{◌≡◌, ℕ, Bool, true, false, List, [], ◌∷◌, ◌++◌, Option, Some, refl, ap, subst, ◌∙◌}
use Rattle.snl_lex.specs.declared.kind.Kind.{Kind}
use Rattle.snl_lex.specs.declared.kind.Kind.TheVariants as kind
use Rattle.snl_grammar.specs.declared.tree.expression.Expr.{Expr}
use Rattle.snl_grammar.specs.declared.tree.statement.ForHead.{ForHead}
use Rattle.snl_grammar.specs.declared.tree.statement.Stmt.{Stmt}
use Rattle.snl_grammar.specs.declared.tree.statement.Stmt.TheVariants as tree
use Rattle.snl_grammar.specs.Tokens.{NumberedKind}
use Rattle.snl_grammar.specs.Steps.{Reader, kind_at, expect}
use Rattle.snl_grammar.specs.Grammar.Base.{Leaf}
use Rattle.snl_grammar.specs.Grammar.Expressions.{IsExpr}
use Rattle.snl_grammar.specs.Grammar.Declarations.{IsDeclaration}
use Rattle.snl_grammar.specs.Grammar.Statements.{Place, within_block, as_body, may_be_block, may_be_choice, IsCondition, IsForHeadWithin, IsBody, block as is_block_body, deeper, while_loop as is_while, for_loop as is_for}
use Rattle.snl_grammar.specs.Reading.Declarations.{declaration}
use Rattle.snl_grammar.specs.Reading.Statements.{condition, for_head, block_statement, body_by, body, while_loop, for_loop}
use Rattle.snl_grammar.proofs.Viable.{Viable, Completable, Exists, Both, both, IsNothing, bind_completable, into_completable, choice_viable, expect_completable, pure_completable}
use Rattle.snl_grammar.proofs.BeforeViable.{Semi, condition_completable, head_completable}
use Rattle.snl_grammar.proofs.Shuts.{Shut, viable_shut, into_shut, choice_shut, same_shut, same_completable, bind_shut, map_shut}
use Rattle.snl_grammar.proofs.SimpleViable.{S, block_statement_completable}

-- ---- what may be in a place; `at` reads the statements that may be there

abbrev pub allowed : Place → Option Kind → Bool
allowed p (Some kind.OpenBrace) = may_be_block p
allowed p (Some kind.If) = may_be_choice p
allowed p _ = true

abbrev pub fits : Place → Option Kind → Bool
fits p (Some kind.If) = may_be_choice p
fits p _ = true

fits_body : (o : Option Kind) → fits as_body o ≡ true
fits_body (Some kind.If) = refl
fits_body _ = refl

pub all_allowed : (o : Option Kind) → allowed within_block o ≡ true
all_allowed (Some kind.OpenBrace) = refl
all_allowed (Some kind.If) = refl
all_allowed _ = refl

abbrev pub Round : List Kind
Round = kind.OpenParen ∷ kind.Integer ∷ kind.CloseParen ∷ []

module _ (depth : ℕ) (inner : Reader Stmt) (at : Place → Reader Stmt) where
  abbrev bodied : Place → Option Kind → Reader Stmt
  bodied p (Some kind.OpenBrace) = block_statement depth inner
  bodied p _ = at p

  -- a body in a place
  abbrev pub placed : Place → Reader Stmt
  placed p = λ k. bodied p (kind_at k) k

module _ (depth : ℕ) (inner : Reader Stmt) (at : Place → Reader Stmt) (same : (p : Place) (k : List NumberedKind) → allowed p (kind_at k) ≡ true → inner k ≡ at p k) where
  pub body_is : (p : Place) (o : Option Kind) (k : List NumberedKind) → kind_at k ≡ o → fits p o ≡ true → body_by depth inner o k ≡ bodied depth inner at p o k
  body_is p (Some kind.OpenBrace) k e h = refl
  body_is p (Some kind.If) k e h = same p k (ap (allowed p) e ∙ h)
  body_is p _ k e h = same p k (ap (allowed p) e)

module _ (free extra depth : ℕ) (Inner : Place → Bool → Stmt → List NumberedKind → List NumberedKind → Type 0) (D : List Kind) (declares : Completable free extra (declaration depth) (IsDeclaration free extra depth) D) (inner : Reader Stmt) (at : Place → Reader Stmt) (same : (p : Place) (k : List NumberedKind) → allowed p (kind_at k) ≡ true → inner k ≡ at p k) (full : (p : Place) → Completable free extra (at p) (Inner p false) Semi) (shut : (p : Place) → Shut (at p) (Inner p true)) where
  pub completable_inner : Completable free extra inner (Inner within_block false) Semi
  completable_inner = same_completable free extra inner (at within_block) (Inner within_block false) Semi (λ k. same within_block k (all_allowed (kind_at k))) (full within_block)

  abbrev B : Place → Bool → Stmt → List NumberedKind → List NumberedKind → Type 0
  B = IsBody (IsDeclaration free extra depth) Inner

  block_body : (p : Place) (closed : Bool) → Completable free extra (block_statement depth inner) (B p closed) (kind.OpenBrace ∷ kind.CloseBrace ∷ [])
  block_body p closed = block_statement_completable free extra depth Inner D declares inner completable_inner (B p closed) (λ ts k rest b. is_block_body ts refl b)

  at_completable : (p : Place) → Completable free extra (at p) (B p false) Semi
  at_completable p = into_completable free extra (at p) (Inner p false) (B p false) Semi (λ x k rest r. deeper r) (full p)

  at_shut : (p : Place) → Shut (at p) (B p true)
  at_shut p = into_shut (at p) (Inner p true) (B p true) (λ x k rest r. deeper r) (shut p)

  bodied_viable : (p : Place) (o : Option Kind) → Viable free extra (bodied depth inner at p o) (B p false) (Exists (B p false))
  bodied_viable p (Some kind.OpenBrace) = (block_body p false).viable
  bodied_viable p _ = (at_completable p).viable

  bodied_shut : (p : Place) (o : Option Kind) → Shut (bodied depth inner at p o) (B p true)
  bodied_shut p (Some kind.OpenBrace) = viable_shut free extra (block_statement depth inner) (B p true) (Exists (B p true)) (block_body p true).viable
  bodied_shut p _ = at_shut p

  pub placed_completable : (p : Place) → Completable free extra (placed depth inner at p) (B p false) Semi
  placed_completable p = record { viable = choice_viable free extra (bodied depth inner at p) (B p false) (Exists (B p false)) (bodied_viable p); makes = (at_completable p).makes }

  pub placed_shut : (p : Place) → Shut (placed depth inner at p) (B p true)
  placed_shut p = choice_shut (bodied depth inner at p) (B p true) (bodied_shut p)

  body_placed : (k : List NumberedKind) → body depth inner k ≡ placed depth inner at as_body k
  unfolding body
  body_placed k = body_is depth inner at same as_body (kind_at k) k refl (fits_body (kind_at k))

  pub body_completable : Completable free extra (body depth inner) (B as_body false) Semi
  body_completable = same_completable free extra (body depth inner) (placed depth inner at as_body) (B as_body false) Semi body_placed (placed_completable as_body)

  pub body_shut : Shut (body depth inner) (B as_body true)
  body_shut = same_shut (body depth inner) (placed depth inner at as_body) (B as_body true) body_placed (placed_shut as_body)

  abbrev C : Expr → List NumberedKind → List NumberedKind → Type 0
  C = IsCondition (IsExpr free extra depth)

  -- ---- `while` and `for`

  module _ (place : Place) where
    abbrev T : Bool → Stmt → List NumberedKind → List NumberedKind → Type 0
    T = S free extra depth Inner place

    abbrev While : Bool → Stmt → List NumberedKind → List NumberedKind → Type 0
    While closed = Both (Leaf kind.While) (λ _. Both C (λ e. Both (B as_body closed) (λ s. IsNothing (tree.While e s))))

    into_while : (closed : Bool) (y : Stmt) (k rest : List NumberedKind) → While closed y k rest → T closed y k rest
    into_while closed y k rest (both n m f (both e m2 r (both s m3 b h))) = subst (λ z. T closed z k rest) h.0 (is_while e s m m2 refl (n, f) r (subst (λ l. B as_body closed s m2 l) h.1 b))

    pub while_completable : Completable free extra (while_loop depth inner) (T false) (kind.While ∷ (Round ++ Semi))
    unfolding while_loop
    while_completable = into_completable free extra (while_loop depth inner) _ (T false) (kind.While ∷ (Round ++ Semi)) (into_while false)
        (bind_completable free extra (expect kind.While) _ (Leaf kind.While) (λ _. Both C (λ e. Both (B as_body false) (λ s. IsNothing (tree.While e s)))) (kind.While ∷ []) (Round ++ Semi) (expect_completable free extra kind.While) (λ _.
        bind_completable free extra (condition depth) _ C (λ e. Both (B as_body false) (λ s. IsNothing (tree.While e s))) Round Semi (condition_completable free extra depth) (λ e.
        bind_completable free extra (body depth inner) _ (B as_body false) (λ s. IsNothing (tree.While e s)) Semi [] body_completable (λ s. pure_completable free extra (tree.While e s)))))

    pub while_shut : Shut (while_loop depth inner) (T true)
    unfolding while_loop
    while_shut = into_shut (while_loop depth inner) _ (T true) (into_while true)
        (bind_shut free extra (expect kind.While) _ (Leaf kind.While) (λ _. Both C (λ e. Both (B as_body true) (λ s. IsNothing (tree.While e s)))) (Exists (Leaf kind.While)) (expect_completable free extra kind.While).viable (λ _.
        bind_shut free extra (condition depth) _ C (λ e. Both (B as_body true) (λ s. IsNothing (tree.While e s))) (Exists C) (condition_completable free extra depth).viable (λ e.
        map_shut (body depth inner) (λ s. tree.While e s) (B as_body true) body_shut)))

    abbrev Head : ForHead → List NumberedKind → List NumberedKind → Type 0
    Head = IsForHeadWithin free extra depth

    abbrev Heads : List Kind
    Heads = kind.OpenParen ∷ kind.Semicolon ∷ kind.Semicolon ∷ kind.CloseParen ∷ []

    abbrev For : Bool → Stmt → List NumberedKind → List NumberedKind → Type 0
    For closed = Both (Leaf kind.For) (λ _. Both Head (λ h. Both (B as_body closed) (λ s. IsNothing (tree.For h s))))

    into_for : (closed : Bool) (y : Stmt) (k rest : List NumberedKind) → For closed y k rest → T closed y k rest
    into_for closed y k rest (both n m f (both x m2 r (both s m3 b h))) = subst (λ z. T closed z k rest) h.0 (is_for x s m m2 refl (n, f) r (subst (λ l. B as_body closed s m2 l) h.1 b))

    pub for_completable : Completable free extra (for_loop depth inner) (T false) (kind.For ∷ (Heads ++ Semi))
    unfolding for_loop
    for_completable = into_completable free extra (for_loop depth inner) _ (T false) (kind.For ∷ (Heads ++ Semi)) (into_for false)
        (bind_completable free extra (expect kind.For) _ (Leaf kind.For) (λ _. Both Head (λ h. Both (B as_body false) (λ s. IsNothing (tree.For h s)))) (kind.For ∷ []) (Heads ++ Semi) (expect_completable free extra kind.For) (λ _.
        bind_completable free extra (for_head depth) _ Head (λ h. Both (B as_body false) (λ s. IsNothing (tree.For h s))) Heads Semi (head_completable free extra depth) (λ h.
        bind_completable free extra (body depth inner) _ (B as_body false) (λ s. IsNothing (tree.For h s)) Semi [] body_completable (λ s. pure_completable free extra (tree.For h s)))))

    pub for_shut : Shut (for_loop depth inner) (T true)
    unfolding for_loop
    for_shut = into_shut (for_loop depth inner) _ (T true) (into_for true)
        (bind_shut free extra (expect kind.For) _ (Leaf kind.For) (λ _. Both Head (λ h. Both (B as_body true) (λ s. IsNothing (tree.For h s)))) (Exists (Leaf kind.For)) (expect_completable free extra kind.For).viable (λ _.
        bind_shut free extra (for_head depth) _ Head (λ h. Both (B as_body true) (λ s. IsNothing (tree.For h s))) (Exists Head) (head_completable free extra depth).viable (λ h.
        map_shut (body depth inner) (λ s. tree.For h s) (B as_body true) body_shut)))
