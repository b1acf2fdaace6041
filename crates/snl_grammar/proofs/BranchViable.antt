-- Arms of a choice, and what comes after `else`, can be completed where a reader fails.
use Rattle.std.proofs.Common.{◌≡◌, ℕ, Bool, true, false, List, [], ◌∷◌, ◌++◌, Option, Some, None, refl, ap, subst}
use Rattle.snl_lex.specs.declared.kind.Kind.{Kind}
use Rattle.snl_lex.specs.declared.kind.Kind.TheVariants as kind
use Rattle.snl_grammar.specs.declared.step.Step.{Step}
use Rattle.snl_grammar.specs.declared.step.Step.TheVariants as steps
use Rattle.snl_grammar.specs.declared.tree.expression.Expr.{Expr}
use Rattle.snl_grammar.specs.declared.tree.statement.Stmt.{Stmt}
use Rattle.snl_grammar.specs.Tokens.{NumberedKind}
use Rattle.snl_grammar.specs.Steps.{Outcome, Reader, and_then, pure, kind_at, expect}
use Rattle.snl_grammar.specs.Grammar.Base.{Leaf}
use Rattle.snl_grammar.specs.Grammar.Expressions.{IsExpr}
use Rattle.snl_grammar.specs.Grammar.Declarations.{IsDeclaration}
use Rattle.snl_grammar.specs.Grammar.Statements.{Place, as_body, after_else as at_else, IsCondition, IsBody, IsArm}
use Rattle.snl_grammar.specs.Reading.Declarations.{declaration}
use Rattle.snl_grammar.specs.Reading.Statements.{condition, body, last_body, branch_by, after_else, arm}
use Rattle.snl_grammar.proofs.Viable.{pure_never, Viable, Completable, Exists, Both, both, Joint, IsNothing, bind_viable, bind_completable, into_completable, lighter, choice_viable, expect_completable, pure_completable}
use Rattle.snl_grammar.proofs.BeforeViable.{Semi, condition_completable}
use Rattle.snl_grammar.proofs.Shuts.{Shut, viable_shut, into_shut, choice_shut, same_shut, same_viable, bind_shut, map_shut}
use Rattle.snl_grammar.proofs.LoopViable.{allowed, fits, Round, placed, body_is, placed_completable, placed_shut, body_completable, body_shut}

abbrev an_arm : Expr → Stmt → Expr × Stmt
an_arm e s = (e, s)

abbrev pub Stepping : Type 0
Stepping = Step (Expr × Stmt) (Option Stmt)

abbrev go_on : Expr × Stmt → Stepping
go_on a = steps.More a

abbrev ends_with : Expr × Stmt → Stmt → Stepping
ends_with a s = steps.Last (Some a) (Some s)

abbrev pub ends_alone : Expr × Stmt → Stepping
ends_alone a = steps.Last (Some a) None

module _ (free extra depth : ℕ) (Inner : Place → Bool → Stmt → List NumberedKind → List NumberedKind → Type 0) where
  abbrev B : Place → Bool → Stmt → List NumberedKind → List NumberedKind → Type 0
  B = IsBody (IsDeclaration free extra depth) Inner

  -- what comes after `else`
  abbrev Branch : Bool → Expr × Stmt → Stepping → List NumberedKind → List NumberedKind → Type 0
  Branch closed a (steps.More b) k rest = (a ≡ b) × (k ≡ rest)
  Branch closed a (steps.Last o None) k rest = ⊥
  Branch closed a (steps.Last o (Some s)) k rest = (Some a ≡ o) × B at_else closed s k rest

  into_last : (closed : Bool) (a : Expr × Stmt) (y : Stepping) (k rest : List NumberedKind) → Both (B at_else closed) (λ s. IsNothing (ends_with a s)) y k rest → Branch closed a y k rest
  into_last closed a y k rest (both s m b h) = subst (λ z. Branch closed a z k rest) h.0 (refl, subst (λ l. B at_else closed s k l) h.1 b)

  last_aim : (a : Expr × Stmt) (y : Stepping) (k rest : List NumberedKind) → Both (B at_else false) (λ s. IsNothing (ends_with a s)) y k rest → Exists (B at_else false) k rest
  last_aim a y k rest (both s m b h) = (s, subst (λ l. B at_else false s k l) h.1 b)

  into_more : (closed : Bool) (a : Expr × Stmt) (y : Stepping) (k rest : List NumberedKind) → IsNothing (go_on a) y k rest → Branch closed a y k rest
  into_more closed a y k rest h = subst (λ z. Branch closed a z k rest) h.0 (refl, h.1)

  more_viable : (closed : Bool) (a : Expr × Stmt) → Viable free extra (pure (go_on a)) (Branch closed a) (Exists (B at_else false))
  more_viable closed a = lighter free extra (pure (go_on a)) (IsNothing (go_on a)) (Branch closed a) (Exists (B at_else false)) (Exists (B at_else false)) (into_more closed a) (λ k rest h. h) (pure_never free extra (go_on a) (Exists (B at_else false)))

  abbrev pub After : Bool → Expr × Stmt → Stepping → List NumberedKind → List NumberedKind → Type 0
  After closed a = Both (Leaf kind.Else) (λ _. Branch closed a)

  abbrev pub Aim : List NumberedKind → List NumberedKind → Type 0
  Aim = Joint (Leaf kind.Else) (λ _. Exists (B at_else false))

  module _ (D : List Kind) (declares : Completable free extra (declaration depth) (IsDeclaration free extra depth) D) (inner : Reader Stmt) (at : Place → Reader Stmt) (same : (p : Place) (k : List NumberedKind) → allowed p (kind_at k) ≡ true → inner k ≡ at p k) (full : (p : Place) → Completable free extra (at p) (Inner p false) Semi) (shut : (p : Place) → Shut (at p) (Inner p true)) where
    abbrev C : Expr → List NumberedKind → List NumberedKind → Type 0
    C = IsCondition (IsExpr free extra depth)

    -- ---- arms

    abbrev A : Bool → Expr × Stmt → List NumberedKind → List NumberedKind → Type 0
    A = IsArm (IsExpr free extra depth) (IsDeclaration free extra depth) Inner

    abbrev Arm : Bool → Expr × Stmt → List NumberedKind → List NumberedKind → Type 0
    Arm closed = Both (Leaf kind.If) (λ _. Both C (λ e. Both (B as_body closed) (λ s. IsNothing (an_arm e s))))

    into_arm : (closed : Bool) (y : Expr × Stmt) (k rest : List NumberedKind) → Arm closed y k rest → A closed y k rest
    into_arm closed y k rest (both n m f (both e m2 r (both s m3 b h))) = subst (λ z. A closed z k rest) h.0 (record { m1 = m; m2 = m2; word = (n, f); condition = r; body = subst (λ l. B as_body closed s m2 l) h.1 b })

    pub arm_completable : Completable free extra (arm depth inner) (A false) (kind.If ∷ (Round ++ Semi))
    unfolding arm
    arm_completable = into_completable free extra (arm depth inner) (Arm false) (A false) (kind.If ∷ (Round ++ Semi)) (into_arm false)
        (bind_completable free extra (expect kind.If) _ (Leaf kind.If) (λ _. Both C (λ e. Both (B as_body false) (λ s. IsNothing (an_arm e s)))) (kind.If ∷ []) (Round ++ Semi) (expect_completable free extra kind.If) (λ _.
        bind_completable free extra (condition depth) _ C (λ e. Both (B as_body false) (λ s. IsNothing (an_arm e s))) Round Semi (condition_completable free extra depth) (λ e.
        bind_completable free extra (body depth inner) _ (B as_body false) (λ s. IsNothing (an_arm e s)) Semi [] (body_completable free extra depth Inner D declares inner at same full shut) (λ s. pure_completable free extra (an_arm e s)))))

    pub arm_shut : Shut (arm depth inner) (A true)
    unfolding arm
    arm_shut = into_shut (arm depth inner) (Arm true) (A true) (into_arm true)
        (bind_shut free extra (expect kind.If) _ (Leaf kind.If) (λ _. Both C (λ e. Both (B as_body true) (λ s. IsNothing (an_arm e s)))) (Exists (Leaf kind.If)) (expect_completable free extra kind.If).viable (λ _.
        bind_shut free extra (condition depth) _ C (λ e. Both (B as_body true) (λ s. IsNothing (an_arm e s))) (Exists C) (condition_completable free extra depth).viable (λ e.
        map_shut (body depth inner) (λ s. an_arm e s) (B as_body true) (body_shut free extra depth Inner D declares inner at same full shut))))

    -- ---- after `else`

    abbrev last_at : Expr × Stmt → Reader Stepping
    last_at a = λ k. and_then (placed depth inner at at_else k) (λ s. pure (ends_with a s))

    last_viable : (a : Expr × Stmt) → Viable free extra (last_at a) (Branch false a) (Exists (B at_else false))
    last_viable a = lighter free extra (last_at a) (Both (B at_else false) (λ s. IsNothing (ends_with a s))) (Branch false a) (Exists (Both (B at_else false) (λ s. IsNothing (ends_with a s)))) (Exists (B at_else false)) (into_last false a) (λ k rest h. last_aim a h.0 k rest h.1) (bind_completable free extra (placed depth inner at at_else) _ (B at_else false) (λ s. IsNothing (ends_with a s)) Semi [] (placed_completable free extra depth Inner D declares inner at same full shut at_else) (λ s. pure_completable free extra (ends_with a s))).viable

    last_shut : (a : Expr × Stmt) → Shut (last_at a) (Branch true a)
    last_shut a = into_shut (last_at a) (Both (B at_else true) (λ s. IsNothing (ends_with a s))) (Branch true a) (into_last true a) (map_shut (placed depth inner at at_else) (λ s. ends_with a s) (B at_else true) (placed_shut free extra depth Inner D declares inner at same full shut at_else))

    abbrev branched : Expr × Stmt → Option Kind → Reader Stepping
    branched a (Some kind.If) = pure (go_on a)
    branched a _ = last_at a

    body_after : (k : List NumberedKind) → fits at_else (kind_at k) ≡ true → body depth inner k ≡ placed depth inner at at_else k
    unfolding body
    body_after k h = body_is depth inner at same at_else (kind_at k) k refl h

    last_is : (a : Expr × Stmt) (k : List NumberedKind) → fits at_else (kind_at k) ≡ true → last_body depth inner a k ≡ last_at a k
    unfolding last_body
    last_is a k h = ap (λ (r : Outcome Stmt). and_then r (λ s. pure (ends_with a s))) (body_after k h)

    branch_is : (a : Expr × Stmt) (o : Option Kind) (k : List NumberedKind) → kind_at k ≡ o → branch_by depth inner a o k ≡ branched a o k
    branch_is a (Some kind.If) k e = refl
    branch_is a _ k e = last_is a k (ap (fits at_else) e)

    branched_viable : (a : Expr × Stmt) (o : Option Kind) → Viable free extra (branched a o) (Branch false a) (Exists (B at_else false))
    branched_viable a (Some kind.If) = more_viable false a
    branched_viable a _ = last_viable a

    branched_shut : (a : Expr × Stmt) (o : Option Kind) → Shut (branched a o) (Branch true a)
    branched_shut a (Some kind.If) = viable_shut free extra (pure (go_on a)) (Branch true a) (Exists (B at_else false)) (more_viable true a)
    branched_shut a _ = last_shut a

    branch_viable : (a : Expr × Stmt) → Viable free extra (λ k. branch_by depth inner a (kind_at k) k) (Branch false a) (Exists (B at_else false))
    branch_viable a = same_viable free extra (λ k. branch_by depth inner a (kind_at k) k) (λ k. branched a (kind_at k) k) (Branch false a) (Exists (B at_else false)) (λ k. branch_is a (kind_at k) k refl) (choice_viable free extra (branched a) (Branch false a) (Exists (B at_else false)) (branched_viable a))

    branch_shut : (a : Expr × Stmt) → Shut (λ k. branch_by depth inner a (kind_at k) k) (Branch true a)
    branch_shut a = same_shut (λ k. branch_by depth inner a (kind_at k) k) (λ k. branched a (kind_at k) k) (Branch true a) (λ k. branch_is a (kind_at k) k refl) (choice_shut (branched a) (Branch true a) (branched_shut a))

    pub after_viable : (a : Expr × Stmt) → Viable free extra (after_else depth inner a) (After false a) Aim
    unfolding after_else
    after_viable a = bind_viable free extra (expect kind.Else) _ (Leaf kind.Else) (λ _. Branch false a) (λ _. Exists (B at_else false)) Semi (expect_completable free extra kind.Else).viable (λ _. branch_viable a) (λ _. (placed_completable free extra depth Inner D declares inner at same full shut at_else).makes)

    pub after_shut : (a : Expr × Stmt) → Shut (after_else depth inner a) (After true a)
    unfolding after_else
    after_shut a = bind_shut free extra (expect kind.Else) _ (Leaf kind.Else) (λ _. Branch true a) (Exists (Leaf kind.Else)) (expect_completable free extra kind.Else).viable (λ _. branch_shut a)
