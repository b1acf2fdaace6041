-- Statements that hold no others, and blocks, can be completed where a reader fails, and what it
-- took is in the grammar.
use Rattle.std.proofs.Common.{ℕ, suc, Bool, true, false, List, [], ◌∷◌, ◌++◌, Option, Some, None, refl, ap, subst, ◌∙◌}
use Rattle.snl_lex.specs.declared.kind.Kind.{Kind}
use Rattle.snl_lex.specs.declared.kind.Kind.TheVariants as kind
use Rattle.snl_grammar.specs.declared.tree.expression.Expr.{Expr}
use Rattle.snl_grammar.specs.declared.tree.declaration.Declaration.{Declaration}
use Rattle.snl_grammar.specs.declared.tree.statement.Member.{Member}
use Rattle.snl_grammar.specs.declared.tree.statement.Member.TheVariants as members
use Rattle.snl_grammar.specs.declared.tree.statement.Stmt.{Stmt}
use Rattle.snl_grammar.specs.declared.tree.statement.Stmt.TheVariants as tree
use Rattle.snl_grammar.specs.Tokens.{NumberedKind}
use Rattle.snl_grammar.specs.Steps.{Reader, pure, expect, word, many}
use Rattle.snl_grammar.specs.Grammar.Base.{Each, Leaf}
use Rattle.snl_grammar.specs.Grammar.Expressions.{IsExpr}
use Rattle.snl_grammar.specs.Grammar.Declarations.{IsDeclaration}
use Rattle.snl_grammar.specs.Grammar.Statements.{Place, within_block, IsBefore, IsForHeadWithin, IsMember, declaration as is_declaration, statement as is_statement, IsBlock, IsStmt, empty as is_empty, evaluation as is_evaluation, c_code as is_code, break_loop as is_break, continue_loop as is_continue, return_value as is_return, change as is_change}
use Rattle.snl_grammar.specs.Reading.Types.{begins_type}
use Rattle.snl_grammar.specs.Reading.Expressions.{expr}
use Rattle.snl_grammar.specs.Reading.Declarations.{declaration}
use Rattle.snl_grammar.specs.Reading.Statements.{before_semicolon, c_code, jump, change, return_value, evaluation, declared, stated, some_by, some_member, member_by, next_member, block_of, block_statement}
use Rattle.snl_grammar.proofs.Viable.{Viable, Completable, Exists, Both, both, Next, Lists, IsNothing, bind_completable, into_completable, choice_viable, expect_completable, pure_completable, many_completable}
use Rattle.snl_grammar.proofs.TypeLaws.{word_completable, lists_each, none_next, first_then}
use Rattle.snl_grammar.proofs.CommasViable.{Int}
use Rattle.snl_grammar.proofs.ExpressionViable.{expr_completable}
use Rattle.snl_grammar.proofs.BeforeViable.{Semi, semicolon_completable}

-- ---- the statements that hold no others

module _ (free extra depth : ℕ) (Inner : Place → Bool → Stmt → List NumberedKind → List NumberedKind → Type 0) where
  abbrev E : Expr → List NumberedKind → List NumberedKind → Type 0
  E = IsExpr free extra depth

  abbrev Declares : Declaration → List NumberedKind → List NumberedKind → Type 0
  Declares = IsDeclaration free extra depth

  abbrev pub S : Place → Bool → Stmt → List NumberedKind → List NumberedKind → Type 0
  S = IsStmt E (IsExpr free extra (suc depth)) (IsForHeadWithin free extra depth) Declares Inner

  module _ (place : Place) (closed : Bool) where
    pub empty_completable : Completable free extra (word kind.Semicolon tree.Empty) (S place closed) Semi
    empty_completable = word_completable free extra kind.Semicolon tree.Empty (S place closed) (λ k rest f. is_empty refl f)

    into_code : (y : Stmt) (k rest : List NumberedKind) → Both (Leaf kind.CCode) (λ n. IsNothing (tree.CCode n)) y k rest → S place closed y k rest
    into_code y k rest (both n m e h) = subst (λ z. S place closed z k rest) h.0 (is_code n refl (e ∙ ap (λ (l : List NumberedKind). (kind.CCode, n) ∷ l) h.1))

    pub code_completable : Completable free extra c_code (S place closed) (kind.CCode ∷ [])
    unfolding c_code
    code_completable = into_completable free extra c_code _ (S place closed) (kind.CCode ∷ []) into_code (bind_completable free extra (expect kind.CCode) _ (Leaf kind.CCode) (λ n. IsNothing (tree.CCode n)) (kind.CCode ∷ []) [] (expect_completable free extra kind.CCode) (λ n. pure_completable free extra (tree.CCode n)))

    abbrev Jump : Kind → (ℕ → Stmt) → Stmt → List NumberedKind → List NumberedKind → Type 0
    Jump x make = Both (Leaf x) (λ n. Both (Leaf kind.Semicolon) (λ _. IsNothing (make n)))

    pub into_break : (y : Stmt) (k rest : List NumberedKind) → Jump kind.Break tree.Break y k rest → S place closed y k rest
    into_break y k rest (both n m e (both i m2 f h)) = subst (λ z. S place closed z k rest) h.0 (is_break n m refl e (first_then kind.Semicolon i m m2 rest f h.1))

    pub into_continue : (y : Stmt) (k rest : List NumberedKind) → Jump kind.Continue tree.Continue y k rest → S place closed y k rest
    into_continue y k rest (both n m e (both i m2 f h)) = subst (λ z. S place closed z k rest) h.0 (is_continue n m refl e (first_then kind.Semicolon i m m2 rest f h.1))

    pub jump_completable : (x : Kind) (make : ℕ → Stmt) → ((y : Stmt) (k rest : List NumberedKind) → Jump x make y k rest → S place closed y k rest) → Completable free extra (jump x make) (S place closed) (x ∷ kind.Semicolon ∷ [])
    unfolding jump
    jump_completable x make into = into_completable free extra (jump x make) _ (S place closed) (x ∷ kind.Semicolon ∷ []) into
        (bind_completable free extra (expect x) _ (Leaf x) (λ n. Both (Leaf kind.Semicolon) (λ _. IsNothing (make n))) (x ∷ []) Semi (expect_completable free extra x) (λ n.
        bind_completable free extra (expect kind.Semicolon) _ (Leaf kind.Semicolon) (λ _. IsNothing (make n)) Semi [] (expect_completable free extra kind.Semicolon) (λ _. pure_completable free extra (make n))))

    into_change : (y : Stmt) (k rest : List NumberedKind) → Both (Leaf kind.State) (λ w. Both (Leaf kind.Name) (λ n. Both (Leaf kind.Semicolon) (λ _. IsNothing (tree.State w n)))) y k rest → S place closed y k rest
    into_change y k rest (both w m e (both n m2 f (both i m3 g h))) = subst (λ z. S place closed z k rest) h.0 (is_change w n m m2 refl e f (first_then kind.Semicolon i m2 m3 rest g h.1))

    pub change_completable : Completable free extra change (S place closed) (kind.State ∷ kind.Name ∷ kind.Semicolon ∷ [])
    unfolding change
    change_completable = into_completable free extra change _ (S place closed) (kind.State ∷ kind.Name ∷ kind.Semicolon ∷ []) into_change
        (bind_completable free extra (expect kind.State) _ (Leaf kind.State) (λ w. Both (Leaf kind.Name) (λ n. Both (Leaf kind.Semicolon) (λ _. IsNothing (tree.State w n)))) (kind.State ∷ []) (kind.Name ∷ kind.Semicolon ∷ []) (expect_completable free extra kind.State) (λ w.
        bind_completable free extra (expect kind.Name) _ (Leaf kind.Name) (λ n. Both (Leaf kind.Semicolon) (λ _. IsNothing (tree.State w n))) (kind.Name ∷ []) Semi (expect_completable free extra kind.Name) (λ n.
        bind_completable free extra (expect kind.Semicolon) _ (Leaf kind.Semicolon) (λ _. IsNothing (tree.State w n)) Semi [] (expect_completable free extra kind.Semicolon) (λ _. pure_completable free extra (tree.State w n)))))

    into_return : (y : Stmt) (k rest : List NumberedKind) → Both (Leaf kind.Return) (λ _. Both (IsBefore kind.Semicolon (IsExpr free extra (suc depth))) (λ e. IsNothing (tree.Return e))) y k rest → S place closed y k rest
    into_return y k rest (both i m f (both e m2 r h)) = subst (λ z. S place closed z k rest) h.0 (is_return e m refl (i, f) (subst (λ l. IsBefore kind.Semicolon (IsExpr free extra (suc depth)) e m l) h.1 r))

    pub return_completable : Completable free extra (return_value (suc depth)) (S place closed) (kind.Return ∷ kind.Semicolon ∷ [])
    unfolding return_value
    return_completable = into_completable free extra (return_value (suc depth)) _ (S place closed) (kind.Return ∷ kind.Semicolon ∷ []) into_return
        (bind_completable free extra (expect kind.Return) _ (Leaf kind.Return) (λ _. Both (IsBefore kind.Semicolon (IsExpr free extra (suc depth))) (λ e. IsNothing (tree.Return e))) (kind.Return ∷ []) Semi (expect_completable free extra kind.Return) (λ _.
        bind_completable free extra (before_semicolon (expr (suc depth))) _ (IsBefore kind.Semicolon (IsExpr free extra (suc depth))) (λ e. IsNothing (tree.Return e)) Semi [] (semicolon_completable free extra (IsExpr free extra (suc depth)) (expr (suc depth)) (expr_completable free extra (suc depth))) (λ e. pure_completable free extra (tree.Return e))))

    into_evaluation : (y : Stmt) (k rest : List NumberedKind) → Both (IsExpr free extra (suc depth)) (λ e. Both (Leaf kind.Semicolon) (λ _. IsNothing (tree.Expr e))) y k rest → S place closed y k rest
    into_evaluation y k rest (both e m r (both i m2 f h)) = subst (λ z. S place closed z k rest) h.0 (is_evaluation e m refl r (first_then kind.Semicolon i m m2 rest f h.1))

    pub evaluation_completable : Completable free extra (evaluation (suc depth)) (S place closed) (kind.Integer ∷ kind.Semicolon ∷ [])
    unfolding evaluation
    evaluation_completable = into_completable free extra (evaluation (suc depth)) _ (S place closed) (kind.Integer ∷ kind.Semicolon ∷ []) into_evaluation
        (bind_completable free extra (expr (suc depth)) _ (IsExpr free extra (suc depth)) (λ e. Both (Leaf kind.Semicolon) (λ _. IsNothing (tree.Expr e))) Int Semi (expr_completable free extra (suc depth)) (λ e.
        bind_completable free extra (expect kind.Semicolon) _ (Leaf kind.Semicolon) (λ _. IsNothing (tree.Expr e)) Semi [] (expect_completable free extra kind.Semicolon) (λ _. pure_completable free extra (tree.Expr e))))

  -- ---- blocks; of declarations and inner statements it is given what can be completed

  module _ (D : List Kind) (declares : Completable free extra (declaration depth) Declares D) (inner : Reader Stmt) (completable_inner : Completable free extra inner (Inner within_block false) Semi) where
    abbrev M : Member → List NumberedKind → List NumberedKind → Type 0
    M = IsMember Declares Inner

    into_declared : (y : Option Member) (k rest : List NumberedKind) → Both Declares (λ d. IsNothing (Some (members.Declaration d))) y k rest → Next M y k rest
    into_declared y k rest (both d m r h) = subst (λ z. Next M z k rest) h.0 (is_declaration d refl (subst (λ l. Declares d k l) h.1 r))

    into_stated : (y : Option Member) (k rest : List NumberedKind) → Both (Inner within_block false) (λ s. IsNothing (Some (members.Statement s))) y k rest → Next M y k rest
    into_stated y k rest (both s m r h) = subst (λ z. Next M z k rest) h.0 (is_statement s refl (subst (λ l. Inner within_block false s k l) h.1 r))

    some_by_viable : (b : Bool) → Viable free extra (some_by depth inner b) (Next M) (Exists (Next M))
    unfolding declared stated
    some_by_viable true = (into_completable free extra (declared depth inner) _ (Next M) (D ++ []) into_declared (bind_completable free extra (declaration depth) _ Declares (λ d. IsNothing (Some (members.Declaration d))) D [] declares (λ d. pure_completable free extra (Some (members.Declaration d))))).viable
    some_by_viable false = (into_completable free extra (stated depth inner) _ (Next M) Semi into_stated (bind_completable free extra inner _ (Inner within_block false) (λ s. IsNothing (Some (members.Statement s))) Semi [] completable_inner (λ s. pure_completable free extra (Some (members.Statement s))))).viable

    some_viable : Viable free extra (some_member depth inner) (Next M) (Exists (Next M))
    unfolding some_member
    some_viable = choice_viable free extra (λ o. some_by depth inner (begins_type o)) (Next M) (Exists (Next M)) (λ o. some_by_viable (begins_type o))

    member_by_viable : (o : Option Kind) → Viable free extra (member_by depth inner o) (Next M) (Exists (Next M))
    member_by_viable (Some kind.CloseBrace) = (into_completable free extra (pure None) (IsNothing None) (Next M) [] (none_next M) (pure_completable free extra None)).viable
    member_by_viable _ = some_viable

    member_viable : Viable free extra (next_member depth inner) (Next M) (Exists (Next M))
    unfolding next_member
    member_viable = choice_viable free extra (member_by depth inner) (Next M) (Exists (Next M)) member_by_viable

    members_completable : Completable free extra (many (next_member depth inner) []) (Each M) []
    members_completable = into_completable free extra (many (next_member depth inner) []) (Lists M []) (Each M) [] (lists_each M) (many_completable free extra M (next_member depth inner) member_viable [])

    abbrev Block : List Member → List NumberedKind → List NumberedKind → Type 0
    Block = IsBlock Declares Inner

    into_block : (y : List Member) (k rest : List NumberedKind) → Both (Leaf kind.OpenBrace) (λ _. Both (Each M) (λ ts. Both (Leaf kind.CloseBrace) (λ _. IsNothing ts))) y k rest → Block y k rest
    into_block y k rest (both n m e (both ts m2 r (both i m3 f h))) = subst (λ z. Block z k rest) h.0 (record { m1 = m; m2 = m2; opening = (n, e); members = r; closing = first_then kind.CloseBrace i m2 m3 rest f h.1 })

    pub block_of_completable : Completable free extra (block_of depth inner) Block (kind.OpenBrace ∷ kind.CloseBrace ∷ [])
    unfolding block_of
    block_of_completable = into_completable free extra (block_of depth inner) _ Block (kind.OpenBrace ∷ kind.CloseBrace ∷ []) into_block
        (bind_completable free extra (expect kind.OpenBrace) _ (Leaf kind.OpenBrace) (λ _. Both (Each M) (λ ts. Both (Leaf kind.CloseBrace) (λ _. IsNothing ts))) (kind.OpenBrace ∷ []) (kind.CloseBrace ∷ []) (expect_completable free extra kind.OpenBrace) (λ _.
        bind_completable free extra (many (next_member depth inner) []) _ (Each M) (λ ts. Both (Leaf kind.CloseBrace) (λ _. IsNothing ts)) [] (kind.CloseBrace ∷ []) members_completable (λ ts.
        bind_completable free extra (expect kind.CloseBrace) _ (Leaf kind.CloseBrace) (λ _. IsNothing ts) (kind.CloseBrace ∷ []) [] (expect_completable free extra kind.CloseBrace) (λ _. pure_completable free extra ts))))

    module _ (T : Stmt → List NumberedKind → List NumberedKind → Type 0) (make : (ts : List Member) (k rest : List NumberedKind) → Block ts k rest → T (tree.Block ts) k rest) where
      into_statement : (y : Stmt) (k rest : List NumberedKind) → Both Block (λ ts. IsNothing (tree.Block ts)) y k rest → T y k rest
      into_statement y k rest (both ts m b h) = subst (λ z. T z k rest) h.0 (make ts k rest (subst (λ l. Block ts k l) h.1 b))

      pub block_statement_completable : Completable free extra (block_statement depth inner) T (kind.OpenBrace ∷ kind.CloseBrace ∷ [])
      unfolding block_statement
      block_statement_completable = into_completable free extra (block_statement depth inner) _ T (kind.OpenBrace ∷ kind.CloseBrace ∷ []) into_statement (bind_completable free extra (block_of depth inner) _ Block (λ ts. IsNothing (tree.Block ts)) (kind.OpenBrace ∷ kind.CloseBrace ∷ []) [] block_of_completable (λ ts. pure_completable free extra (tree.Block ts)))
