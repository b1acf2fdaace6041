-- Statements of the grammar are read again. Where one isn't closed, no `else` may follow it.
use Rattle.std.proofs.Common.{◌≡◌, ◌<◌, ℕ, zero, suc, Bool, true, false, List, [], ◌∷◌, ◌++◌, Option, Some, None, Ok, refl, sym, ap, subst, ◌∙◌, append_assoc, arith}
use Rattle.snl_lex.specs.declared.kind.Kind.{Kind}
use Rattle.snl_lex.specs.declared.kind.Kind.TheVariants as kind
use Rattle.snl_grammar.specs.declared.step.Step.{Step}
use Rattle.snl_grammar.specs.declared.step.Step.TheVariants as steps
use Rattle.snl_grammar.specs.declared.tree.expression.Expr.{Expr}
use Rattle.snl_grammar.specs.declared.tree.declaration.Declaration.{Declaration}
use Rattle.snl_grammar.specs.declared.tree.statement.ForHead.{ForHead}
use Rattle.snl_grammar.specs.declared.tree.statement.Member.{Member}
use Rattle.snl_grammar.specs.declared.tree.statement.Member.TheVariants as members
use Rattle.snl_grammar.specs.declared.tree.statement.Stmt.{Stmt}
use Rattle.snl_grammar.specs.declared.tree.statement.Stmt.TheVariants as tree
use Rattle.snl_grammar.specs.Tokens.{NumberedKind, same}
use Rattle.snl_grammar.specs.Steps.{Reader, pure, kind_at, expect, many, until}
use Rattle.snl_grammar.specs.Grammar.Base.{Each, First, Leaf}
use Rattle.snl_grammar.specs.Grammar.Expressions.{one, several, IsExpr}
use Rattle.snl_grammar.specs.Grammar.Declarations.{IsDeclaration}
use Rattle.snl_grammar.specs.Grammar.Statements.{Place, within_block, as_body, after_else as at_else, may_be_block, may_be_choice, IsBefore, IsCondition, AreForParts, IsForHeadWithin, IsMember, declaration as is_declaration, statement as is_statement, IsBlock, IsBody, block as is_block_body, deeper, IsArm, IsPassed, IsLast, IsStmt, empty as is_empty, evaluation as is_evaluation, block as is_block, c_code as is_code, choice as is_choice, while_loop as is_while, for_loop as is_for, break_loop as is_break, continue_loop as is_continue, return_value as is_return, change as is_change, IsStatement, IsBlockWithin}
use Rattle.snl_grammar.specs.Reading.Types.{begins_type}
use Rattle.snl_grammar.specs.Reading.Expressions.{expr}
use Rattle.snl_grammar.specs.Reading.Declarations.{declaration}
use Rattle.snl_grammar.specs.Reading.Statements.{some_before, semicolon_by, before_semicolon, paren_by, before_paren, c_code, jump, change, return_value, evaluation, condition, for_parts, for_head, declared, stated, some_by, some_member, member_by, next_member, block_of, block_statement, body_by, body, while_loop, for_loop, last_body, branch_by, after_else, else_by, arm, arm_step, choice, stmt_by, stmt_of, stmt, block}
use Rattle.snl_grammar.proofs.Local.{Local, Eats, eats_more}
use Rattle.snl_grammar.proofs.Again.{ReadsBack, read, late, reads_back_at, reads_back_as, bind_reads_back, pure_reads_back, expect_reads_back, first_reads_back, kind_first, Heads, first_heads, Lacks, differ, first_lacks, many_reads_back, until_more_reads_back, until_last_reads_back, level_reads_back}
use Rattle.snl_grammar.proofs.Follow.{binds, first_stops}
use Rattle.snl_grammar.proofs.TypeLaws.{word_reads_back}
use Rattle.snl_grammar.proofs.ExpressionAgain.{begins_expr}
use Rattle.snl_grammar.proofs.SingleAgain.{assignx_begins, expr_again}
use Rattle.snl_grammar.proofs.DeclarationAgain.{declaration_again, declaration_begins}
use Rattle.snl_grammar.proofs.StatementLocal.{member_eats, step_eats, stmt_local, stmt_eats}

-- ---- what a statement begins with

abbrev pub begins_stmt : Place → Kind → Bool
begins_stmt p kind.OpenBrace = may_be_block p
begins_stmt p kind.If = may_be_choice p
begins_stmt p kind.While = true
begins_stmt p kind.For = true
begins_stmt p kind.Semicolon = true
begins_stmt p kind.CCode = true
begins_stmt p kind.Break = true
begins_stmt p kind.Continue = true
begins_stmt p kind.Return = true
begins_stmt p kind.State = true
begins_stmt p kind.Name = true
begins_stmt p kind.Integer = true
begins_stmt p kind.Floating = true
begins_stmt p kind.Character = true
begins_stmt p kind.Text = true
begins_stmt p kind.OpenParen = true
begins_stmt p kind.Sizeof = true
begins_stmt p kind.Plus = true
begins_stmt p kind.Minus = true
begins_stmt p kind.Exclamation = true
begins_stmt p kind.Tilde = true
begins_stmt p kind.Star = true
begins_stmt p kind.Ampersand = true
begins_stmt p kind.PlusPlus = true
begins_stmt p kind.MinusMinus = true
begins_stmt p _ = false

expr_stmt : (p : Place) (x : Kind) → begins_expr x ≡ true → begins_stmt p x ≡ true
expr_stmt p kind.Name h = refl
expr_stmt p kind.Integer h = refl
expr_stmt p kind.Floating h = refl
expr_stmt p kind.Character h = refl
expr_stmt p kind.Text h = refl
expr_stmt p kind.OpenParen h = refl
expr_stmt p kind.Sizeof h = refl
expr_stmt p kind.Plus h = refl
expr_stmt p kind.Minus h = refl
expr_stmt p kind.Exclamation h = refl
expr_stmt p kind.Tilde h = refl
expr_stmt p kind.Star h = refl
expr_stmt p kind.Ampersand h = refl
expr_stmt p kind.PlusPlus h = refl
expr_stmt p kind.MinusMinus h = refl
expr_stmt p _ h = absurd cc

expr_heads : (p : Place) (k : List NumberedKind) → Heads begins_expr k → Heads (begins_stmt p) k
expr_heads p [] h = absurd h
expr_heads p (s ∷ k) h = expr_stmt p s.0 h

heads_lack : (p : Kind → Bool) (x : Kind) (k : List NumberedKind) → Heads p k → p x ≡ false → Lacks x k
heads_lack p x [] h f = absurd h
heads_lack p x (s ∷ k) h f = differ p s.0 x h f

type_lacks : (x : Kind) (k : List NumberedKind) → begins_type (kind_at k) ≡ true → begins_type (Some x) ≡ false → Lacks x k
unfolding kind_at
type_lacks x [] h f = tt
type_lacks x (s ∷ k) h f = differ (λ y. begins_type (Some y)) s.0 x h f

-- no statement begins with a type
untyped : (x : Kind) → begins_stmt within_block x ≡ true → begins_type (Some x) ≡ false
untyped kind.Const h = absurd cc
untyped kind.Void h = absurd cc
untyped kind.Char h = absurd cc
untyped kind.Short h = absurd cc
untyped kind.Int h = absurd cc
untyped kind.Long h = absurd cc
untyped kind.Unsigned h = absurd cc
untyped kind.Int8 h = absurd cc
untyped kind.Uint8 h = absurd cc
untyped kind.Int16 h = absurd cc
untyped kind.Uint16 h = absurd cc
untyped kind.Int32 h = absurd cc
untyped kind.Uint32 h = absurd cc
untyped kind.Float h = absurd cc
untyped kind.Double h = absurd cc
untyped kind.String h = absurd cc
untyped kind.Evflag h = absurd cc
untyped kind.Enum h = absurd cc
untyped kind.Struct h = absurd cc
untyped kind.Union h = absurd cc
untyped kind.Typename h = absurd cc
untyped _ h = refl

-- ---- an expression or nothing, and the token that ends it

semicolon_some : (p : Reader Expr) (d : Kind) → begins_expr d ≡ true → semicolon_by p (Some d) ≡ some_before kind.Semicolon p
semicolon_some p kind.Semicolon e = absurd cc
semicolon_some p _ e = refl

semicolon_at : (p : Reader Expr) (k : List NumberedKind) → Heads begins_expr k → before_semicolon p k ≡ some_before kind.Semicolon p k
unfolding before_semicolon kind_at
semicolon_at p [] h = absurd h
semicolon_at p (s ∷ k) h = ap (λ (q : Reader (Option Expr)). q (s ∷ k)) (semicolon_some p s.0 h)

paren_some : (p : Reader Expr) (d : Kind) → begins_expr d ≡ true → paren_by p (Some d) ≡ some_before kind.CloseParen p
paren_some p kind.CloseParen e = absurd cc
paren_some p _ e = refl

paren_at : (p : Reader Expr) (k : List NumberedKind) → Heads begins_expr k → before_paren p k ≡ some_before kind.CloseParen p k
unfolding before_paren kind_at
paren_at p [] h = absurd h
paren_at p (s ∷ k) h = ap (λ (q : Reader (Option Expr)). q (s ∷ k)) (paren_some p s.0 h)

module _ (free extra depth : ℕ) where
  expr_begins : (t : Expr) (k rest : List NumberedKind) → IsExpr free extra depth t k rest → Heads begins_expr k
  expr_begins t k rest (one r) = assignx_begins free extra depth t k rest r
  expr_begins t k rest (several x y ys mid is r each) = assignx_begins free extra depth x k mid r

  some_again : (x : Kind) → 13 < binds x → (e : Expr) (k mid rest : List NumberedKind) → IsExpr free extra depth e k mid → First x mid rest → ReadsBack free (some_before x (expr depth) k) (Some e) rest
  unfolding some_before
  some_again x lt e k mid rest r f =
      bind_reads_back free (expr depth k) _ e mid (Some e) rest (expr_again free extra depth e k mid r (first_stops x 13 mid rest lt f))
      (bind_reads_back free (expect x mid) _ f.0 rest (Some e) rest (first_reads_back free x mid rest f) (pure_reads_back free (Some e) rest))

  semicolon_again : (e : Option Expr) (k rest : List NumberedKind) → IsBefore kind.Semicolon (IsExpr free extra depth) e k rest → ReadsBack free (before_semicolon (expr depth) k) e rest
  unfolding before_semicolon
  semicolon_again None k rest is =
      let f : First kind.Semicolon k rest = subst (λ l. First kind.Semicolon l rest) (sym is.value) is.mark in
      reads_back_at free (before_semicolon (expr depth) k) (semicolon_by (expr depth) (Some kind.Semicolon) k) None rest (ap (λ o. semicolon_by (expr depth) o k) (kind_first kind.Semicolon k rest f)) (word_reads_back free kind.Semicolon None k rest f)
  semicolon_again (Some x) k rest is = reads_back_at free (before_semicolon (expr depth) k) (some_before kind.Semicolon (expr depth) k) (Some x) rest (semicolon_at (expr depth) k (expr_begins x k is.mid is.value)) (some_again kind.Semicolon (omega arith) x k is.mid rest is.value is.mark)

  pub paren_again : (e : Option Expr) (k rest : List NumberedKind) → IsBefore kind.CloseParen (IsExpr free extra depth) e k rest → ReadsBack free (before_paren (expr depth) k) e rest
  unfolding before_paren
  paren_again None k rest is =
      let f : First kind.CloseParen k rest = subst (λ l. First kind.CloseParen l rest) (sym is.value) is.mark in
      reads_back_at free (before_paren (expr depth) k) (paren_by (expr depth) (Some kind.CloseParen) k) None rest (ap (λ o. paren_by (expr depth) o k) (kind_first kind.CloseParen k rest f)) (word_reads_back free kind.CloseParen None k rest f)
  paren_again (Some x) k rest is = reads_back_at free (before_paren (expr depth) k) (some_before kind.CloseParen (expr depth) k) (Some x) rest (paren_at (expr depth) k (expr_begins x k is.mid is.value)) (some_again kind.CloseParen (omega arith) x k is.mid rest is.value is.mark)

  condition_again : (e : Expr) (k rest : List NumberedKind) → IsCondition (IsExpr free extra depth) e k rest → ReadsBack free (condition depth k) e rest
  unfolding condition
  condition_again e k rest is =
      bind_reads_back free (expect kind.OpenParen k) _ is.opening.0 is.m1 e rest (first_reads_back free kind.OpenParen k is.m1 is.opening)
      (bind_reads_back free (expr depth is.m1) _ e is.m2 e rest (expr_again free extra depth e is.m1 is.m2 is.value (first_stops kind.CloseParen 13 is.m2 rest (omega arith) is.closing))
      (bind_reads_back free (expect kind.CloseParen is.m2) _ is.closing.0 rest e rest (first_reads_back free kind.CloseParen is.m2 rest is.closing) (pure_reads_back free e rest)))

  parts_again : (t : ForHead) (k rest : List NumberedKind) → AreForParts (IsExpr free extra depth) t k rest → ReadsBack free (for_parts depth k) t rest
  unfolding for_parts
  parts_again t k rest is =
      bind_reads_back free (before_semicolon (expr depth) k) _ t.first is.m1 t rest (semicolon_again t.first k is.m1 is.first)
      (bind_reads_back free (before_semicolon (expr depth) is.m1) _ t.condition is.m2 t rest (semicolon_again t.condition is.m1 is.m2 is.condition)
      (bind_reads_back free (before_paren (expr depth) is.m2) _ t.step rest t rest (paren_again t.step is.m2 rest is.step) (pure_reads_back free t rest)))

  head_again : (t : ForHead) (k rest : List NumberedKind) → IsForHeadWithin free extra depth t k rest → ReadsBack free (for_head depth k) t rest
  unfolding for_head
  head_again t k rest is =
      bind_reads_back free (expect kind.OpenParen k) _ is.opening.0 is.mid t rest (first_reads_back free kind.OpenParen k is.mid is.opening)
      (level_reads_back free extra depth (for_parts depth) (AreForParts (IsExpr free extra depth)) t is.mid rest (parts_again t is.mid rest) is.parts)

-- ---- of statements and declarations one level deeper it is given what they begin with, and that
-- they are read again

-- what may follow a statement
abbrev pub Ended : Bool → List NumberedKind → Type 0
Ended closed rest = closed ≡ false → Lacks kind.Else rest

always : (rest : List NumberedKind) → Ended true rest
always rest q = absurd cc

module _ (free extra depth : ℕ) (Inner : Place → Bool → Stmt → List NumberedKind → List NumberedKind → Type 0) (inner : Reader Stmt) (local : Local inner) (eats : Eats inner)
    (begins : (p : Place) (closed : Bool) (t : Stmt) (k rest : List NumberedKind) → Inner p closed t k rest → Heads (begins_stmt p) k)
    (again : (p : Place) (closed : Bool) (t : Stmt) (k rest : List NumberedKind) → Inner p closed t k rest → Ended closed rest → ReadsBack free (inner k) t rest)
    (type_first : (d : Declaration) (k rest : List NumberedKind) → IsDeclaration free extra depth d k rest → begins_type (kind_at k) ≡ true)
    (declares : (d : Declaration) (k rest : List NumberedKind) → IsDeclaration free extra depth d k rest → ReadsBack free (declaration depth k) d rest) where
  abbrev M : Member → List NumberedKind → List NumberedKind → Type 0
  M = IsMember (IsDeclaration free extra depth) Inner

  member_by_type : (o : Option Kind) → begins_type o ≡ true → member_by depth inner o ≡ some_member depth inner
  member_by_type (Some kind.CloseBrace) e = absurd cc
  member_by_type _ e = refl

  type_member : (k : List NumberedKind) → begins_type (kind_at k) ≡ true → next_member depth inner k ≡ declared depth inner k
  unfolding next_member some_member
  type_member k h = ap (λ (p : Reader (Option Member)). p k) (member_by_type (kind_at k) h) ∙ ap (λ b. some_by depth inner b k) h

  member_by_stmt : (x : Kind) → begins_stmt within_block x ≡ true → member_by depth inner (Some x) ≡ some_member depth inner
  member_by_stmt kind.CloseBrace e = absurd cc
  member_by_stmt _ e = refl

  stmt_member : (k : List NumberedKind) → Heads (begins_stmt within_block) k → next_member depth inner k ≡ stated depth inner k
  unfolding next_member some_member kind_at
  stmt_member [] h = absurd h
  stmt_member (s ∷ k) h = ap (λ (p : Reader (Option Member)). p (s ∷ k)) (member_by_stmt s.0 h) ∙ ap (λ b. some_by depth inner b (s ∷ k)) (untyped s.0 h)

  member_lacks : (x : Member) (k m : List NumberedKind) → M x k m → Lacks kind.Else k
  member_lacks x k m (is_declaration d is r) = type_lacks kind.Else k (type_first d k m r) refl
  member_lacks x k m (is_statement s is r) = heads_lack (begins_stmt within_block) kind.Else k (begins within_block false s k m r) refl

  member_again : (x : Member) (k m : List NumberedKind) → M x k m → Lacks kind.Else m → ReadsBack free (next_member depth inner k) (Some x) m
  unfolding declared stated
  member_again x k m (is_declaration d is r) h =
      reads_back_at free (next_member depth inner k) (declared depth inner k) (Some x) m (type_member k (type_first d k m r))
      (reads_back_as free _ (Some (members.Declaration d)) (Some x) m (ap (λ (z : Member). Some z) (sym is))
      (bind_reads_back free (declaration depth k) _ d m (Some (members.Declaration d)) m (declares d k m r) (pure_reads_back free (Some (members.Declaration d)) m)))
  member_again x k m (is_statement s is r) h =
      reads_back_at free (next_member depth inner k) (stated depth inner k) (Some x) m (stmt_member k (begins within_block false s k m r))
      (reads_back_as free _ (Some (members.Statement s)) (Some x) m (ap (λ (z : Member). Some z) (sym is))
      (bind_reads_back free (inner k) _ s m (Some (members.Statement s)) m (again within_block false s k m r (λ _. h)) (pure_reads_back free (Some (members.Statement s)) m)))

  no_member : (k rest : List NumberedKind) → First kind.CloseBrace k rest → ReadsBack free (next_member depth inner k) None k
  unfolding next_member
  no_member k rest f = read (ap (λ o. member_by depth inner o k) (kind_first kind.CloseBrace k rest f))

  pub block_of_again : (ts : List Member) (k rest : List NumberedKind) → IsBlock (IsDeclaration free extra depth) Inner ts k rest → ReadsBack free (block_of depth inner k) ts rest
  unfolding block_of
  block_of_again ts k rest is =
      bind_reads_back free (expect kind.OpenBrace k) _ is.opening.0 is.m1 ts rest (first_reads_back free kind.OpenBrace k is.m1 is.opening)
      (bind_reads_back free (many (next_member depth inner) [] is.m1) _ ts is.m2 ts rest (many_reads_back free (next_member depth inner) (member_eats depth inner local eats) M (Lacks kind.Else) member_lacks member_again [] ts is.m1 is.m2 is.members (first_lacks kind.CloseBrace kind.Else is.m2 rest refl is.closing) (no_member is.m2 rest is.closing))
      (bind_reads_back free (expect kind.CloseBrace is.m2) _ is.closing.0 rest ts rest (first_reads_back free kind.CloseBrace is.m2 rest is.closing) (pure_reads_back free ts rest)))

  block_again : (ts : List Member) (k rest : List NumberedKind) → IsBlock (IsDeclaration free extra depth) Inner ts k rest → ReadsBack free (block_statement depth inner k) (tree.Block ts) rest
  unfolding block_statement
  block_again ts k rest is = bind_reads_back free (block_of depth inner k) _ ts rest (tree.Block ts) rest (block_of_again ts k rest is) (pure_reads_back free (tree.Block ts) rest)

  -- ---- bodies

  abbrev B : Place → Bool → Stmt → List NumberedKind → List NumberedKind → Type 0
  B = IsBody (IsDeclaration free extra depth) Inner

  body_by_inner : (p : Place) → may_be_block p ≡ false → (x : Kind) → begins_stmt p x ≡ true → body_by depth inner (Some x) ≡ inner
  body_by_inner p never kind.OpenBrace e = let h : true ≡ false = sym e ∙ never in absurd cc
  body_by_inner p never _ e = refl

  body_inner : (p : Place) → may_be_block p ≡ false → (k : List NumberedKind) → Heads (begins_stmt p) k → body depth inner k ≡ inner k
  unfolding body kind_at
  body_inner p never [] h = absurd h
  body_inner p never (s ∷ k) h = ap (λ (q : Reader Stmt). q (s ∷ k)) (body_by_inner p never s.0 h)

  body_again : (p : Place) → may_be_block p ≡ false → (closed : Bool) (t : Stmt) (k rest : List NumberedKind) → B p closed t k rest → Ended closed rest → ReadsBack free (body depth inner k) t rest
  unfolding body
  body_again p never closed t k rest (is_block_body ts is b) h = reads_back_at free (body depth inner k) (block_statement depth inner k) t rest (ap (λ o. body_by depth inner o k) (kind_first kind.OpenBrace k b.m1 b.opening)) (reads_back_as free _ (tree.Block ts) t rest (sym is) (block_again ts k rest b))
  body_again p never closed t k rest (deeper r) h = reads_back_at free (body depth inner k) (inner k) t rest (body_inner p never k (begins p closed t k rest r)) (again p closed t k rest r h)

  while_again : (closed : Bool) (e : Expr) (s : Stmt) (k m1 m2 rest : List NumberedKind) → First kind.While k m1 → IsCondition (IsExpr free extra depth) e m1 m2 → B as_body closed s m2 rest → Ended closed rest → ReadsBack free (while_loop depth inner k) (tree.While e s) rest
  unfolding while_loop
  while_again closed e s k m1 m2 rest f c b h =
      bind_reads_back free (expect kind.While k) _ f.0 m1 (tree.While e s) rest (first_reads_back free kind.While k m1 f)
      (bind_reads_back free (condition depth m1) _ e m2 (tree.While e s) rest (condition_again free extra depth e m1 m2 c)
      (bind_reads_back free (body depth inner m2) _ s rest (tree.While e s) rest (body_again as_body refl closed s m2 rest b h) (pure_reads_back free (tree.While e s) rest)))

  for_again : (closed : Bool) (t : ForHead) (s : Stmt) (k m1 m2 rest : List NumberedKind) → First kind.For k m1 → IsForHeadWithin free extra depth t m1 m2 → B as_body closed s m2 rest → Ended closed rest → ReadsBack free (for_loop depth inner k) (tree.For t s) rest
  unfolding for_loop
  for_again closed t s k m1 m2 rest f c b h =
      bind_reads_back free (expect kind.For k) _ f.0 m1 (tree.For t s) rest (first_reads_back free kind.For k m1 f)
      (bind_reads_back free (for_head depth m1) _ t m2 (tree.For t s) rest (head_again free extra depth t m1 m2 c)
      (bind_reads_back free (body depth inner m2) _ s rest (tree.For t s) rest (body_again as_body refl closed s m2 rest b h) (pure_reads_back free (tree.For t s) rest)))

  -- ---- chains of `if`

  abbrev A : Bool → Expr × Stmt → List NumberedKind → List NumberedKind → Type 0
  A = IsArm (IsExpr free extra depth) (IsDeclaration free extra depth) Inner

  abbrev P : Expr × Stmt → List NumberedKind → List NumberedKind → Type 0
  P = IsPassed (IsExpr free extra depth) (IsDeclaration free extra depth) Inner

  abbrev L : Bool → Expr × Stmt → Option Stmt → List NumberedKind → List NumberedKind → Type 0
  L = IsLast (IsExpr free extra depth) (IsDeclaration free extra depth) Inner

  abbrev Stepping : Type 0
  Stepping = Step (Expr × Stmt) (Option Stmt)

  abbrev go_on : Expr × Stmt → Stepping
  go_on a = steps.More a

  abbrev ends : Expr × Stmt → Option Stmt → Stepping
  ends a t = steps.Last (Some a) t

  arm_again : (closed : Bool) (a : Expr × Stmt) (k rest : List NumberedKind) → A closed a k rest → Ended closed rest → ReadsBack free (arm depth inner k) a rest
  unfolding arm
  arm_again closed a k rest is h =
      bind_reads_back free (expect kind.If k) _ is.word.0 is.m1 a rest (first_reads_back free kind.If k is.m1 is.word)
      (bind_reads_back free (condition depth is.m1) _ a.0 is.m2 a rest (condition_again free extra depth a.0 is.m1 is.m2 is.condition)
      (bind_reads_back free (body depth inner is.m2) _ a.1 rest a rest (body_again as_body refl closed a.1 is.m2 rest is.body h) (pure_reads_back free a rest)))

  else_at : (a : Expr × Stmt) (k m : List NumberedKind) (y : Stepping) (rest : List NumberedKind) → First kind.Else k m → ReadsBack free (branch_by depth inner a (kind_at m) m) y rest → ReadsBack free (else_by depth inner a (kind_at k) k) y rest
  unfolding after_else
  else_at a k m y rest f c =
      reads_back_at free (else_by depth inner a (kind_at k) k) (after_else depth inner a k) y rest (ap (λ o. else_by depth inner a o k) (kind_first kind.Else k m f))
      (bind_reads_back free (expect kind.Else k) _ f.0 m y rest (first_reads_back free kind.Else k m f) c)

  passed_again : (a : Expr × Stmt) (k rest after : List NumberedKind) → P a k rest → First kind.If rest after → ReadsBack free (arm_step depth inner k) (go_on a) rest
  unfolding arm_step
  passed_again a k rest after is f =
      bind_reads_back free (arm depth inner k) _ a is.mid (go_on a) rest (arm_again true a k is.mid is.front (always is.mid))
      (else_at a is.mid rest (go_on a) rest is.word
      (reads_back_at free (branch_by depth inner a (kind_at rest) rest) (pure (go_on a) rest) (go_on a) rest (ap (λ o. branch_by depth inner a o rest) (kind_first kind.If rest after f)) (pure_reads_back free (go_on a) rest)))

  no_else_by : (a : Expr × Stmt) (d : Kind) (k : List NumberedKind) → same d kind.Else ≡ false → else_by depth inner a (Some d) k ≡ Ok (ends a None, k)
  no_else_by a kind.Else k h = absurd cc
  no_else_by a _ k h = refl

  no_else : (a : Expr × Stmt) (k : List NumberedKind) → Lacks kind.Else k → ReadsBack free (else_by depth inner a (kind_at k) k) (ends a None) k
  unfolding kind_at
  no_else a [] h = read refl
  no_else a (s ∷ k) h = read (no_else_by a s.0 (s ∷ k) h)

  branch_by_last : (a : Expr × Stmt) (x : Kind) → begins_stmt at_else x ≡ true → branch_by depth inner a (Some x) ≡ last_body depth inner a
  branch_by_last a kind.If e = absurd cc
  branch_by_last a _ e = refl

  branch_last : (a : Expr × Stmt) (k : List NumberedKind) → Heads (begins_stmt at_else) k → branch_by depth inner a (kind_at k) k ≡ last_body depth inner a k
  unfolding kind_at
  branch_last a [] h = absurd h
  branch_last a (s ∷ k) h = ap (λ (q : Reader Stepping). q (s ∷ k)) (branch_by_last a s.0 h)

  branch_body : (a : Expr × Stmt) (closed : Bool) (t : Stmt) (k rest : List NumberedKind) → B at_else closed t k rest → branch_by depth inner a (kind_at k) k ≡ last_body depth inner a k
  branch_body a closed t k rest (is_block_body ts is b) = ap (λ o. branch_by depth inner a o k) (kind_first kind.OpenBrace k b.m1 b.opening)
  branch_body a closed t k rest (deeper r) = branch_last a k (begins at_else closed t k rest r)

  branch_again : (closed : Bool) (a : Expr × Stmt) (t : Stmt) (k rest : List NumberedKind) → B at_else closed t k rest → Ended closed rest → ReadsBack free (branch_by depth inner a (kind_at k) k) (ends a (Some t)) rest
  unfolding last_body
  branch_again closed a t k rest b h =
      reads_back_at free (branch_by depth inner a (kind_at k) k) (last_body depth inner a k) (ends a (Some t)) rest (branch_body a closed t k rest b)
      (bind_reads_back free (body depth inner k) _ t rest (ends a (Some t)) rest (body_again at_else refl closed t k rest b h) (pure_reads_back free (ends a (Some t)) rest))

  last_again : (closed : Bool) (a : Expr × Stmt) (branch : Option Stmt) (k rest : List NumberedKind) → L closed a branch k rest → Ended closed rest → ReadsBack free (arm_step depth inner k) (ends a branch) rest
  unfolding arm_step
  last_again closed a None k rest is h =
      bind_reads_back free (arm depth inner k) _ a rest (ends a None) rest (arm_again false a k rest is.1 (λ _. h is.0)) (no_else a rest (h is.0))
  last_again closed a (Some t) k rest is h =
      bind_reads_back free (arm depth inner k) _ a is.0 (ends a (Some t)) rest (arm_again true a k is.0 is.1 (always is.0))
      (else_at a is.0 is.2.mid (ends a (Some t)) rest is.2.word (branch_again closed a t is.2.mid rest is.2.body h))

  last_first : (closed : Bool) (a : Expr × Stmt) (branch : Option Stmt) (k rest : List NumberedKind) → L closed a branch k rest → (m : List NumberedKind) × First kind.If k m
  last_first closed a None k rest is = (is.1.m1, is.1.word)
  last_first closed a (Some t) k rest is = (is.1.m1, is.1.word)

  chain_first : (closed : Bool) (arms : List (Expr × Stmt)) (a : Expr × Stmt) (branch : Option Stmt) (k mid rest : List NumberedKind) → Each P arms k mid → L closed a branch mid rest → (m : List NumberedKind) × First kind.If k m
  chain_first closed [] a branch k mid rest e l = last_first closed a branch k rest (subst (λ q. L closed a branch q rest) (sym e) l)
  chain_first closed (b ∷ arms) a branch k mid rest e l = (e.1.front.m1, e.1.front.word)

  abbrev All : Type 0
  All = List (Expr × Stmt) × Option Stmt

  arms_again : (closed : Bool) (found arms : List (Expr × Stmt)) (a : Expr × Stmt) (branch : Option Stmt) (k mid rest : List NumberedKind) → Each P arms k mid → L closed a branch mid rest → Ended closed rest → ReadsBack free (until (arm_step depth inner) found k) (found ++ (arms ++ a ∷ []), branch) rest
  arms_again closed found [] a branch k mid rest e l h = until_last_reads_back free (arm_step depth inner) (eats_more (arm_step depth inner) (step_eats depth inner local eats)) found k (Some a) branch rest (last_again closed a branch k rest (subst (λ q. L closed a branch q rest) (sym e) l) h)
  arms_again closed found (b ∷ arms) a branch k mid rest e l h =
      let f = chain_first closed arms a branch e.0 mid rest e.2 l in
      reads_back_as free _ ((found ++ b ∷ []) ++ (arms ++ a ∷ []), branch) (found ++ (b ∷ (arms ++ a ∷ [])), branch) rest (ap (λ (q : List (Expr × Stmt)). (let r : All = (q, branch) in r)) (append_assoc found (b ∷ []) (arms ++ a ∷ [])))
      (until_more_reads_back free (arm_step depth inner) (eats_more (arm_step depth inner) (step_eats depth inner local eats)) found k b e.0 ((found ++ b ∷ []) ++ (arms ++ a ∷ []), branch) rest (passed_again b k e.0 f.0 e.1 f.1) (arms_again closed (found ++ b ∷ []) arms a branch e.0 mid rest e.2 l h))

  choice_again : (closed : Bool) (arms : List (Expr × Stmt)) (a : Expr × Stmt) (branch : Option Stmt) (k mid rest : List NumberedKind) → Each P arms k mid → L closed a branch mid rest → Ended closed rest → ReadsBack free (choice depth inner k) (tree.If (arms ++ a ∷ []) branch) rest
  unfolding choice
  choice_again closed arms a branch k mid rest e l h =
      bind_reads_back free (until (arm_step depth inner) [] k) _ (arms ++ a ∷ [], branch) rest (tree.If (arms ++ a ∷ []) branch) rest (arms_again closed [] arms a branch k mid rest e l h) (pure_reads_back free (tree.If (arms ++ a ∷ []) branch) rest)

  -- ---- a statement by its first token

  abbrev S : Place → Bool → Stmt → List NumberedKind → List NumberedKind → Type 0
  S = IsStmt (IsExpr free extra depth) (IsExpr free extra (suc depth)) (IsForHeadWithin free extra depth) (IsDeclaration free extra depth) Inner

  by_first : (x : Kind) (s t : Stmt) (k mid rest : List NumberedKind) → t ≡ s → First x k mid → ReadsBack free (stmt_by depth inner (suc depth) (Some x) k) s rest → ReadsBack free (stmt_of depth inner (suc depth) k) t rest
  unfolding stmt_of
  by_first x s t k mid rest is f c = reads_back_at free (stmt_of depth inner (suc depth) k) (stmt_by depth inner (suc depth) (Some x) k) t rest (ap (λ o. stmt_by depth inner (suc depth) o k) (kind_first x k mid f)) (reads_back_as free _ s t rest (sym is) c)

  by_evaluation : (x : Kind) → begins_expr x ≡ true → stmt_by depth inner (suc depth) (Some x) ≡ evaluation (suc depth)
  unfolding stmt_by
  by_evaluation kind.OpenBrace e = absurd cc
  by_evaluation kind.If e = absurd cc
  by_evaluation kind.While e = absurd cc
  by_evaluation kind.For e = absurd cc
  by_evaluation kind.Semicolon e = absurd cc
  by_evaluation kind.CCode e = absurd cc
  by_evaluation kind.Break e = absurd cc
  by_evaluation kind.Continue e = absurd cc
  by_evaluation kind.Return e = absurd cc
  by_evaluation kind.State e = absurd cc
  by_evaluation _ e = refl

  evaluation_at : (k : List NumberedKind) → Heads begins_expr k → stmt_of depth inner (suc depth) k ≡ evaluation (suc depth) k
  unfolding stmt_of kind_at
  evaluation_at [] h = absurd h
  evaluation_at (s ∷ k) h = ap (λ (q : Reader Stmt). q (s ∷ k)) (by_evaluation s.0 h)

  evaluation_again : (e : Expr) (k mid rest : List NumberedKind) → IsExpr free extra (suc depth) e k mid → First kind.Semicolon mid rest → ReadsBack free (evaluation (suc depth) k) (tree.Expr e) rest
  unfolding evaluation
  evaluation_again e k mid rest r f =
      bind_reads_back free (expr (suc depth) k) _ e mid (tree.Expr e) rest (expr_again free extra (suc depth) e k mid r (first_stops kind.Semicolon 13 mid rest (omega arith) f))
      (bind_reads_back free (expect kind.Semicolon mid) _ f.0 rest (tree.Expr e) rest (first_reads_back free kind.Semicolon mid rest f) (pure_reads_back free (tree.Expr e) rest))

  jump_again : (x : Kind) (make : ℕ → Stmt) (n : ℕ) (k mid rest : List NumberedKind) → Leaf x n k mid → First kind.Semicolon mid rest → ReadsBack free (jump x make k) (make n) rest
  unfolding jump
  jump_again x make n k mid rest e f =
      bind_reads_back free (expect x k) _ n mid (make n) rest (expect_reads_back free x n k mid e)
      (bind_reads_back free (expect kind.Semicolon mid) _ f.0 rest (make n) rest (first_reads_back free kind.Semicolon mid rest f) (pure_reads_back free (make n) rest))

  of_again : (p : Place) (closed : Bool) (t : Stmt) (k rest : List NumberedKind) → S p closed t k rest → Ended closed rest → ReadsBack free (stmt_of depth inner (suc depth) k) t rest
  unfolding stmt_by c_code change return_value
  of_again p closed t k rest (is_empty is f) h = by_first kind.Semicolon tree.Empty t k rest rest is f (word_reads_back free kind.Semicolon tree.Empty k rest f)
  of_again p closed t k rest (is_evaluation e mid is r f) h = reads_back_at free (stmt_of depth inner (suc depth) k) (evaluation (suc depth) k) t rest (evaluation_at k (expr_begins free extra (suc depth) e k mid r)) (reads_back_as free _ (tree.Expr e) t rest (sym is) (evaluation_again e k mid rest r f))
  of_again p closed t k rest (is_block ts may is b) h = by_first kind.OpenBrace (tree.Block ts) t k b.m1 rest is b.opening (block_again ts k rest b)
  of_again p closed t k rest (is_code n is e) h = by_first kind.CCode (tree.CCode n) t k rest rest is (n, e) (bind_reads_back free (expect kind.CCode k) _ n rest (tree.CCode n) rest (expect_reads_back free kind.CCode n k rest e) (pure_reads_back free (tree.CCode n) rest))
  of_again p closed t k rest (is_choice arms a branch mid may is e l) h =
      let f = chain_first closed arms a branch k mid rest e l in
      by_first kind.If (tree.If (arms ++ a ∷ []) branch) t k f.0 rest is f.1 (choice_again closed arms a branch k mid rest e l h)
  of_again p closed t k rest (is_while e s m1 m2 is f c b) h = by_first kind.While (tree.While e s) t k m1 rest is f (while_again closed e s k m1 m2 rest f c b h)
  of_again p closed t k rest (is_for x s m1 m2 is f c b) h = by_first kind.For (tree.For x s) t k m1 rest is f (for_again closed x s k m1 m2 rest f c b h)
  of_again p closed t k rest (is_break n mid is e f) h = by_first kind.Break (tree.Break n) t k mid rest is (n, e) (jump_again kind.Break tree.Break n k mid rest e f)
  of_again p closed t k rest (is_continue n mid is e f) h = by_first kind.Continue (tree.Continue n) t k mid rest is (n, e) (jump_again kind.Continue tree.Continue n k mid rest e f)
  of_again p closed t k rest (is_return e mid is f b) h =
      by_first kind.Return (tree.Return e) t k mid rest is f
      (bind_reads_back free (expect kind.Return k) _ f.0 mid (tree.Return e) rest (first_reads_back free kind.Return k mid f)
      (bind_reads_back free (before_semicolon (expr (suc depth)) mid) _ e rest (tree.Return e) rest (semicolon_again free extra (suc depth) e mid rest b) (pure_reads_back free (tree.Return e) rest)))
  of_again p closed t k rest (is_change w n m1 m2 is e1 e2 f) h =
      by_first kind.State (tree.State w n) t k m1 rest is (w, e1)
      (bind_reads_back free (expect kind.State k) _ w m1 (tree.State w n) rest (expect_reads_back free kind.State w k m1 e1)
      (bind_reads_back free (expect kind.Name m1) _ n m2 (tree.State w n) rest (expect_reads_back free kind.Name n m1 m2 e2)
      (bind_reads_back free (expect kind.Semicolon m2) _ f.0 rest (tree.State w n) rest (first_reads_back free kind.Semicolon m2 rest f) (pure_reads_back free (tree.State w n) rest))))

-- ---- what a statement begins with

module _ (free extra depth : ℕ) (own_free own_extra own : ℕ) (Declared : Declaration → List NumberedKind → List NumberedKind → Type 0) (Inner : Place → Bool → Stmt → List NumberedKind → List NumberedKind → Type 0) where
  first_arm : (closed : Bool) (a : Expr × Stmt) (branch : Option Stmt) (k rest : List NumberedKind) → IsLast (IsExpr free extra depth) Declared Inner closed a branch k rest → (m : List NumberedKind) × First kind.If k m
  first_arm closed a None k rest is = (is.1.m1, is.1.word)
  first_arm closed a (Some t) k rest is = (is.1.m1, is.1.word)

  first_if : (closed : Bool) (arms : List (Expr × Stmt)) (a : Expr × Stmt) (branch : Option Stmt) (k mid rest : List NumberedKind) → Each (IsPassed (IsExpr free extra depth) Declared Inner) arms k mid → IsLast (IsExpr free extra depth) Declared Inner closed a branch mid rest → (m : List NumberedKind) × First kind.If k m
  first_if closed [] a branch k mid rest e l = first_arm closed a branch k rest (subst (λ q. IsLast (IsExpr free extra depth) Declared Inner closed a branch q rest) (sym e) l)
  first_if closed (b ∷ arms) a branch k mid rest e l = (e.1.front.m1, e.1.front.word)

  form_begins : (p : Place) (closed : Bool) (t : Stmt) (k rest : List NumberedKind) → IsStmt (IsExpr free extra depth) (IsExpr own_free own_extra own) (IsForHeadWithin free extra depth) Declared Inner p closed t k rest → Heads (begins_stmt p) k
  form_begins p closed t k rest (is_empty is f) = first_heads kind.Semicolon (begins_stmt p) k rest refl f
  form_begins p closed t k rest (is_evaluation e mid is r f) = expr_heads p k (expr_begins own_free own_extra own e k mid r)
  form_begins p closed t k rest (is_block ts may is b) = first_heads kind.OpenBrace (begins_stmt p) k b.m1 may b.opening
  form_begins p closed t k rest (is_code n is e) = first_heads kind.CCode (begins_stmt p) k rest refl (n, e)
  form_begins p closed t k rest (is_choice arms a branch mid may is e l) = let f = first_if closed arms a branch k mid rest e l in first_heads kind.If (begins_stmt p) k f.0 may f.1
  form_begins p closed t k rest (is_while e s m1 m2 is f c b) = first_heads kind.While (begins_stmt p) k m1 refl f
  form_begins p closed t k rest (is_for x s m1 m2 is f c b) = first_heads kind.For (begins_stmt p) k m1 refl f
  form_begins p closed t k rest (is_break n mid is e f) = first_heads kind.Break (begins_stmt p) k mid refl (n, e)
  form_begins p closed t k rest (is_continue n mid is e f) = first_heads kind.Continue (begins_stmt p) k mid refl (n, e)
  form_begins p closed t k rest (is_return e mid is f b) = first_heads kind.Return (begins_stmt p) k mid refl f
  form_begins p closed t k rest (is_change w n m1 m2 is e1 e2 f) = first_heads kind.State (begins_stmt p) k m1 refl (w, e1)

-- ---- in so many levels

pub statement_begins : (free extra depth : ℕ) (p : Place) (closed : Bool) (t : Stmt) (k rest : List NumberedKind) → IsStatement free extra depth p closed t k rest → Heads (begins_stmt p) k
statement_begins free extra (suc depth) p closed t k rest is = form_begins free extra depth free extra (suc depth) (IsDeclaration free extra depth) (IsStatement free extra depth) p closed t k rest is
statement_begins free (suc extra) zero p closed t k rest is = form_begins free extra zero free (suc extra) zero (IsDeclaration free extra zero) (IsStatement free extra zero) p closed t k rest is.1
statement_begins free zero zero p closed t k rest is = absurd is

pub stmt_again : (free extra depth : ℕ) (p : Place) (closed : Bool) (t : Stmt) (k rest : List NumberedKind) → IsStatement free extra depth p closed t k rest → Ended closed rest → ReadsBack free (stmt depth k) t rest
unfolding stmt
stmt_again free extra (suc depth) p closed t k rest is h = of_again free extra depth (IsStatement free extra depth) (stmt depth) (stmt_local depth) (stmt_eats depth) (statement_begins free extra depth) (stmt_again free extra depth) (declaration_begins free extra depth) (declaration_again free extra depth) p closed t k rest is h
stmt_again free (suc extra) zero p closed t k rest is h = late k refl is.0
stmt_again free zero zero p closed t k rest is h = absurd is

pub block_within_again : (free extra depth : ℕ) (ts : List Member) (k rest : List NumberedKind) → IsBlockWithin free extra depth ts k rest → ReadsBack free (block depth k) ts rest
unfolding block
block_within_again free extra (suc depth) ts k rest is = block_of_again free extra depth (IsStatement free extra depth) (stmt depth) (stmt_local depth) (stmt_eats depth) (statement_begins free extra depth) (stmt_again free extra depth) (declaration_begins free extra depth) (declaration_again free extra depth) ts k rest is
block_within_again free (suc extra) zero ts k rest is = late k refl is.0
block_within_again free zero zero ts k rest is = absurd is
