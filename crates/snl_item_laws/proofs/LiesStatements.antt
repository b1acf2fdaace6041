-- How brackets lie in statements and blocks.
use Rattle.std.proofs.Common.{ℕ, zero, suc, Bool, true, false, List, Option, Some, None, refl}
use Rattle.snl_lex.specs.declared.kind.Kind.{Kind}
use Rattle.snl_lex.specs.declared.kind.Kind.TheVariants as kind
use Rattle.snl_grammar.specs.declared.tree.declaration.Declaration.{Declaration}
use Rattle.snl_grammar.specs.declared.tree.expression.Expr.{Expr}
use Rattle.snl_grammar.specs.declared.tree.statement.ForHead.{ForHead}
use Rattle.snl_grammar.specs.declared.tree.statement.Member.{Member}
use Rattle.snl_grammar.specs.declared.tree.statement.Stmt.{Stmt}
use Rattle.snl_grammar.specs.Tokens.{NumberedKind}
use Rattle.snl_grammar.specs.Grammar.Base.{First, Within}
use Rattle.snl_grammar.specs.Grammar.Declarations.{IsDeclaration}
use Rattle.snl_grammar.specs.Grammar.Expressions.{IsExpr}
use Rattle.snl_grammar.specs.Grammar.Statements.{AreForParts, IsArm, IsBefore, IsBlock, IsBlockWithin, IsBody, IsCondition, IsForHeadWithin, IsLast, IsMember, IsPassed, IsStatement, IsStmt, Place, after_else, as_body, block, break_loop, c_code, change, choice, continue_loop, declaration, deeper, empty, evaluation, for_loop, return_value, statement, while_loop, within_block}
use Rattle.snl_item_laws.proofs.Lies.{Holds, Lies, braces, each_lie, held, lies_then, loose, nothing, one, parens, perhaps_lies, raised, token}
use Rattle.snl_item_laws.proofs.LiesDeclarations.{declaration_held}
use Rattle.snl_item_laws.proofs.LiesExpressions.{expr_held}

-- an expression or nothing, up to the mark after it
pub before_mark : (inside : Bool) (d : ℕ) (x : Kind) (e : Option Expr) (k rest : List NumberedKind) → IsBefore x (IsExpr 0 0 d) e k rest → (m : List NumberedKind) × Lies inside d k m × First x m rest
before_mark inside d x e k rest h = (h.mid, perhaps_lies inside (IsExpr 0 0 d) d (expr_held inside d) e k h.mid h.value, h.mark)

-- what the brackets of a `for` hold, up to the one that closes them
parts_lie : (d : ℕ) (t : ForHead) (k rest : List NumberedKind) → Within 0 0 d (AreForParts (IsExpr 0 0 d)) t k rest → (m : List NumberedKind) × Lies true d k m × First kind.CloseParen m rest
parts_lie zero t k rest h = absurd h
parts_lie (suc d) t k rest h =
    let a = before_mark true (suc d) kind.Semicolon t.first k h.m1 h.first in
    let b = before_mark true (suc d) kind.Semicolon t.condition h.m1 h.m2 h.condition in
    let c = before_mark true (suc d) kind.CloseParen t.step h.m2 rest h.step in
    (c.0, lies_then a.1 (loose kind.Semicolon refl a.2 (lies_then b.1 (loose kind.Semicolon refl b.2 c.1))), c.2)

-- ---- one level

module _ (d : ℕ) (Inner : Place → Bool → Stmt → List NumberedKind → List NumberedKind → Type 0)
    (inner : (place : Place) (closed : Bool) (t : Stmt) (k rest : List NumberedKind) → Inner place closed t k rest → Holds true d k rest) where
  abbrev Declared : Declaration → List NumberedKind → List NumberedKind → Type 0
  Declared = IsDeclaration 0 0 d

  member_held : (t : Member) (k rest : List NumberedKind) → IsMember Declared Inner t k rest → Holds true d k rest
  member_held t k rest (declaration x is h) = declaration_held d x k rest h
  member_held t k rest (statement s is h) = inner within_block false s k rest h

  pub block_lies : (ts : List Member) (k rest : List NumberedKind) → IsBlock Declared Inner ts k rest → Lies true (suc d) k rest
  block_lies ts k rest h = braces h.opening (each_lie true (IsMember Declared Inner) d member_held ts h.m1 h.m2 h.members) h.closing (nothing refl)

  body_lies : (place : Place) (closed : Bool) (t : Stmt) (k rest : List NumberedKind) → IsBody Declared Inner place closed t k rest → Lies true (suc d) k rest
  body_lies place closed t k rest (block ts is h) = block_lies ts k rest h
  body_lies place closed t k rest (deeper h) = raised (held true d k rest (inner place closed t k rest h))

  condition_lies : (e : Expr) (k rest : List NumberedKind) → IsCondition (IsExpr 0 0 d) e k rest → Lies true (suc d) k rest
  condition_lies e k rest h = parens h.opening (held true d h.m1 h.m2 (expr_held true d e h.m1 h.m2 h.value)) h.closing (nothing refl)

  arm_lies : (closed : Bool) (arm : Expr × Stmt) (k rest : List NumberedKind) → IsArm (IsExpr 0 0 d) Declared Inner closed arm k rest → Lies true (suc d) k rest
  arm_lies closed arm k rest h = token kind.If refl h.word (lies_then (condition_lies arm.0 h.m1 h.m2 h.condition) (body_lies as_body closed arm.1 h.m2 rest h.body))

  passed_lies : (arm : Expr × Stmt) (k rest : List NumberedKind) → IsPassed (IsExpr 0 0 d) Declared Inner arm k rest → Lies true (suc d) k rest
  passed_lies arm k rest h = lies_then (arm_lies true arm k h.mid h.front) (one kind.Else refl h.word)

  last_lies : (closed : Bool) (arm : Expr × Stmt) (branch : Option Stmt) (k rest : List NumberedKind) → IsLast (IsExpr 0 0 d) Declared Inner closed arm branch k rest → Lies true (suc d) k rest
  last_lies closed arm None k rest h = arm_lies false arm k rest h.1
  last_lies closed arm (Some t) k rest h = lies_then (arm_lies true arm k h.0 h.1) (token kind.Else refl h.2.word (body_lies after_else closed t h.2.mid rest h.2.body))

  stmt_lies : (place : Place) (closed : Bool) (t : Stmt) (k rest : List NumberedKind) →
      IsStmt (IsExpr 0 0 d) (IsExpr 0 0 (suc d)) (IsForHeadWithin 0 0 d) Declared Inner place closed t k rest → Lies true (suc d) k rest
  stmt_lies place closed t k rest (empty is w) = loose kind.Semicolon refl w (nothing refl)
  stmt_lies place closed t k rest (evaluation e mid is h w) = lies_then (expr_held true (suc d) e k mid h) (loose kind.Semicolon refl w (nothing refl))
  stmt_lies place closed t k rest (block ts may is h) = block_lies ts k rest h
  stmt_lies place closed t k rest (c_code n is e) = loose kind.CCode refl (n, e) (nothing refl)
  stmt_lies place closed t k rest (choice arms last branch mid may is hs h) =
      lies_then (each_lie true (IsPassed (IsExpr 0 0 d) Declared Inner) (suc d) passed_lies arms k mid hs) (last_lies closed last branch mid rest h)
  stmt_lies place closed t k rest (while_loop e s m1 m2 is w c h) = token kind.While refl w (lies_then (condition_lies e m1 m2 c) (body_lies as_body closed s m2 rest h))
  stmt_lies place closed t k rest (for_loop head s m1 m2 is w h b) =
      let p = parts_lie d head h.mid m2 h.parts in
      token kind.For refl w (parens h.opening p.1 p.2 (body_lies as_body closed s m2 rest b))
  stmt_lies place closed t k rest (break_loop n mid is e w) = token kind.Break refl (n, e) (loose kind.Semicolon refl w (nothing refl))
  stmt_lies place closed t k rest (continue_loop n mid is e w) = token kind.Continue refl (n, e) (loose kind.Semicolon refl w (nothing refl))
  stmt_lies place closed t k rest (return_value e mid is w h) =
      let b = before_mark true (suc d) kind.Semicolon e mid rest h in token kind.Return refl w (lies_then b.1 (loose kind.Semicolon refl b.2 (nothing refl)))
  stmt_lies place closed t k rest (change w n m1 m2 is e f s) = loose kind.State refl (w, e) (token kind.Name refl (n, f) (loose kind.Semicolon refl s (nothing refl)))

-- ---- all levels

statement_held : (d : ℕ) (place : Place) (closed : Bool) (t : Stmt) (k rest : List NumberedKind) → IsStatement 0 0 d place closed t k rest → Holds true d k rest
statement_held zero place closed t k rest h = absurd h
statement_held (suc d) place closed t k rest h = stmt_lies d (IsStatement 0 0 d) (statement_held d) place closed t k rest h

pub block_held : (d : ℕ) (ts : List Member) (k rest : List NumberedKind) → IsBlockWithin 0 0 d ts k rest → Holds true d k rest
block_held zero ts k rest h = absurd h
block_held (suc d) ts k rest h = block_lies d (IsStatement 0 0 d) (statement_held d) ts k rest h

-- a block by its braces: what is in it
pub record IsBraced (d : ℕ) (k rest : List NumberedKind) : Type 0 where
  pub m1 : List NumberedKind
  pub m2 : List NumberedKind
  pub opening : First kind.OpenBrace k m1
  pub members : Lies true d m1 m2
  pub closing : First kind.CloseBrace m2 rest

pub block_braced : (d : ℕ) (ts : List Member) (k rest : List NumberedKind) → IsBlockWithin 0 0 (suc d) ts k rest → IsBraced d k rest
block_braced d ts k rest h = record {
  m1 = h.m1;
  m2 = h.m2;
  opening = h.opening;
  members = each_lie true (IsMember (IsDeclaration 0 0 d) (IsStatement 0 0 d)) d (member_held d (IsStatement 0 0 d) (statement_held d)) ts h.m1 h.m2 h.members;
  closing = h.closing;
}
