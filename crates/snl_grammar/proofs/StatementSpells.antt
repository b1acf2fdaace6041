-- Statements and blocks spell their tokens.
use Rattle.std.proofs.Common.{◌≡◌, ℕ, zero, suc, Bool, true, false, List, [], ◌∷◌, ◌++◌, map, Some, None, refl, sym, subst}
use Rattle.snl_lex.specs.declared.kind.Kind.TheVariants as kind
use Rattle.snl_grammar.specs.declared.tree.expression.Expr.{Expr}
use Rattle.snl_grammar.specs.declared.tree.declaration.Declaration.{Declaration}
use Rattle.snl_grammar.specs.declared.tree.statement.ForHead.{ForHead}
use Rattle.snl_grammar.specs.declared.tree.statement.Member.{Member}
use Rattle.snl_grammar.specs.declared.tree.statement.Stmt.{Stmt}
use Rattle.snl_grammar.specs.declared.tree.statement.Member.TheOpen.{Member-F, Stmt-F}
use Rattle.snl_grammar.specs.declared.tree.statement.Member.TheViews.{roll-Member, roll-Stmt}
use Rattle.snl_grammar.specs.declared.tree.statement.Member.TheFolds.{map-Member, map-Stmt, fold-roll-Member, fold-roll-Stmt}
use denote.Hole.Carrier.{roll}
use Rattle.snl_grammar.specs.Tokens.{NumberedKind}
use Rattle.snl_grammar.specs.Grammar.Base.{Each}
use Rattle.snl_grammar.specs.Grammar.Expressions.{IsExpr}
use Rattle.snl_grammar.specs.Grammar.Declarations.{IsDeclaration}
use Rattle.snl_grammar.specs.Grammar.Statements.{Place, within_block, as_body, after_else, IsCondition, AreForParts, IsForHeadWithin, IsMember, declaration, statement, IsBlock, IsBody, block as is_block, deeper, IsArm, IsPassed, IsStmt, empty, evaluation, block as block_within, c_code, choice, while_loop, for_loop, break_loop, continue_loop, return_value, change, IsStatement, IsBlockWithin}
use Rattle.snl_grammar.specs.Spelling.Base.{Spelled, word, after, between, in_parens}
use Rattle.snl_grammar.specs.Spelling.Expressions.{spell_expr}
use Rattle.snl_grammar.specs.Spelling.Declarations.{spell_declaration}
use Rattle.snl_grammar.specs.Spelling.Statements.{spell_choice, spell_for_parts, spell_for_head, spell_member_step, spell_stmt_step, spell_member, spell_stmt, spell_block}
use Rattle.snl_grammar.proofs.Covers.{Covers, Spells, nothing_covers, word_covers, leaf_covers, ◌and◌, covers_as, perhaps_spells, each_spells, within_spells}
use Rattle.snl_grammar.proofs.ExpressionSpells.{expr_spells}
use Rattle.snl_grammar.proofs.DeclarationSpells.{declaration_spells}

-- ---- where the tree is one level, it spells what the level does

member_covers : {t : Member} {k rest : List NumberedKind} (level : Member-F Member Stmt) → t ≡ roll-Member level → Covers (spell_member_step (map-Member Member Stmt (List Spelled) (List Spelled) spell_member spell_stmt level)) k rest → Covers (spell_member t) k rest
member_covers level is c = covers_as spell_member is (fold-roll-Member (List Spelled) (List Spelled) spell_member_step spell_stmt_step level) c

stmt_covers : {t : Stmt} {k rest : List NumberedKind} (level : Stmt-F Member Stmt) → t ≡ roll-Stmt level → Covers (spell_stmt_step (map-Stmt Member Stmt (List Spelled) (List Spelled) spell_member spell_stmt level)) k rest → Covers (spell_stmt t) k rest
stmt_covers level is c = covers_as spell_stmt is (fold-roll-Stmt (List Spelled) (List Spelled) spell_member_step spell_stmt_step level) c

-- ---- conditions

module _ (Inside : Expr → List NumberedKind → List NumberedKind → Type 0) (inside_spells : Spells Inside spell_expr) where
  condition_spells : Spells (IsCondition Inside) (λ e. in_parens (spell_expr e))
  condition_spells e k rest is = word_covers is.opening and inside_spells e is.m1 is.m2 is.value and word_covers is.closing

  for_parts_spell : Spells (AreForParts Inside) (λ t. spell_for_parts t ++ word kind.CloseParen)
  for_parts_spell t k rest is =
      (perhaps_spells Inside spell_expr inside_spells t.first k is.first.mid is.first.value
      and word_covers is.first.mark
      and perhaps_spells Inside spell_expr inside_spells t.condition is.m1 is.condition.mid is.condition.value
      and word_covers is.condition.mark
      and perhaps_spells Inside spell_expr inside_spells t.step is.m2 is.step.mid is.step.value)
      and word_covers is.step.mark

for_head_spells : (free extra depth : ℕ) → Spells (IsForHeadWithin free extra depth) spell_for_head
for_head_spells free extra depth t k rest is =
    word_covers is.opening
    and within_spells free extra depth (AreForParts (IsExpr free extra depth)) (λ t. spell_for_parts t ++ word kind.CloseParen) (for_parts_spell (IsExpr free extra depth) (expr_spells free extra depth)) t is.mid rest is.parts

-- ---- blocks and bodies

module _ (Declared : Declaration → List NumberedKind → List NumberedKind → Type 0) (declared_spells : Spells Declared spell_declaration) (Inner : Place → Bool → Stmt → List NumberedKind → List NumberedKind → Type 0) (inner_spells : (place : Place) (closed : Bool) → Spells (Inner place closed) spell_stmt) where
  member_spells : Spells (IsMember Declared Inner) spell_member
  unfolding roll-Member roll
  member_spells t k rest (declaration d is inside) = member_covers (Member-F.Declaration d) is (declared_spells d k rest inside)
  member_spells t k rest (statement s is inside) = member_covers (Member-F.Statement s) is (inner_spells within_block false s k rest inside)

  block_spells : Spells (IsBlock Declared Inner) spell_block
  block_spells ts k rest is = word_covers is.opening and each_spells (IsMember Declared Inner) spell_member member_spells ts is.m1 is.m2 is.members and word_covers is.closing

  body_spells : (place : Place) (closed : Bool) → Spells (IsBody Declared Inner place closed) spell_stmt
  unfolding roll-Stmt roll
  body_spells place closed t k rest (is_block ts is inside) = stmt_covers (Stmt-F.Block ts) is (block_spells ts k rest inside)
  body_spells place closed t k rest (deeper inside) = inner_spells place closed t k rest inside

-- ---- `if`

abbrev spelled_arm : Expr × Stmt → Expr × List Spelled
spelled_arm arm = (arm.0, spell_stmt arm.1)

abbrev spell_arms : List (Expr × Stmt) → List Spelled
spell_arms arms = between kind.Else (map spell_choice (map spelled_arm arms))

after_arms : (arms : List (Expr × Stmt)) (last : Expr × Stmt) → after kind.Else (map spell_choice (map spelled_arm (arms ++ last ∷ []))) ≡ word kind.Else ++ spell_arms (arms ++ last ∷ [])
after_arms [] last = refl
after_arms (arm ∷ arms) last = refl

module _ (Inside : Expr → List NumberedKind → List NumberedKind → Type 0) (inside_spells : Spells Inside spell_expr) (Declared : Declaration → List NumberedKind → List NumberedKind → Type 0) (declared_spells : Spells Declared spell_declaration) (Inner : Place → Bool → Stmt → List NumberedKind → List NumberedKind → Type 0) (inner_spells : (place : Place) (closed : Bool) → Spells (Inner place closed) spell_stmt) where
  arm_spells : (closed : Bool) → Spells (IsArm Inside Declared Inner closed) (λ arm. spell_choice (spelled_arm arm))
  arm_spells closed arm k rest is = word_covers is.word and condition_spells Inside inside_spells arm.0 is.m1 is.m2 is.condition and body_spells Declared declared_spells Inner inner_spells as_body closed arm.1 is.m2 rest is.body

  arms_spell : (arms : List (Expr × Stmt)) (last : Expr × Stmt) (closed : Bool) (k m rest : List NumberedKind) → Each (IsPassed Inside Declared Inner) arms k m → IsArm Inside Declared Inner closed last m rest → Covers (spell_arms (arms ++ last ∷ [])) k rest
  arms_spell [] last closed k m rest e is = nothing_covers e and arm_spells closed last m rest is and nothing_covers refl
  arms_spell (arm ∷ arms) last closed k m rest e is =
      subst (λ (l : List Spelled). Covers (spell_choice (spelled_arm arm) ++ l) k rest) (sym (after_arms arms last))
      (arm_spells true arm k e.1.mid e.1.front and (word_covers e.1.word and arms_spell arms last closed e.0 m rest e.2 is))

module _ (Inside : Expr → List NumberedKind → List NumberedKind → Type 0) (inside_spells : Spells Inside spell_expr) (Outside : Expr → List NumberedKind → List NumberedKind → Type 0) (outside_spells : Spells Outside spell_expr) (Head : ForHead → List NumberedKind → List NumberedKind → Type 0) (head_spells : Spells Head spell_for_head) (Declared : Declaration → List NumberedKind → List NumberedKind → Type 0) (declared_spells : Spells Declared spell_declaration) (Inner : Place → Bool → Stmt → List NumberedKind → List NumberedKind → Type 0) (inner_spells : (place : Place) (closed : Bool) → Spells (Inner place closed) spell_stmt) where
  form_spells : (place : Place) (closed : Bool) → Spells (IsStmt Inside Outside Head Declared Inner place closed) spell_stmt
  unfolding roll-Stmt roll
  form_spells place closed t k rest (empty is mark) = stmt_covers Stmt-F.Empty is (word_covers mark)
  form_spells place closed t k rest (evaluation e mid is inside mark) = stmt_covers (Stmt-F.Expr e) is (outside_spells e k mid inside and word_covers mark)
  form_spells place closed t k rest (block_within ts may is inside) = stmt_covers (Stmt-F.Block ts) is (block_spells Declared declared_spells Inner inner_spells ts k rest inside)
  form_spells place closed t k rest (c_code n is at) = stmt_covers (Stmt-F.CCode n) is (leaf_covers at)
  form_spells place closed t k rest (choice arms last None mid may is front final) =
      stmt_covers (Stmt-F.If (arms ++ last ∷ []) None) is (arms_spell Inside inside_spells Declared declared_spells Inner inner_spells arms last false k mid rest front final.1 and nothing_covers refl)
  form_spells place closed t k rest (choice arms last (Some s) mid may is front final) =
      let after_last = final.2 in
      stmt_covers (Stmt-F.If (arms ++ last ∷ []) (Some s)) is
      (arms_spell Inside inside_spells Declared declared_spells Inner inner_spells arms last true k mid final.0 front final.1
      and (word_covers after_last.word and body_spells Declared declared_spells Inner inner_spells after_else closed s after_last.mid rest after_last.body))
  form_spells place closed t k rest (while_loop e s m1 m2 is mark condition inside) =
      stmt_covers (Stmt-F.While e s) is (word_covers mark and condition_spells Inside inside_spells e m1 m2 condition and body_spells Declared declared_spells Inner inner_spells as_body closed s m2 rest inside)
  form_spells place closed t k rest (for_loop h s m1 m2 is mark head inside) =
      stmt_covers (Stmt-F.For h s) is (word_covers mark and head_spells h m1 m2 head and body_spells Declared declared_spells Inner inner_spells as_body closed s m2 rest inside)
  form_spells place closed t k rest (break_loop n mid is at mark) = stmt_covers (Stmt-F.Break n) is (leaf_covers at and word_covers mark)
  form_spells place closed t k rest (continue_loop n mid is at mark) = stmt_covers (Stmt-F.Continue n) is (leaf_covers at and word_covers mark)
  form_spells place closed t k rest (return_value e mid is mark inside) = stmt_covers (Stmt-F.Return e) is (word_covers mark and perhaps_spells Outside spell_expr outside_spells e mid inside.mid inside.value and word_covers inside.mark)
  form_spells place closed t k rest (change w n m1 m2 is at name mark) = stmt_covers (Stmt-F.State w n) is (leaf_covers at and leaf_covers name and word_covers mark)

-- ---- in so many levels

pub statement_spells : (free extra depth : ℕ) (place : Place) (closed : Bool) → Spells (IsStatement free extra depth place closed) spell_stmt
statement_spells free extra (suc depth) place closed t k rest is =
    form_spells (IsExpr free extra depth) (expr_spells free extra depth) (IsExpr free extra (suc depth)) (expr_spells free extra (suc depth)) (IsForHeadWithin free extra depth) (for_head_spells free extra depth) (IsDeclaration free extra depth) (declaration_spells free extra depth) (IsStatement free extra depth) (statement_spells free extra depth) place closed t k rest is
statement_spells free (suc extra) zero place closed t k rest is =
    form_spells (IsExpr free extra zero) (expr_spells free extra zero) (IsExpr free (suc extra) zero) (expr_spells free (suc extra) zero) (IsForHeadWithin free extra zero) (for_head_spells free extra zero) (IsDeclaration free extra zero) (declaration_spells free extra zero) (IsStatement free extra zero) (statement_spells free extra zero) place closed t k rest is.1
statement_spells free zero zero place closed t k rest is = absurd is

pub block_within_spells : (free extra depth : ℕ) → Spells (IsBlockWithin free extra depth) spell_block
block_within_spells free extra (suc depth) ts k rest is = block_spells (IsDeclaration free extra depth) (declaration_spells free extra depth) (IsStatement free extra depth) (statement_spells free extra depth) ts k rest is
block_within_spells free (suc extra) zero ts k rest is = block_spells (IsDeclaration free extra zero) (declaration_spells free extra zero) (IsStatement free extra zero) (statement_spells free extra zero) ts k rest is.1
block_within_spells free zero zero ts k rest is = absurd is
