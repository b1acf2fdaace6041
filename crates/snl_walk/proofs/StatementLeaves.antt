-- What is found in declarations and statements is at leaves of what these spell, in their order.
use Rattle.std.proofs.Common.{◌≡◌, ℕ, Bool, true, false, cond, List, [], ◌∷◌, ◌++◌, map, Option, None, Some, sym, subst, append_assoc, refl, true≢false}
use Rattle.snl_lex.specs.declared.kind.Kind.TheVariants as kind
use Rattle.snl_grammar.specs.declared.tree.declaration.Declaration.{Declaration}
use Rattle.snl_grammar.specs.declared.tree.declaration.Declarator.{Declarator}
use Rattle.snl_grammar.specs.declared.tree.expression.Expr.{Expr}
use Rattle.snl_grammar.specs.declared.tree.statement.ForHead.{ForHead}
use Rattle.snl_grammar.specs.declared.tree.statement.Member.{Member}
use Rattle.snl_grammar.specs.declared.tree.statement.Member.TheOpen.{Member-F, Stmt-F}
use Rattle.snl_grammar.specs.declared.tree.statement.Member.TheFolds.{fold-roll-Member, fold-roll-Stmt, ind-Member, map-Member, map-Stmt}
use Rattle.snl_grammar.specs.declared.tree.statement.Member.TheViews.{roll-Member, roll-Stmt}
use Rattle.snl_grammar.specs.declared.tree.statement.Stmt.{Stmt}
use Rattle.snl_grammar.specs.Spelling.Base.{Spelled, after, between, joined, leaf, word}
use Rattle.snl_grammar.specs.Spelling.Declarations.{spell_declaration, spell_declarator}
use Rattle.snl_grammar.specs.Spelling.Statements.{spell_block, spell_choice, spell_else, spell_for_head, spell_member, spell_member_step, spell_stmt, spell_stmt_step}
use Rattle.snl_grammar.specs.Spelling.Types.{spell_stars, spell_type}
use Rattle.snl_walk.specs.declared.occurrence.Occurrence.{Occurrence}
use Rattle.snl_walk.specs.declared.occurrence.Context.{Context}
use Rattle.snl_walk.specs.declared.occurrence.What.TheVariants as what
use Rattle.snl_walk.specs.Declares.{is_event_flag}
use Rattle.snl_walk.specs.Scopes.{Names, under_names}
use Rattle.snl_walk.specs.Statements.{Content, Found, change, content_of, contents_of, declaration_at, declared_by_contents, found_in_block, found_in_branches, found_in_contents, found_in_declaration, found_in_declarator, found_in_expr, found_in_head, found_in_stmt, in_loop, is_wrong_flag, jump, member_step, stmt_step}
use Rattle.snl_walk.proofs.ExpressionLeaves.{FoundLeaves, seen_if, seen_in_expr, seen_in_lengths, seen_in_value}
use Rattle.snl_walk.proofs.Leaves.{none, here, leaves-append, leaves_before, leaves_after, leaves_between, leaves_in_parens, no_leaves, one_leaf}

module _ (bytes : ℕ → List ℕ) where
  module _ (visible : Names) where
    declarator_leaves : (is_flag in_block : Bool) (d : Declarator) → FoundLeaves (found_in_declarator bytes visible is_flag in_block d) (spell_declarator d)
    declarator_leaves is_flag in_block d =
        leaves-append
        (leaves-append (leaves_after (spell_stars d.pointers) (one_leaf kind.Name (declaration_at bytes visible (is_wrong_flag is_flag in_block d) d.name) refl)) (seen_in_lengths bytes visible false d.lengths))
        (seen_in_value bytes visible false d.init)

    pub declaration_leaves : (in_block : Bool) (d : Declaration) → FoundLeaves (found_in_declaration bytes visible in_block d) (spell_declaration d)
    declaration_leaves in_block d =
        leaves_before (word kind.Semicolon) (leaves_after (spell_type d.of) (leaves_between (found_in_declarator bytes visible (is_event_flag d.of.base) in_block) spell_declarator (declarator_leaves (is_event_flag d.of.base) in_block) kind.Comma d.declarators))

    head_leaves : (head : ForHead) → FoundLeaves (found_in_head bytes visible head) (spell_for_head head)
    head_leaves head =
        leaves_in_parens
        (leaves-append (leaves_before (word kind.Semicolon) (leaves-append (leaves_before (word kind.Semicolon) (seen_if bytes visible false head.first)) (seen_if bytes visible false head.condition))) (seen_if bytes visible false head.step))

  abbrev changed : ℕ → Bool → Occurrence
  changed n in_transition = record { token = n; what = what.Change in_transition; means = None }

  abbrev target_at : ℕ → Occurrence
  target_at n = record { token = n; what = what.Target; means = None }

  change_leaves : (word_at name : ℕ) (context : Context) → FoundLeaves (change word_at name context) (leaf kind.State word_at ++ leaf kind.Name name ++ word kind.Semicolon)
  change_leaves word_at name context = here kind.State (changed word_at context.in_transition) (λ e. absurd (true≢false (sym e))) (target context.in_transition)
    where
      target : (b : Bool) → FoundLeaves (cond b (target_at name ∷ []) []) (leaf kind.Name name ++ word kind.Semicolon)
      target true = leaves_before (word kind.Semicolon) (one_leaf kind.Name (target_at name) refl)
      target false = no_leaves (leaf kind.Name name ++ word kind.Semicolon)

  abbrev LeavesOfStmt : Stmt → Type 0
  LeavesOfStmt s = (visible : Names) (context : Context) → FoundLeaves (found_in_stmt bytes s visible context) (spell_stmt s)

  abbrev LeavesOfMember : Member → Type 0
  LeavesOfMember m = (visible : Names) (context : Context) → FoundLeaves ((content_of bytes m).found visible context) (spell_member m)

  -- statements and members of which it is known
  abbrev KnownStmt : Type 0
  KnownStmt = (s : Stmt) × LeavesOfStmt s

  abbrev KnownMember : Type 0
  KnownMember = (m : Member) × LeavesOfMember m

  abbrev stmt_of : KnownStmt → Stmt
  stmt_of k = k.0

  abbrev member_of : KnownMember → Member
  member_of k = k.0

  content_leaves : (ms : List KnownMember) (visible : Names) (context : Context) →
      FoundLeaves (found_in_contents (map (content_of bytes) (map member_of ms)) visible context) (joined (map spell_member (map member_of ms)))
  content_leaves [] visible context = none
  content_leaves (m ∷ ms) visible context = leaves-append (m.1 visible context) (content_leaves ms visible context)

  -- the arms of an `if`
  abbrev KnownArm : Type 0
  KnownArm = Expr × KnownStmt

  abbrev arms_of : List KnownArm → List (Expr × Stmt)
  arms_of arms = map (λ (arm : KnownArm). (arm.0, arm.1.0)) arms

  abbrev found_arms : List (Expr × Stmt) → List (Expr × Found)
  found_arms arms = map (λ (arm : Expr × Stmt). (arm.0, found_in_stmt bytes arm.1)) arms

  abbrev spelled_arm : Expr × Stmt → Expr × List Spelled
  spelled_arm arm = (arm.0, spell_stmt arm.1)

  abbrev spelled_arms : List (Expr × Stmt) → List (List Spelled)
  spelled_arms arms = map spell_choice (map spelled_arm arms)

  module _ (visible : Names) (context : Context) where
    abbrev found_in_arm : KnownArm → List Occurrence
    found_in_arm arm = found_in_expr bytes visible arm.0 ++ found_in_stmt bytes arm.1.0 visible context

    abbrev spell_arm : KnownArm → List Spelled
    spell_arm arm = spell_choice (spelled_arm (arm.0, arm.1.0))

    arm_leaves : (arm : KnownArm) → FoundLeaves (found_in_arm arm) (spell_arm arm)
    arm_leaves arm = leaves-append (leaves_after (word kind.If) (leaves_in_parens (seen_in_expr bytes visible false arm.0))) (arm.1.1 visible context)

    module _ (last : Option Found) (ys : List Spelled) (l : FoundLeaves (found_in_branches bytes [] last visible context) ys) where
      abbrev found_after : List KnownArm → List Occurrence
      found_after arms = found_in_branches bytes (found_arms (arms_of arms)) last visible context

      arms_after : (arms : List KnownArm) → FoundLeaves (found_after arms) (after kind.Else (spelled_arms (arms_of arms)) ++ ys)
      arms_after [] = l
      arms_after (arm ∷ arms) =
          let rest = after kind.Else (spelled_arms (arms_of arms)) in
          leaves_after (word kind.Else) (subst (FoundLeaves (found_in_arm arm ++ found_after arms)) (sym (append_assoc (spell_arm arm) rest ys)) (leaves-append (arm_leaves arm) (arms_after arms)))

      arms_leaves : (arms : List KnownArm) → FoundLeaves (found_after arms) (between kind.Else (spelled_arms (arms_of arms)) ++ ys)
      arms_leaves [] = l
      arms_leaves (arm ∷ arms) =
          let rest = after kind.Else (spelled_arms (arms_of arms)) in
          subst (FoundLeaves (found_in_arm arm ++ found_after arms)) (sym (append_assoc (spell_arm arm) rest ys)) (leaves-append (arm_leaves arm) (arms_after arms))

  -- one level, where it is known of each part
  abbrev level_of_stmt : Stmt-F KnownMember KnownStmt → Stmt-F Member Stmt
  level_of_stmt y = map-Stmt KnownMember KnownStmt Member Stmt member_of stmt_of y

  abbrev level_of_member : Member-F KnownMember KnownStmt → Member-F Member Stmt
  level_of_member y = map-Member KnownMember KnownStmt Member Stmt member_of stmt_of y

  stmt_level : (y : Stmt-F KnownMember KnownStmt) (visible : Names) (context : Context) →
      FoundLeaves (stmt_step bytes (map-Stmt Member Stmt Content Found (content_of bytes) (found_in_stmt bytes) (level_of_stmt y)) visible context)
      (spell_stmt_step (map-Stmt Member Stmt (List Spelled) (List Spelled) spell_member spell_stmt (level_of_stmt y)))
  stmt_level Stmt-F.Empty visible context = no_leaves (word kind.Semicolon)
  stmt_level (Stmt-F.Expr e) visible context = leaves_before (word kind.Semicolon) (seen_in_expr bytes visible false e)
  stmt_level (Stmt-F.Block ms) visible context =
      leaves_after (word kind.OpenBrace) (leaves_before (word kind.CloseBrace) (content_leaves ms (under_names bytes (declared_by_contents (map (content_of bytes) (map member_of ms))) ++ visible) context))
  stmt_level (Stmt-F.CCode n) visible context = no_leaves (leaf kind.CCode n)
  stmt_level (Stmt-F.If arms None) visible context = arms_leaves visible context None [] none arms
  stmt_level (Stmt-F.If arms (Some last)) visible context =
      arms_leaves visible context (Some (found_in_stmt bytes last.0)) (spell_else (spell_stmt last.0)) (leaves_after (word kind.Else) (last.1 visible context)) arms
  stmt_level (Stmt-F.While e body) visible context =
      leaves-append (leaves_after (word kind.While) (leaves_in_parens (seen_in_expr bytes visible false e))) (body.1 visible (in_loop context))
  stmt_level (Stmt-F.For head body) visible context = leaves-append (leaves_after (word kind.For) (head_leaves visible head)) (body.1 visible (in_loop context))
  stmt_level (Stmt-F.Break n) visible context = leaves_before (word kind.Semicolon) (one_leaf kind.Break (jump n context) refl)
  stmt_level (Stmt-F.Continue n) visible context = leaves_before (word kind.Semicolon) (one_leaf kind.Continue (jump n context) refl)
  stmt_level (Stmt-F.Return value) visible context = leaves_before (word kind.Semicolon) (leaves_after (word kind.Return) (seen_if bytes visible false value))
  stmt_level (Stmt-F.State n name) visible context = change_leaves n name context

  member_level : (y : Member-F KnownMember KnownStmt) (visible : Names) (context : Context) →
      FoundLeaves ((member_step bytes (map-Member Member Stmt Content Found (content_of bytes) (found_in_stmt bytes) (level_of_member y))).found visible context)
      (spell_member_step (map-Member Member Stmt (List Spelled) (List Spelled) spell_member spell_stmt (level_of_member y)))
  member_level (Member-F.Declaration d) visible context = declaration_leaves visible true d
  member_level (Member-F.Statement s) visible context = s.1 visible context

  rolled_stmt : (x : Stmt-F Member Stmt) (y : Stmt-F KnownMember KnownStmt) → level_of_stmt y ≡ x → LeavesOfStmt (roll-Stmt x)
  rolled_stmt x y is =
      let z = level_of_stmt y in
      let at_z : LeavesOfStmt (roll-Stmt z) = λ visible context.
      subst (λ (f : Found). FoundLeaves (f visible context) (spell_stmt (roll-Stmt z))) (sym (fold-roll-Stmt Content Found (member_step bytes) (stmt_step bytes) z))
      (subst (FoundLeaves (stmt_step bytes (map-Stmt Member Stmt Content Found (content_of bytes) (found_in_stmt bytes) z) visible context)) (sym (fold-roll-Stmt (List Spelled) (List Spelled) spell_member_step spell_stmt_step z)) (stmt_level y visible context)) in
      subst (λ v. LeavesOfStmt (roll-Stmt v)) is at_z

  rolled_member : (x : Member-F Member Stmt) (y : Member-F KnownMember KnownStmt) → level_of_member y ≡ x → LeavesOfMember (roll-Member x)
  rolled_member x y is =
      let z = level_of_member y in
      let at_z : LeavesOfMember (roll-Member z) = λ visible context.
      subst (λ (c : Content). FoundLeaves (c.found visible context) (spell_member (roll-Member z))) (sym (fold-roll-Member Content Found (member_step bytes) (stmt_step bytes) z))
      (subst (FoundLeaves ((member_step bytes (map-Member Member Stmt Content Found (content_of bytes) (found_in_stmt bytes) z)).found visible context)) (sym (fold-roll-Member (List Spelled) (List Spelled) spell_member_step spell_stmt_step z)) (member_level y visible context)) in
      subst (λ v. LeavesOfMember (roll-Member v)) is at_z

  member_leaves : (m : Member) → LeavesOfMember m
  member_leaves = ind-Member LeavesOfMember LeavesOfStmt rolled_member rolled_stmt

  in_block : (ms : List Member) (visible : Names) (context : Context) → FoundLeaves (found_in_contents (contents_of bytes ms) visible context) (joined (map spell_member ms))
  in_block [] visible context = none
  in_block (m ∷ ms) visible context = leaves-append (member_leaves m visible context) (in_block ms visible context)

  pub block_leaves : (ms : List Member) (visible : Names) (context : Context) → FoundLeaves (found_in_block bytes ms visible context) (spell_block ms)
  block_leaves ms visible context =
      leaves_after (word kind.OpenBrace) (leaves_before (word kind.CloseBrace) (in_block ms (under_names bytes (declared_by_contents (contents_of bytes ms)) ++ visible) context))
