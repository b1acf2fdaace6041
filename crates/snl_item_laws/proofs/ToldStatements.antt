-- What is found in declarations and statements is told by what these spell.
use Rattle.std.proofs.Common.{◌≡◌, ℕ, Bool, true, false, cond, List, [], ◌∷◌, ◌++◌, map, Option, None, Some, sym, subst, append_assoc, refl}
use Rattle.snl_lex.specs.declared.kind.Kind.TheVariants as kind
use Rattle.snl_grammar.specs.declared.tree.declaration.Declaration.{Declaration}
use Rattle.snl_grammar.specs.declared.tree.declaration.Declarator.{Declarator}
use Rattle.snl_grammar.specs.declared.tree.expression.Expr.{Expr}
use Rattle.snl_grammar.specs.declared.tree.statement.ForHead.{ForHead}
use Rattle.snl_grammar.specs.declared.tree.statement.Member.{Member}
use Rattle.snl_grammar.specs.declared.tree.statement.Member.TheOpen.{Member-F, Stmt-F}
use Rattle.snl_grammar.specs.declared.tree.statement.Member.TheFolds.{fold-roll-Member, fold-roll-Stmt, ind-Member, map-Member, map-Stmt}
use Rattle.snl_grammar.specs.declared.tree.statement.Member.TheViews.{roll-Member, roll-Stmt}
use Rattle.snl_grammar.specs.declared.tree.statement.Stmt.{Stmt}
use Rattle.snl_grammar.specs.Spelling.Base.{Spelled, after, between, joined, leaf, word}
use Rattle.snl_grammar.specs.Spelling.Declarations.{spell_declaration, spell_declarator}
use Rattle.snl_grammar.specs.Spelling.Statements.{spell_block, spell_choice, spell_else, spell_for_head, spell_member, spell_member_step, spell_stmt, spell_stmt_step}
use Rattle.snl_walk.specs.declared.occurrence.Occurrence.{Occurrence}
use Rattle.snl_walk.specs.declared.occurrence.What.TheVariants as what
use Rattle.snl_walk.specs.Declares.{is_event_flag}
use Rattle.snl_walk.specs.Scopes.{Names, under_names}
use Rattle.snl_walk.specs.Statements.{Content, Found, change, content_of, contents_of, declaration_at, declared_by_contents, found_in_block, found_in_branches, found_in_contents, found_in_declaration, found_in_declarator, found_in_expr, found_in_head, found_in_stmt, in_loop, is_wrong_flag, jump, member_step, stmt_step}
use Rattle.snl_item_laws.proofs.Inner.{Context}
use Rattle.snl_item_laws.proofs.Told.{Case, leading, staying, jump_here, lead_here, name_here, none, quiet, stay_here, told-append, told_after, told_before, told_between, told_in_braces, told_in_parens}
use Rattle.snl_item_laws.proofs.ToldExpressions.{FoundTold, seen_if, seen_in_expr, seen_in_lengths, seen_in_value}
use Rattle.snl_item_laws.proofs.ToldTypes.{silent_leaf, silent_stars, silent_type, silent_word}

-- In the block of a transition each `state NAME;` leads on, and elsewhere none does.
abbrev pub Leads : Bool → Case → Type 0
Leads true leading = Unit {0}
Leads false staying = Unit {0}
Leads _ _ = ⊥

module _ (bytes : ℕ → List ℕ) where
  module _ (has : Case → Type 0) (visible : Names) where
    declarator_told : (is_flag in_block : Bool) (d : Declarator) → FoundTold has (found_in_declarator bytes visible is_flag in_block d) (spell_declarator d)
    declarator_told is_flag in_block d =
        told-append
        (told-append (told_after (silent_stars d.pointers) (name_here (declaration_at bytes visible (is_wrong_flag is_flag in_block d) d.name) refl none)) (seen_in_lengths has bytes visible false d.lengths))
        (seen_in_value has bytes visible false d.init)

    pub declaration_told : (in_block : Bool) (d : Declaration) → FoundTold has (found_in_declaration bytes visible in_block d) (spell_declaration d)
    declaration_told in_block d =
        told_before kind.Semicolon refl
        (told_after (silent_type d.of) (told_between (found_in_declarator bytes visible (is_event_flag d.of.base) in_block) spell_declarator (declarator_told (is_event_flag d.of.base) in_block) kind.Comma refl d.declarators))

    head_told : (head : ForHead) → FoundTold has (found_in_head bytes visible head) (spell_for_head head)
    head_told head =
        told_in_parens
        (told-append (told_before kind.Semicolon refl (told-append (told_before kind.Semicolon refl (seen_if has bytes visible false head.first)) (seen_if has bytes visible false head.condition))) (seen_if has bytes visible false head.step))

  abbrev changed : ℕ → Bool → Occurrence
  changed n in_transition = record { token = n; what = what.Change in_transition; means = None }

  abbrev target_at : ℕ → Occurrence
  target_at n = record { token = n; what = what.Target; means = None }

  abbrev ToldAt : Context → List Occurrence → List Spelled → Type 0
  ToldAt context = FoundTold (Leads context.in_transition)

  change_told : (word_at name : ℕ) (context : Context) → ToldAt context (change word_at name context) (leaf kind.State word_at ++ leaf kind.Name name ++ word kind.Semicolon)
  change_told word_at name context = by context.in_transition
    where
      by : (b : Bool) → FoundTold (Leads b) (changed word_at b ∷ cond b (target_at name ∷ []) []) (leaf kind.State word_at ++ leaf kind.Name name ++ word kind.Semicolon)
      by true = lead_here (changed word_at true) (target_at name) tt refl refl (silent_word kind.Semicolon refl)
      by false = stay_here (changed word_at false) name tt refl (silent_word kind.Semicolon refl)

  abbrev ToldOfStmt : Stmt → Type 0
  ToldOfStmt s = (visible : Names) (context : Context) → ToldAt context (found_in_stmt bytes s visible context) (spell_stmt s)

  abbrev ToldOfMember : Member → Type 0
  ToldOfMember m = (visible : Names) (context : Context) → ToldAt context ((content_of bytes m).found visible context) (spell_member m)

  -- statements and members of which it is known
  abbrev KnownStmt : Type 0
  KnownStmt = (s : Stmt) × ToldOfStmt s

  abbrev KnownMember : Type 0
  KnownMember = (m : Member) × ToldOfMember m

  abbrev stmt_of : KnownStmt → Stmt
  stmt_of k = k.0

  abbrev member_of : KnownMember → Member
  member_of k = k.0

  contents_told : (ms : List KnownMember) (visible : Names) (context : Context) →
      ToldAt context (found_in_contents (map (content_of bytes) (map member_of ms)) visible context) (joined (map spell_member (map member_of ms)))
  contents_told [] visible context = none
  contents_told (m ∷ ms) visible context = told-append (m.1 visible context) (contents_told ms visible context)

  -- the arms of an `if`
  abbrev KnownArm : Type 0
  KnownArm = Expr × KnownStmt

  abbrev arms_of : List KnownArm → List (Expr × Stmt)
  arms_of arms = map (λ (arm : KnownArm). (arm.0, arm.1.0)) arms

  abbrev found_arms : List (Expr × Stmt) → List (Expr × Found)
  found_arms arms = map (λ (arm : Expr × Stmt). (arm.0, found_in_stmt bytes arm.1)) arms

  abbrev spelled_arm : Expr × Stmt → Expr × List Spelled
  spelled_arm arm = (arm.0, spell_stmt arm.1)

  abbrev spelled_arms : List (Expr × Stmt) → List (List Spelled)
  spelled_arms arms = map spell_choice (map spelled_arm arms)

  module _ (visible : Names) (context : Context) where
    abbrev found_in_arm : KnownArm → List Occurrence
    found_in_arm arm = found_in_expr bytes visible arm.0 ++ found_in_stmt bytes arm.1.0 visible context

    abbrev spell_arm : KnownArm → List Spelled
    spell_arm arm = spell_choice (spelled_arm (arm.0, arm.1.0))

    arm_told : (arm : KnownArm) → ToldAt context (found_in_arm arm) (spell_arm arm)
    arm_told arm = told-append (quiet kind.If None refl (told_in_parens (seen_in_expr (Leads context.in_transition) bytes visible false arm.0))) (arm.1.1 visible context)

    module _ (last : Option Found) (ys : List Spelled) (l : ToldAt context (found_in_branches bytes [] last visible context) ys) where
      abbrev found_after : List KnownArm → List Occurrence
      found_after arms = found_in_branches bytes (found_arms (arms_of arms)) last visible context

      arms_after : (arms : List KnownArm) → ToldAt context (found_after arms) (after kind.Else (spelled_arms (arms_of arms)) ++ ys)
      arms_after [] = l
      arms_after (arm ∷ arms) =
          let rest = after kind.Else (spelled_arms (arms_of arms)) in
          quiet kind.Else None refl (subst (ToldAt context (found_in_arm arm ++ found_after arms)) (sym (append_assoc (spell_arm arm) rest ys)) (told-append (arm_told arm) (arms_after arms)))

      arms_told : (arms : List KnownArm) → ToldAt context (found_after arms) (between kind.Else (spelled_arms (arms_of arms)) ++ ys)
      arms_told [] = l
      arms_told (arm ∷ arms) =
          let rest = after kind.Else (spelled_arms (arms_of arms)) in
          subst (ToldAt context (found_in_arm arm ++ found_after arms)) (sym (append_assoc (spell_arm arm) rest ys)) (told-append (arm_told arm) (arms_after arms))

  -- one level, where it is known of each part
  abbrev level_of_stmt : Stmt-F KnownMember KnownStmt → Stmt-F Member Stmt
  level_of_stmt y = map-Stmt KnownMember KnownStmt Member Stmt member_of stmt_of y

  abbrev level_of_member : Member-F KnownMember KnownStmt → Member-F Member Stmt
  level_of_member y = map-Member KnownMember KnownStmt Member Stmt member_of stmt_of y

  stmt_level : (y : Stmt-F KnownMember KnownStmt) (visible : Names) (context : Context) →
      ToldAt context (stmt_step bytes (map-Stmt Member Stmt Content Found (content_of bytes) (found_in_stmt bytes) (level_of_stmt y)) visible context)
      (spell_stmt_step (map-Stmt Member Stmt (List Spelled) (List Spelled) spell_member spell_stmt (level_of_stmt y)))
  stmt_level Stmt-F.Empty visible context = silent_word kind.Semicolon refl
  stmt_level (Stmt-F.Expr e) visible context = told_before kind.Semicolon refl (seen_in_expr (Leads context.in_transition) bytes visible false e)
  stmt_level (Stmt-F.Block ms) visible context =
      told_in_braces (contents_told ms (under_names bytes (declared_by_contents (map (content_of bytes) (map member_of ms))) ++ visible) context)
  stmt_level (Stmt-F.CCode n) visible context = silent_leaf kind.CCode n refl
  stmt_level (Stmt-F.If arms None) visible context = arms_told visible context None [] none arms
  stmt_level (Stmt-F.If arms (Some last)) visible context =
      arms_told visible context (Some (found_in_stmt bytes last.0)) (spell_else (spell_stmt last.0)) (quiet kind.Else None refl (last.1 visible context)) arms
  stmt_level (Stmt-F.While e body) visible context =
      told-append (quiet kind.While None refl (told_in_parens (seen_in_expr (Leads context.in_transition) bytes visible false e))) (body.1 visible (in_loop context))
  stmt_level (Stmt-F.For head body) visible context = told-append (quiet kind.For None refl (head_told (Leads context.in_transition) visible head)) (body.1 visible (in_loop context))
  stmt_level (Stmt-F.Break n) visible context = jump_here kind.Break (jump n context) refl refl refl refl refl (silent_word kind.Semicolon refl)
  stmt_level (Stmt-F.Continue n) visible context = jump_here kind.Continue (jump n context) refl refl refl refl refl (silent_word kind.Semicolon refl)
  stmt_level (Stmt-F.Return value) visible context = told_before kind.Semicolon refl (quiet kind.Return None refl (seen_if (Leads context.in_transition) bytes visible false value))
  stmt_level (Stmt-F.State n name) visible context = change_told n name context

  member_level : (y : Member-F KnownMember KnownStmt) (visible : Names) (context : Context) →
      ToldAt context ((member_step bytes (map-Member Member Stmt Content Found (content_of bytes) (found_in_stmt bytes) (level_of_member y))).found visible context)
      (spell_member_step (map-Member Member Stmt (List Spelled) (List Spelled) spell_member spell_stmt (level_of_member y)))
  member_level (Member-F.Declaration d) visible context = declaration_told (Leads context.in_transition) visible true d
  member_level (Member-F.Statement s) visible context = s.1 visible context

  rolled_stmt : (x : Stmt-F Member Stmt) (y : Stmt-F KnownMember KnownStmt) → level_of_stmt y ≡ x → ToldOfStmt (roll-Stmt x)
  rolled_stmt x y is =
      let z = level_of_stmt y in
      let at_z : ToldOfStmt (roll-Stmt z) = λ visible context.
      subst (λ (f : Found). ToldAt context (f visible context) (spell_stmt (roll-Stmt z))) (sym (fold-roll-Stmt Content Found (member_step bytes) (stmt_step bytes) z))
      (subst (ToldAt context (stmt_step bytes (map-Stmt Member Stmt Content Found (content_of bytes) (found_in_stmt bytes) z) visible context)) (sym (fold-roll-Stmt (List Spelled) (List Spelled) spell_member_step spell_stmt_step z)) (stmt_level y visible context)) in
      subst (λ v. ToldOfStmt (roll-Stmt v)) is at_z

  rolled_member : (x : Member-F Member Stmt) (y : Member-F KnownMember KnownStmt) → level_of_member y ≡ x → ToldOfMember (roll-Member x)
  rolled_member x y is =
      let z = level_of_member y in
      let at_z : ToldOfMember (roll-Member z) = λ visible context.
      subst (λ (c : Content). ToldAt context (c.found visible context) (spell_member (roll-Member z))) (sym (fold-roll-Member Content Found (member_step bytes) (stmt_step bytes) z))
      (subst (ToldAt context ((member_step bytes (map-Member Member Stmt Content Found (content_of bytes) (found_in_stmt bytes) z)).found visible context)) (sym (fold-roll-Member (List Spelled) (List Spelled) spell_member_step spell_stmt_step z)) (member_level y visible context)) in
      subst (λ v. ToldOfMember (roll-Member v)) is at_z

  member_told : (m : Member) → ToldOfMember m
  member_told = ind-Member ToldOfMember ToldOfStmt rolled_member rolled_stmt

  members_told : (ms : List Member) (visible : Names) (context : Context) → ToldAt context (found_in_contents (contents_of bytes ms) visible context) (joined (map spell_member ms))
  members_told [] visible context = none
  members_told (m ∷ ms) visible context = told-append (member_told m visible context) (members_told ms visible context)

  pub block_told : (ms : List Member) (visible : Names) (context : Context) → ToldAt context (found_in_block bytes ms visible context) (spell_block ms)
  block_told ms visible context = told_in_braces (members_told ms (under_names bytes (declared_by_contents (contents_of bytes ms)) ++ visible) context)
