-- The declaration in an item that a name resolves to is of its like: both tokens have the same
-- bytes.
use Rattle.std.proofs.Common.{◌≡◌, ℕ, Bool, true, false, cond, List, [], ◌∷◌, ◌++◌, map, Option, None, Some, refl, sym, subst, ◌∙◌}
use Rattle.std.proofs.lemmas.Slice.Eq.{bytes_eq-Decides}
use Rattle.std.specs.List.{AllByRecursion as Each, flat_map}
use Rattle.std.specs.Str.{bytes_eq}
use Rattle.snl_facts.specs.Each.{each_append}
use Rattle.snl_grammar.specs.declared.tree.declaration.Declaration.{Declaration}
use Rattle.snl_grammar.specs.declared.tree.declaration.Declarator.{Declarator}
use Rattle.snl_grammar.specs.declared.tree.declaration.Parameter.{Parameter}
use Rattle.snl_grammar.specs.declared.tree.expression.Expr.{Expr}
use Rattle.snl_grammar.specs.declared.tree.item.Item.{Item}
use Rattle.snl_grammar.specs.declared.tree.item.Item.TheVariants as items
use Rattle.snl_grammar.specs.declared.tree.item.StructMember.{StructMember}
use Rattle.snl_grammar.specs.declared.tree.item.StructMember.TheVariants as struct_members
use Rattle.snl_grammar.specs.declared.tree.state.StateMember.{StateMember}
use Rattle.snl_grammar.specs.declared.tree.state.StateMember.TheVariants as members
use Rattle.snl_grammar.specs.declared.tree.state.Target.{Target}
use Rattle.snl_grammar.specs.declared.tree.state.Target.TheVariants as target
use Rattle.snl_grammar.specs.declared.tree.state.Transition.{Transition}
use Rattle.snl_grammar.specs.declared.tree.statement.ForHead.{ForHead}
use Rattle.snl_grammar.specs.declared.tree.statement.Member.{Member}
use Rattle.snl_grammar.specs.declared.tree.statement.Member.TheOpen.{Member-F, Stmt-F}
use Rattle.snl_grammar.specs.declared.tree.statement.Member.TheFolds.{fold-roll-Member, fold-roll-Stmt, ind-Member, map-Member, map-Stmt}
use Rattle.snl_grammar.specs.declared.tree.statement.Member.TheViews.{roll-Member, roll-Stmt}
use Rattle.snl_grammar.specs.declared.tree.statement.Stmt.{Stmt}
use Rattle.snl_walk.specs.declared.occurrence.Local.{Local}
use Rattle.snl_walk.specs.declared.occurrence.Occurrence.{Occurrence}
use Rattle.snl_walk.specs.declared.occurrence.What.TheVariants as what
use Rattle.snl_walk.specs.Declares.{declared_by_parameter, declared_by_state, is_event_flag}
use Rattle.snl_walk.specs.Expressions.{names_if, names_in_expr, names_in_value, plain}
use Rattle.snl_walk.specs.Items.{found_at_name, found_in_function, found_in_member, found_in_named, found_in_parameter, found_in_struct_member, found_in_target, found_in_transition, in_transition, occurrences, outside}
use Rattle.snl_walk.specs.Scopes.{Names, resolve, seen, under_names}
use Rattle.snl_walk.specs.Statements.{Content, Found, content_of, contents_of, declaration_at, declared_by_contents, found_if, found_in_block, found_in_branches, found_in_contents, found_in_declaration, found_in_declarator, found_in_expr, found_in_head, found_in_stmt, in_loop, member_step, stmt_step}

module _ (bytes : ℕ → List ℕ) where
  -- the bytes at a token are those at the declaration, if there is one
  abbrev pub IsLikeAt : ℕ → Option Local → Type 0
  IsLikeAt n None = Unit {0}
  IsLikeAt n (Some local) = bytes local.token ≡ bytes n

  abbrev pub IsLike : Occurrence → Type 0
  IsLike o = IsLikeAt o.token o.means

  -- each name is that at its declaration
  abbrev AreNamed : Names → Type 0
  AreNamed visible = Each (λ (e : List ℕ × Local). e.0 ≡ bytes e.1.token) visible

  named_under : (ds : List Local) → AreNamed (under_names bytes ds)
  named_under [] = tt
  named_under (d ∷ ds) = (refl, named_under ds)

  looked_up : (n : ℕ) (visible : Names) → AreNamed visible → IsLikeAt n (resolve bytes visible n)
  looked_up n [] named = tt
  looked_up n (e ∷ es) named = by (bytes_eq (bytes n) e.0) refl (looked_up n es named.1)
    where
      by : (b : Bool) → bytes_eq (bytes n) e.0 ≡ b → IsLikeAt n (resolve bytes es n) →
          IsLikeAt n (cond b (Some e.1) (resolve bytes es n))
      by true same rest = sym ((bytes_eq-Decides (bytes n) e.0).0 same ∙ named.0)
      by false same rest = rest

  both : (xs ys : List Occurrence) → Each IsLike xs → Each IsLike ys → Each IsLike (xs ++ ys)
  both = each_append IsLike

  like_all : {A : Type 0} (f : A → List Occurrence) → ((x : A) → Each IsLike (f x)) →
      (xs : List A) →
      Each IsLike (flat_map f xs)
  like_all f like [] = tt
  like_all f like (x ∷ xs) = both (f x) (flat_map f xs) (like x) (like_all f like xs)

  -- at each of some things
  abbrev LikeAll : {X : Type 0} → (X → Occurrence) → Type 0
  LikeAll {X} f = (xs : List X) → Each IsLike (map f xs)

  module _ (visible : Names) (named : AreNamed visible) where
    like_seen : (in_condition : Bool) → LikeAll (seen bytes visible in_condition)
    like_seen in_condition [] = tt
    like_seen in_condition (n ∷ ns) = (looked_up n.token visible named, like_seen in_condition ns)

    like_declarator : (is_flag in_block : Bool) (d : Declarator) →
        Each IsLike (found_in_declarator bytes visible is_flag in_block d)
    like_declarator is_flag in_block d = (
      looked_up d.name visible named,
      both (map (seen bytes visible false) (flat_map names_if d.lengths))
          (map (seen bytes visible false) (names_in_value d.init))
          (like_seen false (flat_map names_if d.lengths)) (like_seen false (names_in_value d.init)),
    )

    like_declaration : (in_block : Bool) (d : Declaration) →
        Each IsLike (found_in_declaration bytes visible in_block d)
    like_declaration in_block d =
        like_all (found_in_declarator bytes visible (is_event_flag d.of.base) in_block)
        (like_declarator (is_event_flag d.of.base) in_block) d.declarators

    like_head : (head : ForHead) → Each IsLike (found_in_head bytes visible head)
    like_head head =
        both (found_if bytes visible head.first ++ found_if bytes visible head.condition)
        (found_if bytes visible head.step)
        (both (found_if bytes visible head.first) (found_if bytes visible head.condition)
        (like_seen false (names_if head.first)) (like_seen false (names_if head.condition)))
        (like_seen false (names_if head.step))

  -- ---- statements

  -- wherever it is, and in whatever context
  abbrev LikeIn : {C : Type 0} → (Names → C → List Occurrence) → Type 0
  LikeIn {C} f = (visible : Names) → AreNamed visible → (context : C) →
      Each IsLike (f visible context)

  abbrev LikeFound : Found → Type 0
  LikeFound f = LikeIn f

  abbrev LikeStmt : Stmt → Type 0
  LikeStmt s = LikeFound (found_in_stmt bytes s)

  abbrev LikeMember : Member → Type 0
  LikeMember m = LikeFound (content_of bytes m).found

  -- statements and members of which it is known
  abbrev KnownStmt : Type 0
  KnownStmt = (s : Stmt) × LikeStmt s

  abbrev KnownMember : Type 0
  KnownMember = (m : Member) × LikeMember m

  abbrev stmt_of : KnownStmt → Stmt
  stmt_of k = k.0

  abbrev member_of : KnownMember → Member
  member_of k = k.0

  like_contents : (ms : List KnownMember) → LikeFound
      (found_in_contents (map (content_of bytes) (map member_of ms)))
  like_contents [] visible named context = tt
  like_contents (m ∷ ms) visible named context =
      both ((content_of bytes m.0).found visible context)
      (found_in_contents (map (content_of bytes) (map member_of ms)) visible context)
      (m.1 visible named context) (like_contents ms visible named context)

  like_target_if : (name : ℕ) (b : Bool) →
      Each IsLike (cond b (record { token = name; what = what.Target; means = None } ∷ []) [])
  like_target_if name true = (tt, tt)
  like_target_if name false = tt

  -- the arms of an `if`
  abbrev KnownArm : Type 0
  KnownArm = Expr × KnownStmt

  abbrev found_arms : List KnownArm → List (Expr × Found)
  found_arms arms = map (λ (arm : Expr × Stmt). (arm.0, found_in_stmt bytes arm.1))
      (map (λ (arm : KnownArm). (arm.0, arm.1.0)) arms)

  like_arms : (last : Option Found) → LikeFound (found_in_branches bytes [] last) →
      (arms : List KnownArm) →
      LikeFound (found_in_branches bytes (found_arms arms) last)
  like_arms last like [] visible named context = like visible named context
  like_arms last like (arm ∷ arms) visible named context =
      both (found_in_expr bytes visible arm.0 ++ found_in_stmt bytes arm.1.0 visible context)
      (found_in_branches bytes (found_arms arms) last visible context)
      (both (found_in_expr bytes visible arm.0) (found_in_stmt bytes arm.1.0 visible context)
      (like_seen visible named false (names_in_expr plain arm.0)) (arm.1.1 visible named context))
      (like_arms last like arms visible named context)

  -- one level, where it is known of each part
  abbrev level_of_stmt : Stmt-F KnownMember KnownStmt → Stmt-F Member Stmt
  level_of_stmt y = map-Stmt KnownMember KnownStmt Member Stmt member_of stmt_of y

  abbrev level_of_member : Member-F KnownMember KnownStmt → Member-F Member Stmt
  level_of_member y = map-Member KnownMember KnownStmt Member Stmt member_of stmt_of y

  stmt_level : (y : Stmt-F KnownMember KnownStmt) →
      LikeFound (stmt_step bytes (map-Stmt Member Stmt Content Found (content_of bytes)
      (found_in_stmt bytes) (level_of_stmt y)))
  stmt_level Stmt-F.Empty visible named context = tt
  stmt_level (Stmt-F.Expr e) visible named context =
      like_seen visible named false (names_in_expr plain e)
  stmt_level (Stmt-F.Block ms) visible named context =
      let declared = declared_by_contents (map (content_of bytes) (map member_of ms)) in
      like_contents ms (under_names bytes declared ++ visible)
      (each_append (λ (e : List ℕ × Local). e.0 ≡ bytes e.1.token)
      (under_names bytes declared) visible (named_under declared) named) context
  stmt_level (Stmt-F.CCode n) visible named context = tt
  stmt_level (Stmt-F.If arms None) visible named context =
      like_arms None (λ v n c. tt) arms visible named context
  stmt_level (Stmt-F.If arms (Some last)) visible named context =
      like_arms (Some (found_in_stmt bytes last.0)) last.1 arms visible named context
  stmt_level (Stmt-F.While e body) visible named context =
      both (found_in_expr bytes visible e) (found_in_stmt bytes body.0 visible (in_loop context))
      (like_seen visible named false (names_in_expr plain e))
      (body.1 visible named (in_loop context))
  stmt_level (Stmt-F.For head body) visible named context =
      both (found_in_head bytes visible head) (found_in_stmt bytes body.0 visible (in_loop context))
      (like_head visible named head) (body.1 visible named (in_loop context))
  stmt_level (Stmt-F.Break n) visible named context = (tt, tt)
  stmt_level (Stmt-F.Continue n) visible named context = (tt, tt)
  stmt_level (Stmt-F.Return value) visible named context =
      like_seen visible named false (names_if value)
  stmt_level (Stmt-F.State n name) visible named context =
      (tt, like_target_if name context.in_transition)

  member_level : (y : Member-F KnownMember KnownStmt) →
      LikeFound (member_step bytes (map-Member Member Stmt Content Found (content_of bytes)
      (found_in_stmt bytes) (level_of_member y))).found
  member_level (Member-F.Declaration d) visible named context =
      like_declaration visible named true d
  member_level (Member-F.Statement s) visible named context = s.1 visible named context

  rolled_stmt : (x : Stmt-F Member Stmt) (y : Stmt-F KnownMember KnownStmt) → level_of_stmt y ≡ x →
      LikeStmt (roll-Stmt x)
  rolled_stmt x y is =
      let z = level_of_stmt y in
      let at_z : LikeStmt (roll-Stmt z) = subst LikeFound
      (sym (fold-roll-Stmt Content Found (member_step bytes) (stmt_step bytes) z))
      (stmt_level y) in
      subst (λ v. LikeStmt (roll-Stmt v)) is at_z

  rolled_member : (x : Member-F Member Stmt) (y : Member-F KnownMember KnownStmt) →
      level_of_member y ≡ x → LikeMember (roll-Member x)
  rolled_member x y is =
      let z = level_of_member y in
      let at_z : LikeMember (roll-Member z) =
      subst (λ (c : Content). LikeFound c.found)
      (sym (fold-roll-Member Content Found (member_step bytes) (stmt_step bytes) z))
      (member_level y) in
      subst (λ v. LikeMember (roll-Member v)) is at_z

  like_member : (m : Member) → LikeMember m
  like_member = ind-Member LikeMember LikeStmt rolled_member rolled_stmt

  like_members : (ms : List Member) → LikeFound (found_in_contents (contents_of bytes ms))
  like_members [] visible named context = tt
  like_members (m ∷ ms) visible named context =
      both ((content_of bytes m).found visible context)
      (found_in_contents (contents_of bytes ms) visible context)
      (like_member m visible named context) (like_members ms visible named context)

  like_block : (ms : List Member) → LikeFound (found_in_block bytes ms)
  like_block ms visible named context =
      let declared = declared_by_contents (contents_of bytes ms) in
      like_members ms (under_names bytes declared ++ visible)
      (each_append (λ (e : List ℕ × Local). e.0 ≡ bytes e.1.token)
      (under_names bytes declared) visible (named_under declared) named) context

  -- ---- items

  module _ (visible : Names) (named : AreNamed visible) where
    like_foreign : (ns : List ℕ) → Each IsLike (map (declaration_at bytes visible false) ns)
    like_foreign [] = tt
    like_foreign (n ∷ ns) = (looked_up n visible named, like_foreign ns)

    like_target : (t : Target) → Each IsLike (found_in_target t)
    like_target (target.State name) = (tt, tt)
    like_target target.Exit = tt

    like_transition : (t : Transition) → Each IsLike (found_in_transition bytes visible t)
    like_transition t =
        let condition = map (seen bytes visible true) (names_if t.condition) in
        let block = found_in_block bytes t.block visible in_transition in
        both (condition ++ block) (found_in_target t.target)
        (both condition block (like_seen visible named true (names_if t.condition))
        (like_block t.block visible named in_transition))
        (like_target t.target)

    like_in_member : (m : StateMember) → Each IsLike (found_in_member bytes visible m)
    like_in_member (members.Declaration d) = like_declaration visible named false d
    like_in_member (members.Foreign ns) = like_foreign ns
    like_in_member (members.Entry block) = like_block block visible named outside
    like_in_member (members.Exit block) = like_block block visible named outside
    like_in_member (members.When t) = like_transition t
    like_in_member _ = tt

    like_parameter : (p : Parameter) → Each IsLike (found_in_parameter bytes visible p)
    like_parameter p = like_seen visible named false (flat_map names_if p.lengths)

    like_name : (name : Option ℕ) → Each IsLike (found_at_name bytes visible name)
    like_name None = tt
    like_name (Some n) = (looked_up n visible named, tt)

    like_named : (p : Parameter) → Each IsLike (found_in_named bytes visible p)
    like_named p = both (found_at_name bytes visible p.name) (found_in_parameter bytes visible p)
        (like_name p.name) (like_parameter p)

  like_function : (ps : List Parameter) (body : Option (List Member)) →
      Each IsLike (found_in_function bytes ps body)
  like_function ps None = like_all (found_in_parameter bytes []) (like_parameter [] tt) ps
  like_function ps (Some block) =
      let visible = under_names bytes (flat_map declared_by_parameter ps) in
      let named = named_under (flat_map declared_by_parameter ps) in
      both (flat_map (found_in_named bytes visible) ps) (found_in_block bytes block visible outside)
      (like_all (found_in_named bytes visible) (like_named visible named) ps)
      (like_block block visible named outside)

  like_in_struct : (m : StructMember) → Each IsLike (found_in_struct_member bytes m)
  like_in_struct (struct_members.Declaration d) = like_declaration [] tt false d
  like_in_struct (struct_members.CBlock n) = tt

  -- what each occurrence of an item means has its bytes
  pub like_occurrences : (t : Item) → Each IsLike (occurrences bytes t)
  unfolding occurrences
  like_occurrences (items.Definition d) = like_declaration [] tt false d
  like_occurrences (items.Entry block) = like_block block [] tt outside
  like_occurrences (items.Exit block) = like_block block [] tt outside
  like_occurrences (items.StateBlock name ms) =
      let visible = under_names bytes (declared_by_state bytes ms) in
      like_all (found_in_member bytes visible)
      (like_in_member visible (named_under (declared_by_state bytes ms))) ms
  like_occurrences (items.Function f) = like_function f.parameters f.body
  like_occurrences (items.StructDef name ms) =
      like_all (found_in_struct_member bytes) like_in_struct ms
  like_occurrences _ = tt
