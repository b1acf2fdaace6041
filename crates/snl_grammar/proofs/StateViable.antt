-- What readers of states took is in the grammar, and where they fail, the tokens before can be
-- completed.
use Rattle.std.proofs.Common.{ℕ, suc, ◌-◌, List, [], ◌∷◌, ◌++◌, Option, Some, None, refl, sym, ap, subst, ◌∙◌}
use Rattle.snl_lex.specs.declared.kind.Kind.{Kind}
use Rattle.snl_lex.specs.declared.kind.Kind.TheVariants as kind
use Rattle.snl_grammar.specs.declared.tree.expression.Expr.{Expr}
use Rattle.snl_grammar.specs.declared.tree.statement.Member.{Member}
use Rattle.snl_grammar.specs.declared.tree.state.Target.{Target}
use Rattle.snl_grammar.specs.declared.tree.state.Target.TheVariants as targets
use Rattle.snl_grammar.specs.declared.tree.state.Transition.{Transition}
use Rattle.snl_grammar.specs.declared.tree.state.StateMember.{StateMember}
use Rattle.snl_grammar.specs.declared.tree.state.StateMember.TheVariants as members
use Rattle.snl_grammar.specs.Tokens.{NumberedKind}
use Rattle.snl_grammar.specs.Steps.{Reader, and_then, pure, expect, word, many}
use Rattle.snl_grammar.specs.Grammar.Base.{Each, First, Leaf}
use Rattle.snl_grammar.specs.Grammar.Expressions.{IsExpr}
use Rattle.snl_grammar.specs.Grammar.Declarations.{IsDeclaration}
use Rattle.snl_grammar.specs.Grammar.Clauses.{AreForeign, IsOptionLine, IsClause}
use Rattle.snl_grammar.specs.Grammar.Statements.{IsBefore, IsBlockWithin}
use Rattle.snl_grammar.specs.Grammar.States.{IsBlockAfter, IsTarget, next as is_next, leave as is_leave, IsTransition, IsStateMember, declaration as is_declaration, foreign as is_foreign, clause as is_clause, option_line as is_option, empty as is_empty, c_block as is_c_block, entry as is_entry, exit as is_exit, transition as is_transition}
use Rattle.snl_grammar.specs.Reading.Expressions.{expr}
use Rattle.snl_grammar.specs.Reading.Declarations.{declaration}
use Rattle.snl_grammar.specs.Reading.Clauses.{foreign, option_line, clause}
use Rattle.snl_grammar.specs.Reading.Statements.{before_paren, block}
use Rattle.snl_grammar.specs.Reading.States.{entry_block, exit_block, next_state, target_by, target, transition, declared_member, entry_member, exit_member, when_member, foreign_member, clause_member, option_member, c_member, member_by, next_member, state_members}
use Rattle.snl_grammar.proofs.Depths.{one_less}
use Rattle.snl_grammar.proofs.Viable.{Viable, Completable, Exists, Both, both, Next, Lists, IsNothing, bind_completable, into_completable, choice_viable, refuse_viable, expect_completable, pure_completable, many_completable}
use Rattle.snl_grammar.proofs.TypeLaws.{word_completable, lists_each, none_next, first_then}
use Rattle.snl_grammar.proofs.ExpressionViable.{expr_completable}
use Rattle.snl_grammar.proofs.DeclarationViable.{declaration_completable}
use Rattle.snl_grammar.proofs.ClauseViable.{foreign_completable, option_line_completable, clause_completable}
use Rattle.snl_grammar.proofs.BeforeViable.{paren_completable}
use Rattle.snl_grammar.proofs.StatementViable.{block_within_completable}
use Rattle.snl_grammar.proofs.StateLocal.{make_transition}

-- ---- blocks at entry and exit; `start` are the shortest kinds of a block

module _ (free extra : ℕ) (Block : List Member → List NumberedKind → List NumberedKind → Type 0) (braced : Reader (List Member)) (start : List Kind) (fb : Completable free extra braced Block start) where
  into_after : (x : Kind) (y : List Member) (k rest : List NumberedKind) → Both (Leaf x) (λ _. Block) y k rest → IsBlockAfter x Block y k rest
  into_after x y k rest (both n m e b) = record { mid = m; first = (n, e); block = b }

  pub entry_block_completable : Completable free extra (entry_block braced) (IsBlockAfter kind.Entry Block) (kind.Entry ∷ start)
  unfolding entry_block
  entry_block_completable = into_completable free extra (entry_block braced) _ (IsBlockAfter kind.Entry Block) (kind.Entry ∷ start) (into_after kind.Entry) (bind_completable free extra (expect kind.Entry) (λ _. braced) (Leaf kind.Entry) (λ _. Block) (kind.Entry ∷ []) start (expect_completable free extra kind.Entry) (λ _. fb))

  pub exit_block_completable : Completable free extra (exit_block braced) (IsBlockAfter kind.Exit Block) (kind.Exit ∷ start)
  unfolding exit_block
  exit_block_completable = into_completable free extra (exit_block braced) _ (IsBlockAfter kind.Exit Block) (kind.Exit ∷ start) (into_after kind.Exit) (bind_completable free extra (expect kind.Exit) (λ _. braced) (Leaf kind.Exit) (λ _. Block) (kind.Exit ∷ []) start (expect_completable free extra kind.Exit) (λ _. fb))

-- ---- transitions

module _ (free extra : ℕ) where
  into_next : (y : Target) (k rest : List NumberedKind) → Both (Leaf kind.State) (λ _. Both (Leaf kind.Name) (λ n. IsNothing (targets.State n))) y k rest → IsTarget y k rest
  into_next y k rest (both i m1 e (both n m2 w h)) = subst (λ z. IsTarget z k rest) h.0 (is_next n m1 refl (i, e) (w ∙ ap (λ (l : List NumberedKind). (kind.Name, n) ∷ l) h.1))

  next_state_completable : Completable free extra next_state IsTarget (kind.State ∷ kind.Name ∷ [])
  unfolding next_state
  next_state_completable = into_completable free extra next_state _ IsTarget (kind.State ∷ kind.Name ∷ []) into_next (bind_completable free extra (expect kind.State) _ (Leaf kind.State) (λ _. Both (Leaf kind.Name) (λ n. IsNothing (targets.State n))) (kind.State ∷ []) (kind.Name ∷ []) (expect_completable free extra kind.State) (λ _. bind_completable free extra (expect kind.Name) _ (Leaf kind.Name) (λ n. IsNothing (targets.State n)) (kind.Name ∷ []) [] (expect_completable free extra kind.Name) (λ n. pure_completable free extra (targets.State n))))

  leave_completable : Completable free extra (word kind.Exit targets.Exit) IsTarget (kind.Exit ∷ [])
  leave_completable = word_completable free extra kind.Exit targets.Exit IsTarget (λ k rest f. is_leave refl f)

  target_by_viable : (o : Option Kind) → Viable free extra (target_by o) IsTarget (Exists IsTarget)
  target_by_viable (Some kind.State) = next_state_completable.viable
  target_by_viable (Some kind.Exit) = leave_completable.viable
  target_by_viable _ = refuse_viable free extra IsTarget (Exists IsTarget) (kind.Exit ∷ []) leave_completable.makes

  target_completable : Completable free extra target IsTarget (kind.Exit ∷ [])
  unfolding target
  target_completable = record { viable = choice_viable free extra target_by IsTarget (Exists IsTarget) target_by_viable; makes = leave_completable.makes }

abbrev Braces : List Kind
Braces = kind.OpenBrace ∷ kind.CloseBrace ∷ []

-- ---- members; the brackets of a `when` hold `depth` levels

module _ (free extra depth : ℕ) where
  abbrev Inside : Expr → List NumberedKind → List NumberedKind → Type 0
  Inside = IsExpr free extra depth

  abbrev Block : List Member → List NumberedKind → List NumberedKind → Type 0
  Block = IsBlockWithin free extra (suc depth)

  before_completable : Completable free extra (before_paren (expr (suc depth - 1))) (IsBefore kind.CloseParen Inside) (kind.CloseParen ∷ [])
  before_completable = subst (λ i. Completable free extra (before_paren (expr i)) (IsBefore kind.CloseParen Inside) (kind.CloseParen ∷ [])) (sym (one_less depth)) (paren_completable free extra Inside (expr depth) (expr_completable free extra depth))

  into_transition : (y : Transition) (k rest : List NumberedKind) → Both (Leaf kind.When) (λ _. Both (Leaf kind.OpenParen) (λ _. Both (IsBefore kind.CloseParen Inside) (λ e. Both Block (λ b. Both IsTarget (λ t. IsNothing (make_transition e b t)))))) y k rest → IsTransition Inside Block y k rest
  into_transition y k rest (both i m1 w1 (both j m2 w2 (both e m3 w3 (both b m4 w4 (both t m5 w5 h))))) = subst (λ z. IsTransition Inside Block z k rest) h.0 (record { m1 = m1; m2 = m2; m3 = m3; m4 = m4; word = (i, w1); opening = (j, w2); condition = w3; block = w4; target = subst (λ l. IsTarget t m4 l) h.1 w5 })

  transition_completable : Completable free extra (transition (suc depth)) (IsTransition Inside Block) (kind.When ∷ kind.OpenParen ∷ kind.CloseParen ∷ kind.OpenBrace ∷ kind.CloseBrace ∷ kind.Exit ∷ [])
  unfolding transition
  transition_completable =
      into_completable free extra (transition (suc depth)) _ (IsTransition Inside Block) (kind.When ∷ kind.OpenParen ∷ kind.CloseParen ∷ kind.OpenBrace ∷ kind.CloseBrace ∷ kind.Exit ∷ []) into_transition
      (bind_completable free extra (expect kind.When) _ (Leaf kind.When) (λ _. Both (Leaf kind.OpenParen) (λ _. Both (IsBefore kind.CloseParen Inside) (λ e. Both Block (λ b. Both IsTarget (λ t. IsNothing (make_transition e b t)))))) (kind.When ∷ []) (kind.OpenParen ∷ kind.CloseParen ∷ kind.OpenBrace ∷ kind.CloseBrace ∷ kind.Exit ∷ []) (expect_completable free extra kind.When) (λ _.
      bind_completable free extra (expect kind.OpenParen) _ (Leaf kind.OpenParen) (λ _. Both (IsBefore kind.CloseParen Inside) (λ e. Both Block (λ b. Both IsTarget (λ t. IsNothing (make_transition e b t))))) (kind.OpenParen ∷ []) (kind.CloseParen ∷ kind.OpenBrace ∷ kind.CloseBrace ∷ kind.Exit ∷ []) (expect_completable free extra kind.OpenParen) (λ _.
      bind_completable free extra (before_paren (expr (suc depth - 1))) _ (IsBefore kind.CloseParen Inside) (λ e. Both Block (λ b. Both IsTarget (λ t. IsNothing (make_transition e b t)))) (kind.CloseParen ∷ []) (kind.OpenBrace ∷ kind.CloseBrace ∷ kind.Exit ∷ []) before_completable (λ e.
      bind_completable free extra (block (suc depth)) _ Block (λ b. Both IsTarget (λ t. IsNothing (make_transition e b t))) Braces (kind.Exit ∷ []) (block_within_completable free extra (suc depth)) (λ b.
      bind_completable free extra target _ IsTarget (λ t. IsNothing (make_transition e b t)) (kind.Exit ∷ []) [] (target_completable free extra) (λ t. pure_completable free extra (make_transition e b t)))))))

  abbrev M : StateMember → List NumberedKind → List NumberedKind → Type 0
  M = IsStateMember Inside (IsDeclaration free extra (suc depth)) Block

  into_made : {A : Type 0} (make : A → StateMember) (R : A → List NumberedKind → List NumberedKind → Type 0) → ((x : A) (k rest : List NumberedKind) → R x k rest → M (make x) k rest) → (y : Option StateMember) (k rest : List NumberedKind) → Both R (λ x. IsNothing (Some (make x))) y k rest → Next M y k rest
  into_made make R is y k rest (both x m r h) = subst (λ z. Next M z k rest) h.0 (is x k rest (subst (λ l. R x k l) h.1 r))

  -- a member that another reader reads
  made_viable : {A : Type 0} (p : Reader A) (make : A → StateMember) (R : A → List NumberedKind → List NumberedKind → Type 0) (some : List Kind) → Completable free extra p R some → ((x : A) (k rest : List NumberedKind) → R x k rest → M (make x) k rest) → Viable free extra (λ k. and_then (p k) (λ x. pure (Some (make x)))) (Next M) (Exists (Next M))
  made_viable p make R some full is = (into_completable free extra (λ k. and_then (p k) (λ x. pure (Some (make x)))) _ (Next M) (some ++ []) (into_made make R is) (bind_completable free extra p _ R (λ x. IsNothing (Some (make x))) some [] full (λ x. pure_completable free extra (Some (make x))))).viable

  clause_viable : Viable free extra clause_member (Next M) (Exists (Next M))
  unfolding clause_member
  clause_viable = made_viable clause members.Clause IsClause (kind.Assign ∷ kind.Name ∷ kind.Semicolon ∷ []) (clause_completable free extra) (λ c k rest is. is_clause c refl is)

  member_by_viable : (o : Option Kind) → Viable free extra (member_by (suc depth) o) (Next M) (Exists (Next M))
  unfolding c_member foreign_member option_member entry_member exit_member when_member declared_member
  member_by_viable (Some kind.CloseBrace) = (into_completable free extra (pure None) (IsNothing None) (Next M) [] (none_next M) (pure_completable free extra None)).viable
  member_by_viable (Some kind.Semicolon) = (word_completable free extra kind.Semicolon (Some members.Empty) (Next M) (λ k rest f. is_empty refl f)).viable
  member_by_viable (Some kind.CCode) = made_viable (expect kind.CCode) members.CBlock (Leaf kind.CCode) (kind.CCode ∷ []) (expect_completable free extra kind.CCode) (λ n k rest e. is_c_block n refl e)
  member_by_viable (Some kind.Foreign) = made_viable foreign members.Foreign AreForeign (kind.Foreign ∷ kind.Name ∷ kind.Semicolon ∷ []) (foreign_completable free extra) (λ ns k rest is. is_foreign ns refl is)
  member_by_viable (Some kind.Option) = made_viable option_line members.OptionLine IsOptionLine (kind.Option ∷ kind.Plus ∷ kind.Name ∷ kind.Semicolon ∷ []) (option_line_completable free extra) (λ o k rest is. is_option o refl is)
  member_by_viable (Some kind.Assign) = clause_viable
  member_by_viable (Some kind.Monitor) = clause_viable
  member_by_viable (Some kind.Sync) = clause_viable
  member_by_viable (Some kind.Syncq) = clause_viable
  member_by_viable (Some kind.SyncqCapital) = clause_viable
  member_by_viable (Some kind.Entry) = made_viable (entry_block (block (suc depth))) members.Entry (IsBlockAfter kind.Entry Block) (kind.Entry ∷ Braces) (entry_block_completable free extra Block (block (suc depth)) Braces (block_within_completable free extra (suc depth))) (λ b k rest is. is_entry b refl is)
  member_by_viable (Some kind.Exit) = made_viable (exit_block (block (suc depth))) members.Exit (IsBlockAfter kind.Exit Block) (kind.Exit ∷ Braces) (exit_block_completable free extra Block (block (suc depth)) Braces (block_within_completable free extra (suc depth))) (λ b k rest is. is_exit b refl is)
  member_by_viable (Some kind.When) = made_viable (transition (suc depth)) members.When (IsTransition Inside Block) _ transition_completable (λ t k rest is. is_transition t refl is)
  member_by_viable _ = made_viable (declaration (suc depth)) members.Declaration (IsDeclaration free extra (suc depth)) (kind.Int ∷ kind.Name ∷ kind.Semicolon ∷ []) (declaration_completable free extra (suc depth)) (λ d k rest is. is_declaration d refl is)

  member_viable : Viable free extra (next_member (suc depth)) (Next M) (Exists (Next M))
  unfolding next_member
  member_viable = choice_viable free extra (member_by (suc depth)) (Next M) (Exists (Next M)) member_by_viable

  members_completable : Completable free extra (many (next_member (suc depth)) []) (Each M) []
  members_completable = into_completable free extra (many (next_member (suc depth)) []) (Lists M []) (Each M) [] (lists_each M) (many_completable free extra M (next_member (suc depth)) member_viable [])

  -- what comes after `state NAME`
  abbrev pub AreStateMembers : List StateMember → List NumberedKind → List NumberedKind → Type 0
  AreStateMembers ms k rest = (m3 : List NumberedKind) × (m4 : List NumberedKind) × First kind.OpenBrace k m3 × Each M ms m3 m4 × First kind.CloseBrace m4 rest

  into_members : (y : List StateMember) (k rest : List NumberedKind) → Both (Leaf kind.OpenBrace) (λ _. Both (Each M) (λ ms. Both (Leaf kind.CloseBrace) (λ _. IsNothing ms))) y k rest → AreStateMembers y k rest
  into_members y k rest (both i m1 w1 (both ms m2 w2 (both j m3 w3 h))) = subst (λ z. AreStateMembers z k rest) h.0 (m1, m2, (i, w1), w2, first_then kind.CloseBrace j m2 m3 rest w3 h.1)

  pub state_members_completable : Completable free extra (state_members (suc depth)) AreStateMembers Braces
  unfolding state_members
  state_members_completable =
      into_completable free extra (state_members (suc depth)) _ AreStateMembers Braces into_members
      (bind_completable free extra (expect kind.OpenBrace) _ (Leaf kind.OpenBrace) (λ _. Both (Each M) (λ ms. Both (Leaf kind.CloseBrace) (λ _. IsNothing ms))) (kind.OpenBrace ∷ []) (kind.CloseBrace ∷ []) (expect_completable free extra kind.OpenBrace) (λ _.
      bind_completable free extra (many (next_member (suc depth)) []) _ (Each M) (λ ms. Both (Leaf kind.CloseBrace) (λ _. IsNothing ms)) [] (kind.CloseBrace ∷ []) members_completable (λ ms.
      bind_completable free extra (expect kind.CloseBrace) _ (Leaf kind.CloseBrace) (λ _. IsNothing ms) (kind.CloseBrace ∷ []) [] (expect_completable free extra kind.CloseBrace) (λ _. pure_completable free extra ms))))
