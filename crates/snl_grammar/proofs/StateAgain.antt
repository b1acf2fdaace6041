-- States of the grammar are read again.
use Rattle.std.proofs.Common.{◌≡◌, ℕ, suc, ◌-◌, true, false, List, [], Option, Some, None, refl, sym, ap, subst}
use Rattle.snl_lex.specs.declared.kind.Kind.{Kind}
use Rattle.snl_lex.specs.declared.kind.Kind.TheVariants as kind
use Rattle.snl_grammar.specs.declared.tree.expression.Expr.{Expr}
use Rattle.snl_grammar.specs.declared.tree.clause.Clause.{Clause}
use Rattle.snl_grammar.specs.declared.tree.statement.Member.{Member}
use Rattle.snl_grammar.specs.declared.tree.state.Target.{Target}
use Rattle.snl_grammar.specs.declared.tree.state.Target.TheVariants as targets
use Rattle.snl_grammar.specs.declared.tree.state.Transition.{Transition}
use Rattle.snl_grammar.specs.declared.tree.state.StateMember.{StateMember}
use Rattle.snl_grammar.specs.declared.tree.state.StateMember.TheVariants as members
use Rattle.snl_grammar.specs.Tokens.{NumberedKind}
use Rattle.snl_grammar.specs.Steps.{Reader, and_then, pure, kind_at, expect, many}
use Rattle.snl_grammar.specs.Grammar.Base.{Each, First}
use Rattle.snl_grammar.specs.Grammar.Expressions.{IsExpr}
use Rattle.snl_grammar.specs.Grammar.Declarations.{IsDeclaration}
use Rattle.snl_grammar.specs.Grammar.Clauses.{IsClause, assign as is_assign, monitor as is_monitor, sync as is_sync, syncq as is_syncq}
use Rattle.snl_grammar.specs.Grammar.Statements.{IsBefore, IsBlockWithin}
use Rattle.snl_grammar.specs.Grammar.States.{IsBlockAfter, IsTarget, next as is_next, leave as is_leave, IsTransition, IsStateMember, declaration as is_declaration, foreign as is_foreign, clause as is_clause, option_line as is_option, empty as is_empty, c_block as is_c_block, entry as is_entry, exit as is_exit, transition as is_transition}
use Rattle.snl_grammar.specs.Reading.Types.{begins_type}
use Rattle.snl_grammar.specs.Reading.Expressions.{expr}
use Rattle.snl_grammar.specs.Reading.Declarations.{declaration}
use Rattle.snl_grammar.specs.Reading.Clauses.{foreign, option_line, clause, begins_clause}
use Rattle.snl_grammar.specs.Reading.Statements.{before_paren, block}
use Rattle.snl_grammar.specs.Reading.States.{entry_block, exit_block, next_state, target_by, target, transition, declared_member, entry_member, exit_member, when_member, foreign_member, clause_member, option_member, c_member, member_by, next_member, state_members}
use Rattle.snl_grammar.proofs.Depths.{one_less}
use Rattle.snl_grammar.proofs.Again.{ReadsBack, read, reads_back_at, reads_back_as, bind_reads_back, pure_reads_back, expect_reads_back, first_reads_back, kind_first, many_reads_back}
use Rattle.snl_grammar.proofs.TypeLaws.{word_reads_back}
use Rattle.snl_grammar.proofs.ClauseAgain.{foreign_reads_back, option_line_reads_back, clause_reads_back}
use Rattle.snl_grammar.proofs.DeclarationAgain.{declaration_again, declaration_begins}
use Rattle.snl_grammar.proofs.StatementAgain.{paren_again, block_within_again}
use Rattle.snl_grammar.proofs.StateLocal.{member_eats}

-- ---- blocks at entry and exit

module _ (free extra depth : ℕ) where
  pub entry_block_reads_back : (t : List Member) (k rest : List NumberedKind) → IsBlockAfter kind.Entry (IsBlockWithin free extra depth) t k rest → ReadsBack free (entry_block (block depth) k) t rest
  unfolding entry_block
  entry_block_reads_back t k rest is = bind_reads_back free (expect kind.Entry k) _ is.first.0 is.mid t rest (first_reads_back free kind.Entry k is.mid is.first) (block_within_again free extra depth t is.mid rest is.block)

  pub exit_block_reads_back : (t : List Member) (k rest : List NumberedKind) → IsBlockAfter kind.Exit (IsBlockWithin free extra depth) t k rest → ReadsBack free (exit_block (block depth) k) t rest
  unfolding exit_block
  exit_block_reads_back t k rest is = bind_reads_back free (expect kind.Exit k) _ is.first.0 is.mid t rest (first_reads_back free kind.Exit k is.mid is.first) (block_within_again free extra depth t is.mid rest is.block)

-- ---- transitions

target_reads_back : (free : ℕ) (t : Target) (k rest : List NumberedKind) → IsTarget t k rest → ReadsBack free (target k) t rest
unfolding target next_state
target_reads_back free t k rest (is_next n mid e f name) =
    reads_back_at free (target k) (target_by (Some kind.State) k) t rest (ap (λ o. target_by o k) (kind_first kind.State k mid f))
    (reads_back_as free (target_by (Some kind.State) k) (targets.State n) t rest (sym e)
    (bind_reads_back free (expect kind.State k) _ f.0 mid (targets.State n) rest (first_reads_back free kind.State k mid f)
    (bind_reads_back free (expect kind.Name mid) _ n rest (targets.State n) rest (expect_reads_back free kind.Name n mid rest name) (pure_reads_back free (targets.State n) rest))))
target_reads_back free t k rest (is_leave e f) =
    reads_back_at free (target k) (target_by (Some kind.Exit) k) t rest (ap (λ o. target_by o k) (kind_first kind.Exit k rest f))
    (reads_back_as free (target_by (Some kind.Exit) k) targets.Exit t rest (sym e) (word_reads_back free kind.Exit targets.Exit k rest f))

-- ---- members

-- a clause begins with one of its words
pub clause_first : (c : Clause) (k rest : List NumberedKind) → IsClause c k rest → begins_clause (kind_at k) ≡ true
clause_first c k rest (is_assign n x e is) = ap begins_clause (kind_first kind.Assign k is.m1 is.word)
clause_first c k rest (is_monitor n s e is) = ap begins_clause (kind_first kind.Monitor k is.m1 is.word)
clause_first c k rest (is_sync n s f e is) = ap begins_clause (kind_first kind.Sync k is.m1 is.word)
clause_first c k rest (is_syncq true n s f q e is) = ap begins_clause (kind_first kind.SyncqCapital k is.m1 is.word)
clause_first c k rest (is_syncq false n s f q e is) = ap begins_clause (kind_first kind.Syncq k is.m1 is.word)

clause_by : (depth : ℕ) (o : Option Kind) → begins_clause o ≡ true → member_by depth o ≡ clause_member
clause_by depth (Some kind.Assign) e = refl
clause_by depth (Some kind.Monitor) e = refl
clause_by depth (Some kind.Sync) e = refl
clause_by depth (Some kind.Syncq) e = refl
clause_by depth (Some kind.SyncqCapital) e = refl
clause_by depth _ e = absurd cc

declared_by : (depth : ℕ) (o : Option Kind) → begins_type o ≡ true → member_by depth o ≡ declared_member depth
declared_by depth (Some kind.CloseBrace) e = absurd cc
declared_by depth (Some kind.Semicolon) e = absurd cc
declared_by depth (Some kind.CCode) e = absurd cc
declared_by depth (Some kind.Foreign) e = absurd cc
declared_by depth (Some kind.Option) e = absurd cc
declared_by depth (Some kind.Assign) e = absurd cc
declared_by depth (Some kind.Monitor) e = absurd cc
declared_by depth (Some kind.Sync) e = absurd cc
declared_by depth (Some kind.Syncq) e = absurd cc
declared_by depth (Some kind.SyncqCapital) e = absurd cc
declared_by depth (Some kind.Entry) e = absurd cc
declared_by depth (Some kind.Exit) e = absurd cc
declared_by depth (Some kind.When) e = absurd cc
declared_by depth _ e = refl

module _ (free extra depth : ℕ) where
  abbrev Block : List Member → List NumberedKind → List NumberedKind → Type 0
  Block = IsBlockWithin free extra (suc depth)

  before_reads_back : (e : Option Expr) (k rest : List NumberedKind) → IsBefore kind.CloseParen (IsExpr free extra depth) e k rest → ReadsBack free (before_paren (expr (suc depth - 1)) k) e rest
  before_reads_back e k rest is = subst (λ i. ReadsBack free (before_paren (expr i) k) e rest) (sym (one_less depth)) (paren_again free extra depth e k rest is)

  transition_reads_back : (t : Transition) (k rest : List NumberedKind) → IsTransition (IsExpr free extra depth) Block t k rest → ReadsBack free (transition (suc depth) k) t rest
  unfolding transition
  transition_reads_back t k rest is =
      bind_reads_back free (expect kind.When k) _ is.word.0 is.m1 t rest (first_reads_back free kind.When k is.m1 is.word)
      (bind_reads_back free (expect kind.OpenParen is.m1) _ is.opening.0 is.m2 t rest (first_reads_back free kind.OpenParen is.m1 is.m2 is.opening)
      (bind_reads_back free (before_paren (expr (suc depth - 1)) is.m2) _ t.condition is.m3 t rest (before_reads_back t.condition is.m2 is.m3 is.condition)
      (bind_reads_back free (block (suc depth) is.m3) _ t.block is.m4 t rest (block_within_again free extra (suc depth) t.block is.m3 is.m4 is.block)
      (bind_reads_back free (target is.m4) _ t.target rest t rest (target_reads_back free t.target is.m4 rest is.target) (pure_reads_back free t rest)))))

  abbrev M : StateMember → List NumberedKind → List NumberedKind → Type 0
  M = IsStateMember (IsExpr free extra depth) (IsDeclaration free extra (suc depth)) Block

  -- a member that another reader reads
  made_reads_back : {A : Type 0} (p : Reader A) (make : A → StateMember) (x : A) (y : StateMember) (k m : List NumberedKind) → y ≡ make x → ReadsBack free (p k) x m → next_member (suc depth) k ≡ and_then (p k) (λ z. pure (Some (make z))) → ReadsBack free (next_member (suc depth) k) (Some y) m
  made_reads_back p make x y k m is c at =
      reads_back_at free (next_member (suc depth) k) _ (Some y) m at
      (reads_back_as free _ (Some (make x)) (Some y) m (ap (λ z. Some z) (sym is)) (bind_reads_back free (p k) _ x m (Some (make x)) m c (pure_reads_back free (Some (make x)) m)))

  by_first : (x : Kind) (k m : List NumberedKind) → First x k m → next_member (suc depth) k ≡ member_by (suc depth) (Some x) k
  unfolding next_member
  by_first x k m f = ap (λ o. member_by (suc depth) o k) (kind_first x k m f)

  by_clause : (k : List NumberedKind) → begins_clause (kind_at k) ≡ true → next_member (suc depth) k ≡ clause_member k
  unfolding next_member
  by_clause k e = ap (λ (p : Reader (Option StateMember)). p k) (clause_by (suc depth) (kind_at k) e)

  by_type : (k : List NumberedKind) → begins_type (kind_at k) ≡ true → next_member (suc depth) k ≡ declared_member (suc depth) k
  unfolding next_member
  by_type k e = ap (λ (p : Reader (Option StateMember)). p k) (declared_by (suc depth) (kind_at k) e)

  member_reads_back : (y : StateMember) (k m : List NumberedKind) → M y k m → ReadsBack free (next_member (suc depth) k) (Some y) m
  unfolding c_member foreign_member option_member clause_member entry_member exit_member when_member declared_member
  member_reads_back y k m (is_declaration d e is) = made_reads_back (declaration (suc depth)) members.Declaration d y k m e (declaration_again free extra (suc depth) d k m is) (by_type k (declaration_begins free extra (suc depth) d k m is))
  member_reads_back y k m (is_foreign ns e is) = made_reads_back foreign members.Foreign ns y k m e (foreign_reads_back free ns k m is) (by_first kind.Foreign k is.m1 is.word)
  member_reads_back y k m (is_clause c e is) = made_reads_back clause members.Clause c y k m e (clause_reads_back free c k m is) (by_clause k (clause_first c k m is))
  member_reads_back y k m (is_option o e is) = made_reads_back option_line members.OptionLine o y k m e (option_line_reads_back free o k m is) (by_first kind.Option k is.m1 is.word)
  member_reads_back y k m (is_empty e f) =
      reads_back_at free (next_member (suc depth) k) _ (Some y) m (by_first kind.Semicolon k m f)
      (reads_back_as free _ (Some members.Empty) (Some y) m (ap (λ z. Some z) (sym e)) (word_reads_back free kind.Semicolon (Some members.Empty) k m f))
  member_reads_back y k m (is_c_block n e leaf) = made_reads_back (expect kind.CCode) members.CBlock n y k m e (expect_reads_back free kind.CCode n k m leaf) (by_first kind.CCode k m (n, leaf))
  member_reads_back y k m (is_entry b e is) = made_reads_back (entry_block (block (suc depth))) members.Entry b y k m e (entry_block_reads_back free extra (suc depth) b k m is) (by_first kind.Entry k is.mid is.first)
  member_reads_back y k m (is_exit b e is) = made_reads_back (exit_block (block (suc depth))) members.Exit b y k m e (exit_block_reads_back free extra (suc depth) b k m is) (by_first kind.Exit k is.mid is.first)
  member_reads_back y k m (is_transition t e is) = made_reads_back (transition (suc depth)) members.When t y k m e (transition_reads_back t k m is) (by_first kind.When k is.m1 is.word)

  no_member : (k rest : List NumberedKind) → First kind.CloseBrace k rest → ReadsBack free (next_member (suc depth) k) None k
  no_member k rest f = read (by_first kind.CloseBrace k rest f)

  pub state_members_reads_back : (ms : List StateMember) (k m1 m2 rest : List NumberedKind) → First kind.OpenBrace k m1 → Each M ms m1 m2 → First kind.CloseBrace m2 rest → ReadsBack free (state_members (suc depth) k) ms rest
  unfolding state_members
  state_members_reads_back ms k m1 m2 rest o each c =
      bind_reads_back free (expect kind.OpenBrace k) _ o.0 m1 ms rest (first_reads_back free kind.OpenBrace k m1 o)
      (bind_reads_back free (many (next_member (suc depth)) [] m1) _ ms m2 ms rest (many_reads_back free (next_member (suc depth)) (member_eats (suc depth)) M (λ _. Unit {0}) (λ _ _ _ _. tt) (λ x k m is u. member_reads_back x k m is) [] ms m1 m2 each tt (no_member m2 rest c))
      (bind_reads_back free (expect kind.CloseBrace m2) _ c.0 rest ms rest (first_reads_back free kind.CloseBrace m2 rest c) (pure_reads_back free ms rest)))
