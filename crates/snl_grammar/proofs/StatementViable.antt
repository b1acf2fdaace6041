-- What readers of statements took is in the grammar, and where they fail, the tokens before can be
-- completed.
use Rattle.std.proofs.Common.{◌≡◌, ◌<◌, ℕ, zero, suc, Bool, true, false, cond, List, [], ◌∷◌, Option, Some, refl, arith}
use Rattle.snl_lex.specs.declared.kind.Kind.{Kind}
use Rattle.snl_lex.specs.declared.kind.Kind.TheVariants as kind
use Rattle.snl_grammar.specs.declared.tree.statement.Stmt.{Stmt}
use Rattle.snl_grammar.specs.declared.tree.statement.Stmt.TheVariants as tree
use Rattle.snl_grammar.specs.Tokens.{NumberedKind}
use Rattle.snl_grammar.specs.Steps.{Reader, refuse, kind_at}
use Rattle.snl_grammar.specs.Grammar.Declarations.{IsDeclaration}
use Rattle.snl_grammar.specs.Grammar.Statements.{Place, within_block, may_be_block, may_be_choice, empty as is_empty, block as is_block, IsStatement, IsBlockWithin}
use Rattle.snl_grammar.specs.Reading.Declarations.{declaration}
use Rattle.snl_grammar.specs.Reading.Statements.{block_statement, choice, stmt_by, stmt_of, stmt, block}
use Rattle.snl_grammar.proofs.Viable.{Makes, Viable, Completable, Exists, choice_viable, refuse_viable}
use Rattle.snl_grammar.proofs.DeclarationViable.{declaration_completable}
use Rattle.snl_grammar.proofs.BeforeViable.{Semi}
use Rattle.snl_grammar.proofs.Shuts.{Shut, viable_shut, choice_shut, same_completable, refuse_shut}
use Rattle.snl_grammar.proofs.SimpleViable.{S, empty_completable, code_completable, into_break, into_continue, jump_completable, change_completable, return_completable, evaluation_completable, block_of_completable, block_statement_completable}
use Rattle.snl_grammar.proofs.LoopViable.{allowed, all_allowed, completable_inner, while_completable, while_shut, for_completable, for_shut}
use Rattle.snl_grammar.proofs.ChoiceViable.{choice_completable, choice_is_shut}

-- ---- a statement in a place

module _ (free extra depth : ℕ) (Inner : Place → Bool → Stmt → List NumberedKind → List NumberedKind → Type 0) (D : List Kind) (declares : Completable free extra (declaration depth) (IsDeclaration free extra depth) D) (inner : Reader Stmt) (at : Place → Reader Stmt) (same : (p : Place) (k : List NumberedKind) → allowed p (kind_at k) ≡ true → inner k ≡ at p k) (full : (p : Place) → Completable free extra (at p) (Inner p false) Semi) (shut : (p : Place) → Shut (at p) (Inner p true)) where
  abbrev T : Place → Bool → Stmt → List NumberedKind → List NumberedKind → Type 0
  T = S free extra depth Inner

  module _ (place : Place) where
    none_viable : (closed : Bool) → Viable free extra refuse (T place closed) (Exists (T place closed))
    none_viable closed = refuse_viable free extra (T place closed) (Exists (T place closed)) Semi (empty_completable free extra depth Inner place closed).makes

    block_completable : (closed : Bool) → may_be_block place ≡ true → Completable free extra (block_statement depth inner) (T place closed) (kind.OpenBrace ∷ kind.CloseBrace ∷ [])
    block_completable closed may = block_statement_completable free extra depth Inner D declares inner (completable_inner free extra depth Inner D declares inner at same full shut) (T place closed) (λ ts k rest b. is_block ts may refl b)

    by_block : (closed : Bool) (b : Bool) → may_be_block place ≡ b → Viable free extra (cond b (block_statement depth inner) refuse) (T place closed) (Exists (T place closed))
    by_block closed true e = (block_completable closed e).viable
    by_block closed false e = none_viable closed

    by_choice : (b : Bool) → may_be_choice place ≡ b → Viable free extra (cond b (choice depth inner) refuse) (T place false) (Exists (T place false))
    by_choice true e = (choice_completable free extra depth Inner D declares inner at same full shut place e).viable
    by_choice false e = none_viable false

    choice_shuts : (b : Bool) → may_be_choice place ≡ b → Shut (cond b (choice depth inner) refuse) (T place true)
    choice_shuts true e = choice_is_shut free extra depth Inner D declares inner at same full shut place e
    choice_shuts false e = viable_shut free extra refuse (T place true) (Exists (T place true)) (none_viable true)

    abbrev admitted : Option Kind → Reader Stmt
    admitted o = cond (allowed place o) (stmt_by depth inner (suc depth) o) refuse

    admitted_viable : (o : Option Kind) → Viable free extra (admitted o) (T place false) (Exists (T place false))
    unfolding stmt_by
    admitted_viable (Some kind.OpenBrace) = by_block false (may_be_block place) refl
    admitted_viable (Some kind.If) = by_choice (may_be_choice place) refl
    admitted_viable (Some kind.While) = (while_completable free extra depth Inner D declares inner at same full shut place).viable
    admitted_viable (Some kind.For) = (for_completable free extra depth Inner D declares inner at same full shut place).viable
    admitted_viable (Some kind.Semicolon) = (empty_completable free extra depth Inner place false).viable
    admitted_viable (Some kind.CCode) = (code_completable free extra depth Inner place false).viable
    admitted_viable (Some kind.Break) = (jump_completable free extra depth Inner place false kind.Break tree.Break (into_break free extra depth Inner place false)).viable
    admitted_viable (Some kind.Continue) = (jump_completable free extra depth Inner place false kind.Continue tree.Continue (into_continue free extra depth Inner place false)).viable
    admitted_viable (Some kind.Return) = (return_completable free extra depth Inner place false).viable
    admitted_viable (Some kind.State) = (change_completable free extra depth Inner place false).viable
    admitted_viable _ = (evaluation_completable free extra depth Inner place false).viable

    abbrev shuts_at : (p : Reader Stmt) → Viable free extra p (T place true) (Exists (T place true)) → Shut p (T place true)
    shuts_at p v = viable_shut free extra p (T place true) (Exists (T place true)) v

    admitted_shut : (o : Option Kind) → Shut (admitted o) (T place true)
    unfolding stmt_by
    admitted_shut (Some kind.OpenBrace) = shuts_at _ (by_block true (may_be_block place) refl)
    admitted_shut (Some kind.If) = choice_shuts (may_be_choice place) refl
    admitted_shut (Some kind.While) = while_shut free extra depth Inner D declares inner at same full shut place
    admitted_shut (Some kind.For) = for_shut free extra depth Inner D declares inner at same full shut place
    admitted_shut (Some kind.Semicolon) = shuts_at _ (empty_completable free extra depth Inner place true).viable
    admitted_shut (Some kind.CCode) = shuts_at _ (code_completable free extra depth Inner place true).viable
    admitted_shut (Some kind.Break) = shuts_at _ (jump_completable free extra depth Inner place true kind.Break tree.Break (into_break free extra depth Inner place true)).viable
    admitted_shut (Some kind.Continue) = shuts_at _ (jump_completable free extra depth Inner place true kind.Continue tree.Continue (into_continue free extra depth Inner place true)).viable
    admitted_shut (Some kind.Return) = shuts_at _ (return_completable free extra depth Inner place true).viable
    admitted_shut (Some kind.State) = shuts_at _ (change_completable free extra depth Inner place true).viable
    admitted_shut _ = shuts_at _ (evaluation_completable free extra depth Inner place true).viable

    of_completable : Completable free extra (λ k. admitted (kind_at k) k) (T place false) Semi
    of_completable = record { viable = choice_viable free extra admitted (T place false) (Exists (T place false)) admitted_viable; makes = (empty_completable free extra depth Inner place false).makes }

    of_shut : Shut (λ k. admitted (kind_at k) k) (T place true)
    of_shut = choice_shut admitted (T place true) admitted_shut

-- ---- in so many levels

abbrev pub at_place : ℕ → Place → Reader Stmt
at_place zero p = refuse
at_place (suc depth) p = λ k. cond (allowed p (kind_at k)) (stmt_by depth (stmt depth) (suc depth) (kind_at k)) refuse k

pub same_place : (depth : ℕ) (p : Place) (k : List NumberedKind) → allowed p (kind_at k) ≡ true → stmt depth k ≡ at_place depth p k
unfolding stmt stmt_of
same_place zero p k h = refl
same_place (suc depth) p k h = rw h refl

nothing_below : 0 < 0 → ⊥
nothing_below h = omega (arith, h)

abbrev Declaring : List Kind
Declaring = kind.Int ∷ kind.Name ∷ kind.Semicolon ∷ []

place_laws : (free extra depth : ℕ) (p : Place) → Completable free extra (at_place depth p) (IsStatement free extra depth p false) Semi × Shut (at_place depth p) (IsStatement free extra depth p true)
place_laws free extra (suc depth) p =
    let full : (q : Place) → Completable free extra (at_place depth q) (IsStatement free extra depth q false) Semi = λ q. (place_laws free extra depth q).0 in
    let shut : (q : Place) → Shut (at_place depth q) (IsStatement free extra depth q true) = λ q. (place_laws free extra depth q).1 in (
      of_completable free extra depth (IsStatement free extra depth) Declaring (declaration_completable free extra depth) (stmt depth) (at_place depth) (same_place depth) full shut p,
      of_shut free extra depth (IsStatement free extra depth) Declaring (declaration_completable free extra depth) (stmt depth) (at_place depth) (same_place depth) full shut p,
    )
place_laws free zero zero p = (
  record { viable = refuse_viable free 0 (IsStatement free 0 0 p false) (Exists (IsStatement free 0 0 p false)) Semi (λ n rest room. absurd (nothing_below room.0)); makes = λ n rest room. absurd (nothing_below room.0) },
  refuse_shut (IsStatement free 0 0 p true),
)
place_laws free (suc extra) zero p =
    let makes : Makes free (suc extra) (Exists (IsStatement free (suc extra) 0 p false)) Semi = λ n rest room. (tree.Empty, (room.1, is_empty refl (n, refl))) in
    (record { viable = refuse_viable free (suc extra) (IsStatement free (suc extra) 0 p false) (Exists (IsStatement free (suc extra) 0 p false)) Semi makes; makes = makes }, refuse_shut (IsStatement free (suc extra) 0 p true))

pub stmt_completable : (free extra depth : ℕ) → Completable free extra (stmt depth) (IsStatement free extra depth within_block false) Semi
stmt_completable free extra depth = same_completable free extra (stmt depth) (at_place depth within_block) (IsStatement free extra depth within_block false) Semi (λ k. same_place depth within_block k (all_allowed (kind_at k))) (place_laws free extra depth within_block).0

abbrev Braces : List Kind
Braces = kind.OpenBrace ∷ kind.CloseBrace ∷ []

pub block_within_completable : (free extra depth : ℕ) → Completable free extra (block depth) (IsBlockWithin free extra depth) Braces
unfolding block
block_within_completable free extra (suc depth) = block_of_completable free extra depth (IsStatement free extra depth) Declaring (declaration_completable free extra depth) (stmt depth) (stmt_completable free extra depth)
block_within_completable free zero zero = record { viable = refuse_viable free 0 (IsBlockWithin free 0 0) (Exists (IsBlockWithin free 0 0)) Braces (λ n rest room. absurd (nothing_below room.0)); makes = λ n rest room. absurd (nothing_below room.0) }
block_within_completable free (suc extra) zero =
    let makes : Makes free (suc extra) (Exists (IsBlockWithin free (suc extra) 0)) Braces = λ n rest room. ([], (room.1, record { m1 = (kind.CloseBrace, suc n) ∷ rest; m2 = (kind.CloseBrace, suc n) ∷ rest; opening = (n, refl); members = refl; closing = (suc n, refl) })) in
    record { viable = refuse_viable free (suc extra) (IsBlockWithin free (suc extra) 0) (Exists (IsBlockWithin free (suc extra) 0)) Braces makes; makes = makes }
