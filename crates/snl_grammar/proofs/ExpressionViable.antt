-- What readers of expressions took is in the grammar, and where they fail, the tokens before can be
-- completed.
use Rattle.std.proofs.Common.{◌<◌, ℕ, zero, suc, List, [], ◌∷◌, ◌++◌, refl, arith}
use Rattle.snl_lex.specs.declared.kind.Kind.TheVariants as kind
use Rattle.snl_grammar.specs.declared.tree.types.TypeName.{TypeName}
use Rattle.snl_grammar.specs.declared.tree.expression.Expr.{Expr}
use Rattle.snl_grammar.specs.declared.tree.expression.Expr.TheVariants as tree
use Rattle.snl_grammar.specs.Tokens.{NumberedKind}
use Rattle.snl_grammar.specs.Grammar.Base.{Within}
use Rattle.snl_grammar.specs.Grammar.Types.{IsTypeName}
use Rattle.snl_grammar.specs.Grammar.Expressions.{integer, bare as bare_postfix, bare as bare_prefix, alone, IsTier, alone as lone, IsSingle, value, IsAssignx, IsExpr}
use Rattle.snl_grammar.specs.Reading.Types.{type_name}
use Rattle.snl_grammar.specs.Reading.Expressions.{type_within, assignx, expr}
use Rattle.snl_grammar.proofs.Viable.{Makes, Completable, Exists, numbered_kinds, refuse_viable, level_completable}
use Rattle.snl_grammar.proofs.TypeLaws.{type_name_completable}
use Rattle.snl_grammar.proofs.CommasViable.{Int}
use Rattle.snl_grammar.proofs.SuffixViable.{sequence_completable}
use Rattle.snl_grammar.proofs.SingleViable.{single_completable}

-- ---- in so many levels

pub names_completable : (free extra depth : ℕ) → Completable free extra (type_within depth) (Within free extra depth IsTypeName) (kind.Int ∷ [])
names_completable free extra depth = level_completable free extra depth type_name IsTypeName (kind.Int ∷ []) (type_name_completable free extra)

-- the shortest one, whatever is inside
one_number : (Inner : Expr → List NumberedKind → List NumberedKind → Type 0) (Names : TypeName → List NumberedKind → List NumberedKind → Type 0) (n : ℕ) (rest : List NumberedKind) (i : ℕ) → IsTier Inner Names i (tree.Integer n) (numbered_kinds n Int ++ rest) rest
one_number Inner Names n rest zero = bare_prefix (bare_postfix (integer n refl refl))
one_number Inner Names n rest (suc i) = alone (one_number Inner Names n rest i)

shortest : (Inner : Expr → List NumberedKind → List NumberedKind → Type 0) (Names : TypeName → List NumberedKind → List NumberedKind → Type 0) (n : ℕ) (rest : List NumberedKind) → IsSingle Inner Names (tree.Integer n) (numbered_kinds n Int ++ rest) rest
shortest Inner Names n rest = value (lone (one_number Inner Names n rest 10))

nothing_below : 0 < 0 → ⊥
nothing_below h = omega (arith, h)

pub assignx_completable : (free extra depth : ℕ) → Completable free extra (assignx depth) (IsAssignx free extra depth) Int
unfolding assignx
assignx_completable free extra (suc depth) = single_completable free extra (IsAssignx free extra depth) (Within free extra depth IsTypeName) (assignx depth) (type_within depth) (assignx_completable free extra depth) (names_completable free extra depth)
assignx_completable free zero zero = record { viable = refuse_viable free 0 (IsAssignx free 0 0) (Exists (IsAssignx free 0 0)) Int (λ n rest room. absurd (nothing_below room.0)); makes = λ n rest room. absurd (nothing_below room.0) }
assignx_completable free (suc extra) zero =
    let makes : Makes free (suc extra) (Exists (IsAssignx free (suc extra) 0)) Int = λ n rest room. (tree.Integer n, (room.1, shortest (IsAssignx free extra 0) (Within free extra 0 IsTypeName) n rest)) in
    record { viable = refuse_viable free (suc extra) (IsAssignx free (suc extra) 0) (Exists (IsAssignx free (suc extra) 0)) Int makes; makes = makes }

pub expr_completable : (free extra depth : ℕ) → Completable free extra (expr depth) (IsExpr free extra depth) Int
expr_completable free extra depth = sequence_completable free extra (IsAssignx free extra depth) (assignx depth) (assignx_completable free extra depth)
