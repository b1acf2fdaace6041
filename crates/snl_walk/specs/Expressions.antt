-- The names in expressions and initialisers, in the order of the text, each with how it occurs.
use Rattle.std.specs.Prelude.{ℕ, Bool, true, false, ◌&&◌, List, [], ◌∷◌, ◌++◌, Option, Some, None, if◌then◌else◌}
use Rattle.snl_grammar.specs.declared.operator.Assignment.{Assignment}
use Rattle.snl_grammar.specs.declared.operator.Binary.{Binary}
use Rattle.snl_grammar.specs.declared.tree.declaration.Init.{Init}
use Rattle.snl_grammar.specs.declared.tree.declaration.Init.TheOpen.{Init-F}
use Rattle.snl_grammar.specs.declared.tree.declaration.Init.TheFolds.{fold-Init}
use Rattle.snl_grammar.specs.declared.tree.expression.Expr.{Expr}
use Rattle.snl_grammar.specs.declared.tree.expression.Expr.TheOpen.{Expr-F, Suffix-F}
use Rattle.snl_grammar.specs.declared.tree.expression.Expr.TheFolds.{fold-Expr, fold-Suffix}
use Rattle.snl_grammar.specs.declared.tree.expression.Suffix.{Suffix}
use Rattle.snl_walk.specs.declared.occurrence.Follows.{Follows}
use Rattle.snl_walk.specs.declared.occurrence.Follows.TheVariants as follows
use Rattle.snl_walk.specs.declared.occurrence.ExpressionName.{ExpressionName}
use Rattle.snl_walk.specs.declared.occurrence.Setting.{Setting}

-- What is found in an expression: the name that it is, if it is a name alone; whether it is an
-- integer alone; and the names in it, by how it occurs.
pub record Operand : Type 0 where
  pub name : Option ℕ
  pub is_integer : Bool
  pub names : Setting → List ExpressionName

-- What is found in a suffix: what it is to the operand before it, and the names in it, by the name
-- directly before it.
pub record Tail : Type 0 where
  pub follows : Follows
  pub is_subscript : Bool
  pub names : Option ℕ → List ExpressionName

-- Nothing follows, and it is no first argument.
abbrev pub plain : Setting
plain = record { follows = follows.Nothing; argument_of = None }

abbrev pub following : List Tail → Follows
following [] = follows.Nothing
following (tail ∷ tails) = tail.follows

abbrev pub are_subscripts : List Tail → Bool
are_subscripts [] = true
are_subscripts (tail ∷ tails) = tail.is_subscript && are_subscripts tails

-- An operand before suffixes. Where these are subscripts alone, it is the argument that the whole
-- is.
abbrev pub before : List Tail → Setting → Setting
before tails s = record { follows = following tails; argument_of = if are_subscripts tails then s.argument_of else None }

-- The names in suffixes: the first of them directly follows the operand's name.
abbrev pub names_in_tails : Option ℕ → List Tail → List ExpressionName
names_in_tails name [] = []
names_in_tails name (tail ∷ tails) = tail.names name ++ names_in_tails None tails

-- The arguments of a call: the first is that of the called name.
abbrev pub names_in_arguments : Option ℕ → List Operand → List ExpressionName
names_in_arguments call [] = []
names_in_arguments call (x ∷ xs) = x.names (record { follows = follows.Nothing; argument_of = call }) ++ names_in_arguments None xs

abbrev pub names_in_links : List (Binary × Operand) → List ExpressionName
names_in_links [] = []
names_in_links (link ∷ links) = link.1.names plain ++ names_in_links links

abbrev pub names_in_arms : List (Operand × Operand) → List ExpressionName
names_in_arms [] = []
names_in_arms (arm ∷ arms) = arm.0.names plain ++ arm.1.names plain ++ names_in_arms arms

abbrev pub names_in_targets : List (Operand × Assignment) → List ExpressionName
names_in_targets [] = []
names_in_targets (target ∷ targets) = target.0.names plain ++ names_in_targets targets

abbrev pub names_in_all : List Operand → List ExpressionName
names_in_all [] = []
names_in_all (x ∷ xs) = x.names plain ++ names_in_all xs

-- An expression that is more than a name or an integer.
abbrev pub naming : List ExpressionName → Operand
naming names = record { name = None; is_integer = false; names = λ s. names }

-- One level of a tree, with what is found in each part in its place.
abbrev pub expr_step : Expr-F Operand Tail → Operand
expr_step (Expr-F.Name n) = record { name = Some n; is_integer = false; names = λ s. record { token = n; setting = s } ∷ [] }
expr_step (Expr-F.Integer n) = record { name = None; is_integer = true; names = λ s. [] }
expr_step (Expr-F.Group x) = naming (x.names plain)
expr_step (Expr-F.Postfix x tails) = record { name = None; is_integer = false; names = λ s. x.names (before tails s) ++ names_in_tails x.name tails }
expr_step (Expr-F.Prefixed ops x) = naming (x.names plain)
expr_step (Expr-F.Chain x links) = naming (x.names plain ++ names_in_links links)
expr_step (Expr-F.Conditional x arms) = naming (x.names plain ++ names_in_arms arms)
expr_step (Expr-F.Assigned targets x) = naming (names_in_targets targets ++ x.names plain)
expr_step (Expr-F.Sequence x xs) = naming (x.names plain ++ names_in_all xs)
expr_step _ = naming []

-- What a subscript is, by whether it is an integer alone.
abbrev pub subscript_by : Bool → Follows
subscript_by true = follows.Index
subscript_by false = follows.Subscript

abbrev pub suffix_step : Suffix-F Operand Tail → Tail
suffix_step (Suffix-F.Subscript x) = record { follows = subscript_by x.is_integer; is_subscript = true; names = λ name. x.names plain }
suffix_step (Suffix-F.Call xs) = record { follows = follows.Call; is_subscript = false; names = λ name. names_in_arguments name xs }
suffix_step _ = record { follows = follows.Other; is_subscript = false; names = λ name. [] }

abbrev pub operand : Expr → Operand
operand = fold-Expr Operand Tail expr_step suffix_step

abbrev pub tail_of : Suffix → Tail
tail_of = fold-Suffix Operand Tail expr_step suffix_step

abbrev pub names_in_expr : Setting → Expr → List ExpressionName
names_in_expr s e = (operand e).names s

-- An expression that may be missing.
abbrev pub names_if : Option Expr → List ExpressionName
names_if None = []
names_if (Some e) = names_in_expr plain e

abbrev pub names_in_values : List (List ExpressionName) → List ExpressionName
names_in_values [] = []
names_in_values (value ∷ values) = value ++ names_in_values values

-- One level of an initialiser, with the names in each value in it in its place.
abbrev pub init_step : Init-F (List ExpressionName) → List ExpressionName
init_step (Init-F.Value e) = names_in_expr plain e
init_step (Init-F.List values trailing) = names_in_values values

abbrev pub names_in_init : Init → List ExpressionName
names_in_init = fold-Init (List ExpressionName) init_step

abbrev pub names_in_value : Option Init → List ExpressionName
names_in_value None = []
names_in_value (Some init) = names_in_init init
