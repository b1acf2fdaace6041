-- What expressions spell. Brackets are where the tree has a group: what a tree is at its place is
-- the grammar's matter.
use Rattle.std.specs.Prelude.{ℕ, List, ◌∷◌, ◌++◌, map}
use Rattle.snl_lex.specs.declared.kind.Kind.TheVariants as kind
use Rattle.snl_grammar.specs.declared.operator.Binary.{Binary}
use Rattle.snl_grammar.specs.declared.operator.Assignment.{Assignment}
use Rattle.snl_grammar.specs.declared.tree.expression.Prefix.{Prefix}
use Rattle.snl_grammar.specs.declared.tree.expression.Prefix.TheVariants as prefixes
use Rattle.snl_grammar.specs.declared.tree.expression.Suffix.{Suffix}
use Rattle.snl_grammar.specs.declared.tree.expression.Expr.{Expr}
use Rattle.snl_grammar.specs.declared.tree.expression.Expr.TheOpen.{Expr-F, Suffix-F}
use Rattle.snl_grammar.specs.declared.tree.expression.Expr.TheFolds.{fold-Expr, fold-Suffix}
use Rattle.snl_grammar.specs.Operators.{binary_kind, assignment_kind, sign_kind}
use Rattle.snl_grammar.specs.Spelling.Base.{Spelled, word, leaf, joined, commas, in_parens, in_brackets}
use Rattle.snl_grammar.specs.Spelling.Types.{spell_type_name}

-- TEXT { TEXT }
abbrev pub spell_texts : List ℕ → List Spelled
spell_texts texts = joined (map (leaf kind.Text) texts)

-- a sign, "sizeof" or "(" type stars ")"
abbrev pub spell_prefix : Prefix → List Spelled
spell_prefix (prefixes.Sign op) = word (sign_kind op)
spell_prefix prefixes.Sizeof = word kind.Sizeof
spell_prefix (prefixes.Cast name) = in_parens (spell_type_name name)

-- an operator and an operand
abbrev pub spell_link : Binary × List Spelled → List Spelled
spell_link link = word (binary_kind link.0) ++ link.1

-- "?" expr ":" or
abbrev pub spell_arm : List Spelled × List Spelled → List Spelled
spell_arm arm = word kind.Question ++ arm.0 ++ word kind.Colon ++ arm.1

-- prefix op
abbrev pub spell_target : List Spelled × Assignment → List Spelled
spell_target target = target.0 ++ word (assignment_kind target.1)

-- One level of a tree, with what each part spells in its place.
abbrev pub spell_suffix_step : Suffix-F (List Spelled) (List Spelled) → List Spelled
spell_suffix_step (Suffix-F.Subscript x) = in_brackets x
spell_suffix_step (Suffix-F.Call xs) = in_parens (commas xs)
spell_suffix_step (Suffix-F.Member name) = word kind.Dot ++ leaf kind.Name name
spell_suffix_step (Suffix-F.Arrow name) = word kind.Arrow ++ leaf kind.Name name
spell_suffix_step Suffix-F.Increment = word kind.PlusPlus
spell_suffix_step Suffix-F.Decrement = word kind.MinusMinus

abbrev pub spell_expr_step : Expr-F (List Spelled) (List Spelled) → List Spelled
spell_expr_step (Expr-F.Name n) = leaf kind.Name n
spell_expr_step (Expr-F.Integer n) = leaf kind.Integer n
spell_expr_step (Expr-F.Floating n) = leaf kind.Floating n
spell_expr_step (Expr-F.Character n) = leaf kind.Character n
spell_expr_step (Expr-F.Text texts) = spell_texts texts
spell_expr_step (Expr-F.Group x) = in_parens x
spell_expr_step (Expr-F.SizeofType name) = word kind.Sizeof ++ in_parens (spell_type_name name)
spell_expr_step (Expr-F.Postfix x suffixes) = x ++ joined suffixes
spell_expr_step (Expr-F.Prefixed ops x) = joined (map spell_prefix ops) ++ x
spell_expr_step (Expr-F.Chain x links) = x ++ joined (map spell_link links)
spell_expr_step (Expr-F.Conditional x arms) = x ++ joined (map spell_arm arms)
spell_expr_step (Expr-F.Assigned targets x) = joined (map spell_target targets) ++ x
spell_expr_step (Expr-F.Sequence x xs) = commas (x ∷ xs)

abbrev pub spell_expr : Expr → List Spelled
spell_expr = fold-Expr (List Spelled) (List Spelled) spell_expr_step spell_suffix_step

abbrev pub spell_suffix : Suffix → List Spelled
spell_suffix = fold-Suffix (List Spelled) (List Spelled) spell_expr_step spell_suffix_step
