-- An operand with nothing before it is read as any operand is.
use Rattle.std.proofs.Common.{◌≡◌, Bool, true, false, List, [], Option, Some, None, Ok, Err, length, refl, ap, ◌∙◌}
use Rattle.snl_lex.specs.declared.kind.Kind.{Kind}
use Rattle.snl_lex.specs.declared.kind.Kind.TheVariants as kind
use Rattle.snl_grammar.specs.declared.step.Step.{Step}
use Rattle.snl_grammar.specs.declared.step.Step.TheVariants as steps
use Rattle.snl_grammar.specs.declared.tree.expression.Expr.{Expr}
use Rattle.snl_grammar.specs.declared.tree.expression.Prefix.{Prefix}
use Rattle.snl_grammar.specs.declared.tree.types.TypeName.{TypeName}
use Rattle.snl_expression.specs.Operands.{is_before, postfix}
use Rattle.snl_grammar.specs.Reading.Expressions.{atom, next_suffix, plain, prefix, prefix_by, prefix_step, prefixed, suffixed}
use Rattle.snl_grammar.specs.Steps.{Outcome, Reader, again_or, and_then, kind_at, many, pure, until, until_within}
use Rattle.snl_grammar.specs.Tokens.{NumberedKind}

unfoldable pub operands : Unit {0}
unfolding and_then postfix
operands = tt

module _ (inner : Reader Expr) (names : Reader TypeName) where
  -- what else an operand begins with
  plain_by : (o : Option Kind) → is_before o ≡ false → prefix_by inner names o ≡ plain inner names
  unfolding prefix_by
  plain_by None h = refl
  plain_by (Some kind.Plus) h = absurd cc
  plain_by (Some kind.Minus) h = absurd cc
  plain_by (Some kind.Exclamation) h = absurd cc
  plain_by (Some kind.Tilde) h = absurd cc
  plain_by (Some kind.Star) h = absurd cc
  plain_by (Some kind.Ampersand) h = absurd cc
  plain_by (Some kind.PlusPlus) h = absurd cc
  plain_by (Some kind.MinusMinus) h = absurd cc
  plain_by (Some kind.Sizeof) h = absurd cc
  plain_by (Some kind.OpenParen) h = absurd cc
  plain_by (Some _) h = refl

  -- what is read, by how the first step reads
  by_step : Reader (Step Prefix Expr) → List NumberedKind → Outcome Expr
  by_step step k = and_then (and_then (step k) (again_or [] (until_within (prefix_step inner names) (length k)))) (λ r. λ rest. and_then (many (next_suffix inner names) [] rest) (λ ss. pure (prefixed r.0 (suffixed r.1 ss))))

  by_atom : (k : List NumberedKind) → by_step (plain inner names) k ≡ postfix inner names k
  unfolding by_step and_then plain postfix
  by_atom k = each (atom k)
    where
      each : (o : Outcome Expr) →
          and_then (and_then (and_then o (λ x. pure (steps.Last None x))) (again_or [] (until_within (prefix_step inner names) (length k)))) (λ r. λ rest. and_then (many (next_suffix inner names) [] rest) (λ ss. pure (prefixed r.0 (suffixed r.1 ss))))
          ≡ and_then o (λ x. λ rest. and_then (many (next_suffix inner names) [] rest) (λ ss. pure (suffixed x ss)))
      each (Ok p) = refl
      each (Err j) = refl

  pub prefix_plain : (k : List NumberedKind) → is_before (kind_at k) ≡ false → prefix inner names k ≡ postfix inner names k
  unfolding by_step prefix prefix_step until until_within and_then
  prefix_plain k h = ap (λ (step : Reader (Step Prefix Expr)). by_step step k) (plain_by (kind_at k) h) ∙ by_atom k
