use Rattle.std.proofs.Common.{List, ap, subst}
use Rattle.snl_lex.specs.declared.kind.Kind.{Kind}
use Rattle.snl_expression.specs.declared.stop.Stop.{Stop}
use Rattle.snl_expression.specs.declared.stop.Stop.TheVariants as stops
use Rattle.snl_grammar.specs.Steps.{Outcome, Reader, and_then, pure}
use Rattle.snl_expression.specs.Reads.{Fails, Reads}
use Rattle.snl_expression.proofs.token_steps.beside.Goals as goal

-- what failed fails with anything after it
fails : {A B : Type 0} (kinds : List Kind) (s : Stop) (outcome : Outcome A) (f : A → Reader B) → Fails kinds s outcome → Fails kinds s (and_then outcome f)
unfolding and_then
fails kinds stops.OutOfMemory outcome f h = tt
fails kinds (stops.Here at) outcome f h = ap (λ o. and_then o f) h

pub returns-in-Ok : goal.returns-in-Ok
unfolding and_then
returns-in-Ok g c kinds outcome h = ap (λ o. and_then o (λ a. pure (c.args.held, a))) (subst (λ r. Reads kinds r outcome) c.in-Ok.is h)

pub returns-in-Err : goal.returns-in-Err
returns-in-Err g c kinds outcome h = fails kinds c.in-Err.stop outcome _ (subst (λ r. Reads kinds r outcome) c.in-Err.is h)
