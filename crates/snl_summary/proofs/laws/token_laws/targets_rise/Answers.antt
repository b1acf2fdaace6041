use Rattle.std.proofs.Common.{◌<◌, length, sym, subst}
use Rattle.std.proofs.lemmas.List.Elements.{All-from_recursion}
use Rattle.std.specs.List.{All}
use Rattle.std.specs.List.Sorted.{IsStrictlyIncreasing}
use Rattle.snl_walk.specs.Items.{occurrences}
use Rattle.snl_walk.specs.Tokens.{token_bytes}
use Rattle.snl_walk.specs.Uses.{is_target, targets}
use Rattle.snl_summary.proofs.SomeTokens.{all_where, rising_where, tokens_mentioned}
use Rattle.snl_summary.proofs.laws.token_laws.targets_rise.Goals as goal

pub returns-clause-rise : goal.returns-clause-rise
returns-clause-rise c = λ text tokens t read.
    let found = occurrences (token_bytes text tokens) t in
    subst IsStrictlyIncreasing (sym (tokens_mentioned text tokens (targets found)))
    (rising_where (λ o. is_target o.what) found (c.tokens_rise.ensures.rise (token_bytes text tokens) text tokens t read))

pub returns-clause-own : goal.returns-clause-own
returns-clause-own c = λ text tokens t read.
    let found = occurrences (token_bytes text tokens) t in
    subst (All (λ n. n < length tokens)) (sym (tokens_mentioned text tokens (targets found)))
    (All-from_recursion (λ n. n < length tokens) (targets found) (all_where (λ o. is_target o.what) (λ n. n < length tokens) found (c.tokens_rise.ensures.own (token_bytes text tokens) text tokens t read)))
