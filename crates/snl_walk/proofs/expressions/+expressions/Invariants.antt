use Rattle.std.proofs.Common.{◌≡◌, ◌++◌, map, drop}
use Rattle.snl_walk.specs.Tokens.{token_bytes}
use Rattle.snl_walk.specs.Expressions.{names_in_tails, names_in_all, names_in_arguments, names_in_arms, names_in_links, names_in_targets, operand, tail_of}
use Rattle.snl_walk.specs.Scopes.{seen}
use Rattle.snl_walk.proofs.expressions.+expressions.Given as goal

-- in each loop: the names so far and those of the rest are those of all
abbrev pub invariant-add_suffixes-loop-suffix : goal.invariant-add_suffixes-loop-suffix
invariant-add_suffixes-loop-suffix l =
    l.found.items ++ map (seen (token_bytes l.source.text.now l.source.tokens.now) l.names l.in_condition) (names_in_tails l.call (map tail_of (drop l.suffix-index l.suffixes)))
    ≡ l.initial.found.items ++ map (seen (token_bytes l.source.text.now l.source.tokens.now) l.names l.in_condition) (names_in_tails l.initial.call (map tail_of l.suffixes))

abbrev pub invariant-add_arguments-loop-expr : goal.invariant-add_arguments-loop-expr
invariant-add_arguments-loop-expr l =
    l.found.items ++ map (seen (token_bytes l.source.text.now l.source.tokens.now) l.names l.in_condition) (names_in_arguments l.argument_of (map operand (drop l.expr-index l.exprs)))
    ≡ l.initial.found.items ++ map (seen (token_bytes l.source.text.now l.source.tokens.now) l.names l.in_condition) (names_in_arguments l.initial.argument_of (map operand l.exprs))

abbrev pub invariant-add_links-loop-link : goal.invariant-add_links-loop-link
invariant-add_links-loop-link l =
    l.found.items ++ map (seen (token_bytes l.source.text.now l.source.tokens.now) l.names l.in_condition) (names_in_links (map (λ link. (link.0, operand link.1)) (drop l.link-index l.links)))
    ≡ l.initial.found.items ++ map (seen (token_bytes l.source.text.now l.source.tokens.now) l.names l.in_condition) (names_in_links (map (λ link. (link.0, operand link.1)) l.links))

abbrev pub invariant-add_arms-loop-arm : goal.invariant-add_arms-loop-arm
invariant-add_arms-loop-arm l =
    l.found.items ++ map (seen (token_bytes l.source.text.now l.source.tokens.now) l.names l.in_condition) (names_in_arms (map (λ arm. (operand arm.0, operand arm.1)) (drop l.arm-index l.arms)))
    ≡ l.initial.found.items ++ map (seen (token_bytes l.source.text.now l.source.tokens.now) l.names l.in_condition) (names_in_arms (map (λ arm. (operand arm.0, operand arm.1)) l.arms))

abbrev pub invariant-add_targets-loop-target : goal.invariant-add_targets-loop-target
invariant-add_targets-loop-target l =
    l.found.items ++ map (seen (token_bytes l.source.text.now l.source.tokens.now) l.names l.in_condition) (names_in_targets (map (λ target. (operand target.0, target.1)) (drop l.target-index l.targets)))
    ≡ l.initial.found.items ++ map (seen (token_bytes l.source.text.now l.source.tokens.now) l.names l.in_condition) (names_in_targets (map (λ target. (operand target.0, target.1)) l.targets))

abbrev pub invariant-add_all-loop-expr : goal.invariant-add_all-loop-expr
invariant-add_all-loop-expr l =
    l.found.items ++ map (seen (token_bytes l.source.text.now l.source.tokens.now) l.names l.in_condition) (names_in_all (map operand (drop l.expr-index l.exprs)))
    ≡ l.initial.found.items ++ map (seen (token_bytes l.source.text.now l.source.tokens.now) l.names l.in_condition) (names_in_all (map operand l.exprs))
