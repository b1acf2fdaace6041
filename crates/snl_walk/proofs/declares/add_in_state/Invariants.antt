use Rattle.std.proofs.Common.{◌≡◌, ◌++◌, map, drop}
use Rattle.snl_walk.specs.Tokens.{token_bytes}
use Rattle.snl_walk.specs.Declares.{declare, is_event_flag}
use Rattle.std.specs.List.{list_any}
use Rattle.std.specs.Str.{bytes_eq}
use Rattle.snl_walk.proofs.declares.add_in_state.Given as goal

abbrev pub invariant-loop-declarator : goal.invariant-loop-declarator
invariant-loop-declarator l =
    l.declared.items ++ map (λ d. declare d.name (is_event_flag l.declaration.of.base) (list_any (bytes_eq ((token_bytes l.source.text.now l.source.tokens.now) d.name)) l.assigned)) (drop l.declarator-index l.declarator-items)
    ≡ l.initial.declared.items ++ map (λ d. declare d.name (is_event_flag l.declaration.of.base) (list_any (bytes_eq ((token_bytes l.source.text.now l.source.tokens.now) d.name)) l.assigned)) l.declarator-items
