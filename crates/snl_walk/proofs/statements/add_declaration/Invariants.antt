use Rattle.std.proofs.Common.{◌≡◌, ◌++◌, drop}
use Rattle.std.specs.List.{flat_map}
use Rattle.snl_walk.specs.Tokens.{token_bytes}
use Rattle.snl_walk.specs.Statements.{found_in_declarator}
use Rattle.snl_walk.specs.Declares.{is_event_flag}
use Rattle.snl_walk.proofs.statements.add_declaration.Given as goal

abbrev pub invariant-loop-declarator : goal.invariant-loop-declarator
invariant-loop-declarator l =
    l.found.items ++ flat_map (found_in_declarator (token_bytes l.source.text.now l.source.tokens.now) l.names (is_event_flag l.declaration.of.base) l.in_block) (drop l.declarator-index l.declarator-items)
    ≡ l.initial.found.items ++ flat_map (found_in_declarator (token_bytes l.source.text.now l.source.tokens.now) l.names (is_event_flag l.declaration.of.base) l.in_block) l.declarator-items
