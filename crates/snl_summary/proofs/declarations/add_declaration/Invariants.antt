use Rattle.std.proofs.Common.{◌≡◌, ◌++◌, drop, map}
use Rattle.snl_summary.specs.Summaries.Declares.{declared_by_declarator}
use Rattle.snl_summary.proofs.declarations.add_declaration.Given as goal

-- what is declared so far and by the rest is what all declare
abbrev pub invariant-loop-declarator : goal.invariant-loop-declarator
invariant-loop-declarator l =
    l.declared.items ++ map (declared_by_declarator l.source.text.now l.source.tokens.now l.symbol_kind) (drop l.declarator-index l.declarator-items)
    ≡ l.initial.declared.items ++ map (declared_by_declarator l.source.text.now l.source.tokens.now l.symbol_kind) l.declarator-items
