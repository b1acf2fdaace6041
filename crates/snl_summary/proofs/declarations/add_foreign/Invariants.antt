use Rattle.std.proofs.Common.{◌≡◌, ◌++◌, drop}
use Rattle.snl_summary.specs.Summaries.Declares.{declared_by_foreign}
use Rattle.snl_summary.proofs.declarations.add_foreign.Given as goal

-- what is declared so far and by the rest is what all declare
abbrev pub invariant-loop-name : goal.invariant-loop-name
invariant-loop-name l =
    l.declared.items ++ declared_by_foreign l.source.text.now l.source.tokens.now (drop l.name-index l.names)
    ≡ l.initial.declared.items ++ declared_by_foreign l.source.text.now l.source.tokens.now l.names
