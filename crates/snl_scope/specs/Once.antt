-- Findings of which no two are the same.
use Rattle.std.specs.Prelude.{◌≢◌, List}
use Rattle.std.specs.List.{AllPairs}
use Rattle.snl_scope.specs.declared.facts.LinkFault.{LinkFault}

-- No finding comes twice: no two have the same item, token and code.
abbrev pub AreFoundOnce : List LinkFault → Type 0
AreFoundOnce faults = AllPairs (λ a b. a ≢ b) faults
