use Rattle.std.proofs.lemmas.List.Elements.{All-from_recursion, recursion_from_All}
use Rattle.snl_walk.specs.Repeated.{IsApartFrom, IsNoRepetitionAt}
use Rattle.snl_walk.specs.Rules.{findings}
use Rattle.snl_walk.proofs.RulesHold.{no_repetitions}
use Rattle.snl_walk.proofs.laws.repeated_names_resolve.Goals as goal

pub returns : goal.returns
returns c = λ bytes outer misses found tokens apart.
    All-from_recursion (IsNoRepetitionAt tokens) (findings bytes outer misses found)
    (no_repetitions bytes outer misses found tokens (recursion_from_All (IsApartFrom tokens) found apart))
