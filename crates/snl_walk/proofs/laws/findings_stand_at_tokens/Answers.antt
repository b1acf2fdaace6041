use Rattle.std.proofs.Common.{◌<◌, length}
use Rattle.std.proofs.lemmas.List.Elements.{All-from_recursion, recursion_from_All}
use Rattle.snl_grammar.specs.Parsing.{kinds_in}
use Rattle.snl_walk.specs.declared.rules.Finding.{Finding}
use Rattle.snl_walk.specs.Items.{occurrences, tokens_of}
use Rattle.snl_walk.specs.Rules.{findings}
use Rattle.snl_walk.proofs.FindingsOnce.{findings_stand}
use Rattle.snl_walk.proofs.ItemLeaves.{stand_in}
use Rattle.snl_walk.proofs.laws.findings_stand_at_tokens.Goals as goal

pub returns : goal.returns
returns c = λ bytes outer misses text tokens tree read.
    let is = c.item_read.ensures.told (kinds_in text tokens) tree read in
    let spelled = c.item_spelled.ensures.spelled tree (kinds_in text tokens) is in
    let found = occurrences bytes tree in
    All-from_recursion (λ (f : Finding). f.token < length tokens) (findings bytes outer misses found)
    (findings_stand bytes outer misses (λ n. n < length tokens) found (recursion_from_All (λ n. n < length tokens) (tokens_of found) (stand_in bytes text tokens tree spelled)))
