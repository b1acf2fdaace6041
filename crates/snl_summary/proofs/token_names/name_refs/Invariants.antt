use Rattle.std.proofs.Common.{◌≡◌, ◌++◌, map, drop}
use Rattle.snl_summary.specs.Summaries.Tokens.{name_ref_at}
use Rattle.snl_summary.proofs.token_names.name_refs.Given as goal

abbrev pub invariant-loop-number : goal.invariant-loop-number
invariant-loop-number l =
    l.name_refs.items ++ map (name_ref_at l.source.text.now l.source.tokens.now) (drop l.number-index l.numbers)
    ≡ map (name_ref_at l.source.text.now l.source.tokens.now) l.numbers
