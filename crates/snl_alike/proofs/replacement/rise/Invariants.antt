use Rattle.std.proofs.Common.{drop}
use Rattle.snl_alike.specs.Edits.{Rise, edits_of}
use Rattle.snl_alike.proofs.replacement.rise.Given as goal

-- if the rest follow what there is so far, all follow one another
abbrev pub invariant-loop-replacement : goal.invariant-loop-replacement
invariant-loop-replacement l =
    Rise l.base l.end (edits_of (drop l.replacement-index l.replacements)) →
    Rise 0 l.end (edits_of l.replacements)
