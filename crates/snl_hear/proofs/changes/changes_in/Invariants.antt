use Rattle.std.proofs.Common.{drop, map}
use Rattle.snl_hear.specs.Values.{seen_all}
use Rattle.snl_hear.specs.Changes.{changed_of, changes_in}
use Rattle.snl_hear.proofs.Arrays.{AreFirst}
use Rattle.snl_hear.proofs.changes.changes_in.Given as goal

abbrev pub invariant-loop-value : goal.invariant-loop-value
invariant-loop-value l =
    AreFirst (map changed_of l.changes.items) (drop l.value-index l.values)
    (changes_in (seen_all l.values))
