use Rattle.std.proofs.Common.{◌≡◌, drop}
use Rattle.snl_hear.specs.Values.{seen_all}
use Rattle.snl_hear.specs.Requests.{offers_utf_8}
use Rattle.snl_hear.proofs.requests.offers_utf_8.Given as goal

abbrev pub invariant-loop-value : goal.invariant-loop-value
invariant-loop-value l =
    offers_utf_8 (seen_all (drop l.value-index l.offered)) ≡ offers_utf_8 (seen_all l.offered)
