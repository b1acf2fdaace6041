use Rattle.std.proofs.Common.{◌≡◌, take}
use Rattle.std.specs.List.{fold}
use Rattle.snl_notes.specs.Near.{nearer, none_yet}
use Rattle.snl_notes.proofs.near.nearest_of.Given as goal

abbrev pub invariant-loop-kind : goal.invariant-loop-kind
invariant-loop-kind l = l.nearest ≡ fold (nearer l.name) (none_yet l.name) (take l.kind-index l.kinds)
