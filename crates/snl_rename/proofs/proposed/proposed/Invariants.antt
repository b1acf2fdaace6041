use Rattle.std.proofs.Common.{◌≡◌, map, take}
use Rattle.snl_alike.specs.Edits.{edits_of}
use Rattle.snl_rename.specs.Renaming.{edit_to}
use Rattle.snl_rename.proofs.proposed.proposed.Given as goal

-- the edits so far are those of the references so far
abbrev pub invariant-loop-reference : goal.invariant-loop-reference
invariant-loop-reference l =
    edits_of l.edits.items ≡ map (edit_to l.name) (take l.reference-index l.references)
