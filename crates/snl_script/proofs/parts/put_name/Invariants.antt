use Rattle.std.proofs.Common.{◌≡◌, ◌++◌, take}
use Rattle.std.specs.List.{flat_map}
use Rattle.snl_script.specs.Parts.{escaped}
use Rattle.snl_script.specs.Said.{Says}
use Rattle.snl_script.specs.Watched.{failed_of, inner_of}
use Rattle.snl_script.proofs.parts.put_name.Given as goal

-- the name's bytes so far were said
abbrev pub invariant-loop-byte : goal.invariant-loop-byte
invariant-loop-byte g l =
    let contents = g.W.Write.contents in
    record {
      said : Says (contents (inner_of l.initial.out)) (contents (inner_of l.out)) l.page (l.initial.page ++ flat_map escaped (take l.byte-index l.name));
      failed : failed_of l.out ≡ failed_of l.initial.out;
    }
