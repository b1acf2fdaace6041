use Rattle.std.proofs.Common.{◌≡◌, ◌++◌, take}
use Rattle.std.specs.List.{flat_map}
use Rattle.snl_script.specs.Said.{Says}
use Rattle.snl_script.specs.Watched.{failed_of, inner_of}
use Rattle.snl_script.proofs.page.Page.put_all.Given as goal

-- the pieces so far were said
abbrev pub invariant-loop-piece : goal.invariant-loop-piece
invariant-loop-piece g l =
    let contents = g.W.Write.contents in
    record {
      said : Says (contents (inner_of l.initial.out)) (contents (inner_of l.out)) l.self (l.initial.self ++ flat_map (λ piece. piece.now) (take l.piece-index l.pieces));
      failed : failed_of l.out ≡ failed_of l.initial.out;
    }
