use Rattle.std.proofs.Common.{◌≡◌, ◌++◌, [], length, map, take, vec_len}
use Rattle.snl_scope.specs.Claims.{Claimed}
use Rattle.snl_scope.specs.Clauses.{found_after}
use Rattle.snl_scope.specs.Names.{entries}
use Rattle.snl_scope.specs.Resolved.{linked}
use Rattle.snl_scope.proofs.Judging.{judged_after, links_after}
use Rattle.snl_scope.proofs.clauses.soundness.judge_all.Given as goal

-- the claims are those of the sound clauses so far, and the clauses so far are judged
abbrev pub invariant-loop-clause : goal.invariant-loop-clause
invariant-loop-clause l =
    let es = entries l.scopes in
    let cs = map linked l.clauses in
    let here = map linked (take l.clause-index l.clauses) in
    record {
      claimed : Claimed l.claims (judged_after es cs [] here);
      links : l.links.items ≡ links_after es cs [] here;
      counted : vec_len l.links ≡ length (judged_after es cs [] here);
      found : l.faults.items ≡ l.initial.faults.items ++ found_after es cs [] here;
    }
