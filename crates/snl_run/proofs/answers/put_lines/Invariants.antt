use Rattle.std.proofs.Common.{◌≡◌, ◌++◌, take}
use Rattle.std.specs.List.{flat_map}
use Rattle.snl_run.specs.Answers.{line_text}
use Rattle.snl_script.specs.Said.{Says}
use Rattle.snl_script.specs.Watched.{failed_of, inner_of}
use Rattle.snl_run.proofs.answers.put_lines.Given as goal

-- the lines so far were said
abbrev pub invariant-loop-diagnostic : goal.invariant-loop-diagnostic
invariant-loop-diagnostic g l =
    let contents = g.W.Write.contents in
    record {
      said : Says (contents (inner_of l.initial.out)) (contents (inner_of l.out)) l.page (l.initial.page ++ flat_map (line_text l.text) (take l.diagnostic-index l.diagnostics));
      failed : failed_of l.out ≡ failed_of l.initial.out;
    }
