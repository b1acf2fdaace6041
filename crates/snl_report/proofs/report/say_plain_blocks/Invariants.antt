use Rattle.std.proofs.Common.{◌≡◌, ◌++◌, take}
use Rattle.std.specs.List.{flat_map}
use Rattle.snl_excerpt.specs.Columns.{IsCursor}
use Rattle.snl_report.specs.Reports.{plain_block}
use Rattle.snl_script.specs.Said.{Says}
use Rattle.snl_script.specs.Watched.{failed_of, inner_of}
use Rattle.snl_report.proofs.report.say_plain_blocks.Given as goal

-- the blocks so far were said
abbrev pub invariant-loop-diagnostic : goal.invariant-loop-diagnostic
invariant-loop-diagnostic g l =
    let contents = g.W.Write.contents in
    record {
      said : Says (contents (inner_of l.initial.out)) (contents (inner_of l.out)) l.page (l.initial.page ++ flat_map (plain_block l.reported.style l.reported.name.now l.reported.text.now) (take l.diagnostic-index l.diagnostics));
      cursor : IsCursor l.reported.text.now l.from;
      failed : failed_of l.out ≡ failed_of l.initial.out;
    }
