use Rattle.std.proofs.Common.{sym, ◌∙◌}
use Rattle.snl_place.proofs.Walks.{lines_counted}
use Rattle.snl_place.proofs.laws.lines_agree.Goals as goal

pub returns : goal.returns
returns c = record {
  counted = lines_counted;
  agree = λ one other bytes. lines_counted one bytes ∙ sym (lines_counted other bytes);
}
