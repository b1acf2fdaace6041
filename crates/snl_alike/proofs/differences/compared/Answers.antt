use Rattle.std.proofs.Common.{◌≡◌, rules}
use Rattle.snl_questions.specs.Mentions.{mentions_in}
use Rattle.snl_alike.specs.Moved.{edits_in}
use Rattle.snl_alike.proofs.Alike.{KeptAlike, alike_by}
use Rattle.snl_alike.proofs.differences.compared.Goals as goal

pub returns : goal.returns
returns c =
    let es = edits_in c.args.moves.now in
    let alike : KeptAlike es c.args.old_kept.now c.args.new_kept.now = record {
      kinds = search rules;
      ends = search rules;
      items = search rules;
    } in
    let meanings : mentions_in c.args.new.now ≡ mentions_in c.args.old.now = search rules in
    alike_by c.args.old.now c.args.new.now es c.args.old_kept.now c.args.new_kept.now c.requires.old
    c.requires.new alike meanings c.changed_answers.result
    (c.changed_answers.ensures c.args.old.now c.args.new.now c.requires.old c.requires.new)
