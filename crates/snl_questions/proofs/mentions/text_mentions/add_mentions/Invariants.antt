use Rattle.std.proofs.Common.{◌≡◌, ◌++◌}
use Rattle.snl_questions.specs.KeptItems.{mentioned_in_item}
use Rattle.snl_questions.specs.Mentions.{mentions_before}
use Rattle.snl_questions.proofs.mentions.text_mentions.add_mentions.Given as goal

-- the mentions at the tokens so far are added
abbrev pub invariant-loop-token : goal.invariant-loop-token
invariant-loop-token l = l.mentions.items ≡ l.initial.mentions.items
    ++ mentions_before l.item.linked.item (mentioned_in_item l.item) l.token
