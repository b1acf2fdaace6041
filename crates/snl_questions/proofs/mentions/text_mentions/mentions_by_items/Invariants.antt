use Rattle.std.proofs.Common.{◌≡◌}
use Rattle.snl_questions.specs.Mentions.{mentions_among}
use Rattle.snl_questions.proofs.mentions.text_mentions.mentions_by_items.Given as goal

-- the mentions in the items so far are collected
abbrev pub invariant-loop-number : goal.invariant-loop-number
invariant-loop-number l = l.mentions.items ≡ mentions_among l.items.text.now l.number
