use Rattle.std.proofs.Common.{◌≤◌, length, drop}
use Rattle.snl_walk.specs.Tokens.{token_bytes}
use Rattle.snl_questions.specs.Meanings.{meant_inside}
use Rattle.snl_questions.specs.Slots.{HasMeanings}
use Rattle.snl_questions.proofs.mentions.slots.meanings_inside.Given as goal

-- the rest is put in
abbrev pub invariant-loop-left : goal.invariant-loop-left
invariant-loop-left l = record {
  within : l.left ≤ length l.found;
  slots : HasMeanings (λ n. meant_inside l.linked.links.now.outlines l.linked.item
      (token_bytes l.source.text.now l.source.tokens.now n) (drop l.left l.found) n)
      (length l.source.tokens.now) l.slots.items;
}

abbrev pub decreases-loop-left : goal.decreases-loop-left
decreases-loop-left l = l.left
