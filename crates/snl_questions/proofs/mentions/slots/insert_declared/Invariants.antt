use Rattle.std.proofs.Common.{◌==◌, take}
use Rattle.std.specs.List.{list_any}
use Rattle.snl_questions.specs.Slots.{Gains}
use Rattle.snl_questions.proofs.mentions.slots.insert_declared.Given as goal

abbrev pub invariant-loop-declared : goal.invariant-loop-declared
invariant-loop-declared l =
    Gains (λ n. list_any (λ d. d.token == n) (take l.declared-index l.declares))
    l.initial.tokens l.tokens
