use Rattle.std.proofs.Common.{take}
use Rattle.std.specs.List.{list_any}
use Rattle.snl_questions.specs.Meanings.{clause_names}
use Rattle.snl_questions.specs.Slots.{Gains}
use Rattle.snl_questions.proofs.mentions.slots.insert_clauses.Given as goal

abbrev pub invariant-loop-clause : goal.invariant-loop-clause
invariant-loop-clause l =
    Gains (λ n. list_any (clause_names n) (take l.clause-index l.clauses)) l.initial.tokens l.tokens
