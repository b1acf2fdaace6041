use Rattle.std.proofs.Common.{◌≡◌, ◌<◌, ℕ, true}
use Rattle.snl_scope.specs.Places.{stands_in}
use Rattle.snl_questions.proofs.document_symbols.linked_item.LinkedItem.last_within.Given as goal

-- the items so far are in the set
abbrev pub invariant-loop-next : goal.invariant-loop-next
invariant-loop-next l = (j : ℕ) → l.self.item < j → j < l.next →
    stands_in l.self.links.now.outlines l.self.item j ≡ true
