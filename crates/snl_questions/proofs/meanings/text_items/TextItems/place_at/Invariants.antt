use Rattle.std.proofs.Common.{◌≡◌, drop}
use Rattle.snl_kept.specs.Program.{item_tokens}
use Rattle.snl_questions.specs.Meanings.{place_from}
use Rattle.snl_questions.proofs.meanings.text_items.TextItems.place_at.Given as goal

-- what is found in the items from here on is what is found in all
abbrev pub invariant-loop-item : goal.invariant-loop-item
invariant-loop-item l = place_from l.offset l.item
    (drop l.item (item_tokens l.self.text.now)) ≡ place_from l.offset 0
    (item_tokens l.self.text.now)
