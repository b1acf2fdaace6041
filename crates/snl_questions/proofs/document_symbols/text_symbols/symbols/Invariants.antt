use Rattle.std.proofs.Common.{◌≡◌}
use Rattle.snl_questions.specs.Items.{tokens_by_item}
use Rattle.snl_questions.specs.Symbols.{symbols_before}
use Rattle.snl_questions.proofs.document_symbols.text_symbols.symbols.Given as goal

-- the symbols of the items so far are collected
abbrev pub invariant-loop-item : goal.invariant-loop-item
invariant-loop-item l =
    l.symbols.items ≡ symbols_before (tokens_by_item l.items) l.lists.links.outlines l.item
