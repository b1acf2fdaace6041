use Rattle.std.proofs.Common.{◌≡◌, ◌++◌, drop}
use Rattle.std.specs.List.{filter_map}
use Rattle.snl_questions.specs.Items.{tokens_by_item}
use Rattle.snl_questions.specs.Symbols.{declared_symbol}
use Rattle.snl_questions.proofs.document_symbols.linked_item.LinkedItem.add_declared.Given as goal

-- the symbols so far and those of the rest are those of all
abbrev pub invariant-loop-declared : goal.invariant-loop-declared
invariant-loop-declared l =
    let shown = declared_symbol (tokens_by_item l.self.items) l.self.links.now.outlines
    l.self.item l.is_symbol in
    l.symbols.items ++ filter_map shown (drop l.declared-index l.declares)
    ≡ l.initial.symbols.items ++ filter_map shown l.declares
