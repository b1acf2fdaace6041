use Rattle.std.proofs.Common.{◌≡◌, ◌++◌, drop}
use Rattle.std.specs.List.{filter_map}
use Rattle.snl_kept.specs.Program.{item_tokens}
use Rattle.snl_questions.specs.Mentions.{reference_to}
use Rattle.snl_questions.proofs.mentions.references.add_references.Given as goal

-- the references so far and those of the rest are those of all
abbrev pub invariant-loop-mention : goal.invariant-loop-mention
invariant-loop-mention l =
    let refers = reference_to (item_tokens l.items.text.now) l.declared in
    l.references.items ++ filter_map refers (drop l.mention-index l.mentions)
    ≡ l.initial.references.items ++ filter_map refers l.mentions
