use Rattle.std.proofs.Common.{◌≡◌, ◌++◌, ◌∷◌, flat_map, take}
use Rattle.snl_questions.specs.Hover.{channel_line}
use Rattle.snl_questions.proofs.hovers.channels.put_each.Given as goal

abbrev pub invariant-loop-number : goal.invariant-loop-number
invariant-loop-number l =
    l.out.items ≡ l.initial.out.items
    ++ flat_map (λ number. 10 ∷ channel_line l.text l.tables number)
    (take l.number-index l.channels)
