use Rattle.std.proofs.Common.{◌≡◌, ◌++◌, flat_map, take}
use Rattle.snl_questions.specs.Hover.{after_comma, waker_name}
use Rattle.snl_questions.proofs.hovers.states.put_others.Given as goal

abbrev pub invariant-loop-waker : goal.invariant-loop-waker
invariant-loop-waker l =
    l.out.items ≡ l.initial.out.items
    ++ flat_map (λ waker. after_comma (waker_name l.text l.tables waker))
    (take l.waker-index l.others)
