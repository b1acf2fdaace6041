use Rattle.std.proofs.Common.{◌≡◌, ◌++◌, map, take}
use Rattle.snl_expected.specs.Groups.{group_phrase}
use Rattle.snl_notes.proofs.words.add_groups.Given as goal

abbrev pub invariant-loop-group : goal.invariant-loop-group
invariant-loop-group l = map (λ p. p.now) l.phrases.items ≡ map (λ p. p.now) l.initial.phrases.items ++ map group_phrase (take l.group-index l.groups)
