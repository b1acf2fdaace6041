use Rattle.std.proofs.Common.{◌≡◌, ◌++◌, map, take}
use Rattle.snl_expected.specs.Kinds.{phrase_of}
use Rattle.snl_notes.proofs.words.add_kinds.Given as goal

abbrev pub invariant-loop-kind : goal.invariant-loop-kind
invariant-loop-kind l = map (λ p. p.now) l.phrases.items ≡ map (λ p. p.now) l.initial.phrases.items ++ map phrase_of (take l.kind-index l.kinds)
