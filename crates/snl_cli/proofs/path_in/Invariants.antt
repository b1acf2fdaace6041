use Rattle.std.proofs.Common.{◌≡◌, map, take}
use Rattle.std.specs.Prelude.{string_bytes}
use Rattle.snl_cli.proofs.path_in.Given as goal

-- the texts so far are those of the words
abbrev pub invariant-loop-word : goal.invariant-loop-word
invariant-loop-word l = map (λ t. t.now) l.texts.items ≡ map (λ w. string_bytes w) (take l.word-index l.words)
