use Rattle.std.proofs.Common.{◌≡◌, ◌++◌, length, map, take}
use Rattle.std.specs.Prelude.{string_bytes}
use Rattle.snl_notes.specs.Words.{listed_from}
use Rattle.snl_notes.proofs.words.put_listed.Given as goal

abbrev pub invariant-loop-index : goal.invariant-loop-index
invariant-loop-index l = string_bytes l.out ≡ string_bytes l.initial.out ++ listed_from 0 (length l.phrases) (map (λ p. p.now) (take l.index l.phrases))
