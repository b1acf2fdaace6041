use Rattle.std.proofs.Common.{take}
use Rattle.std.specs.List.{flat_map}
use Rattle.snl_listing.specs.Parts.{word_text}
use Rattle.snl_listing.proofs.words.put_words.Given as goal

-- the words so far were put
abbrev pub invariant-loop-word : goal.invariant-loop-word
invariant-loop-word g l = g.S.Sink.Took l.initial.sink l.sink (flat_map word_text (take l.word-index l.words))
