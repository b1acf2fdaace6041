use Rattle.std.proofs.Common.{◌≡◌, ◌≤◌, length, take, vec_capacity, vec_len}
use Rattle.snl_grammar.specs.Parsing.{kinds_in}
use Rattle.snl_notes.proofs.note.kinds_of.Given as goal

abbrev pub invariant-loop-piece : goal.invariant-loop-piece
invariant-loop-piece l = record {
  told : l.kinds.items ≡ kinds_in l.text (take l.piece-index l.tokens);
  many : vec_len l.kinds ≡ l.piece-index;
  room : length l.tokens ≤ vec_capacity l.kinds;
}
