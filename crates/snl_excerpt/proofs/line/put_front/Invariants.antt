use Rattle.std.proofs.Common.{◌≡◌, ◌+◌, ◌-◌, ◌*◌, ◌≤◌, ◌++◌, drop}
use Rattle.std.specs.Prelude.{encode_utf8_all}
use Rattle.snl_excerpt.specs.Glyphs.{text_width}
use Rattle.snl_excerpt.specs.Lines.{shown}
use Rattle.snl_excerpt.proofs.line.put_front.Given as goal

-- what was shown, and what is still to be shown, is all
abbrev pub invariant-loop-at : goal.invariant-loop-at
invariant-loop-at l = record {
  put : l.out.items ++ encode_utf8_all (shown (l.count - l.at) l.pen (drop l.at l.bytes)) ≡ l.initial.out.items ++ encode_utf8_all (shown l.count l.initial.pen l.bytes);
  column : l.pen.column + text_width (shown (l.count - l.at) l.pen (drop l.at l.bytes)) ≡ l.initial.pen.column + text_width (shown l.count l.initial.pen l.bytes);
  few : l.pen.column ≤ l.initial.pen.column + 24 * l.at;
}
