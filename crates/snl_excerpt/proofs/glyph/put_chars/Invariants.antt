use Rattle.std.proofs.Common.{◌≡◌, ◌+◌, ◌*◌, ◌≤◌, ◌++◌, drop}
use Rattle.std.specs.Prelude.{encode_utf8_all}
use Rattle.snl_excerpt.specs.Glyphs.{text_width}
use Rattle.snl_excerpt.proofs.glyph.put_chars.Given as goal

abbrev pub invariant-loop-c : goal.invariant-loop-c
invariant-loop-c l = record {
  put : l.out.items ++ encode_utf8_all (drop l.c-index l.chars) ≡ l.initial.out.items ++ encode_utf8_all l.chars;
  column : l.after + text_width (drop l.c-index l.chars) ≡ l.column + text_width l.chars;
  few : l.after ≤ l.column + 3 * l.c-index;
}
