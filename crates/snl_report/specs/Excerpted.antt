-- The excerpt of a place: its line, and the marks under it.
use Rattle.std.specs.Prelude.{ℕ, List, ◌++◌, codes, encode_utf8_all}
use Rattle.snl_excerpt.specs.Excerpts.{excerpt, marks_of, marks_text}
use Rattle.snl_excerpt.specs.Gutters.{blank_gutter, gutter}
use Rattle.snl_report.specs.declared.paint.Paint.{Paint}
use Rattle.snl_report.specs.declared.paint.Part.TheVariants.{Marks}
use Rattle.snl_report.specs.Paints.{off, on}

-- The shown line of a place, and the marks under it, which go on up to the end of the line: of a
-- place that has so many bytes of its line before it.
unfoldable pub excerpt_text : Paint → (text : List ℕ) → (place before line len : ℕ) → List ℕ
excerpt_text paint text place before line len =
    gutter line ++ (encode_utf8_all (excerpt text place before len) ++ (codes "\n"
    ++ (blank_gutter line ++ (on paint Marks ++ marks_text (marks_of text place before len)))))

-- What ends them.
unfoldable pub excerpt_end : Paint → List ℕ
excerpt_end paint = off paint ++ codes "\n"
