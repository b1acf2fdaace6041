-- The note after the block of a finding.
use Rattle.std.specs.Prelude.{ℕ, List, [], ◌++◌, Option, Some, None, if◌then◌else◌, codes, length, min}
use Rattle.snl_excerpt.specs.Columns.{bytes_before, column_after}
use Rattle.snl_lex.specs.declared.lines.Line.{Line}
use Rattle.snl_lex.specs.Lines.{line_at}
use Rattle.snl_report.specs.declared.paint.Paint.{Paint}
use Rattle.snl_report.specs.declared.paint.Part.TheVariants as kind
use Rattle.snl_report.specs.declared.paint.Part.TheVariants.{Place}
use Rattle.snl_report.specs.Excerpted.{excerpt_end, excerpt_text}
use Rattle.snl_report.specs.Heads.{name_shown, place_text}
use Rattle.snl_report.specs.Noted.{NoteSaid}
use Rattle.snl_report.specs.Paints.{off, on}

-- `note: `.
unfoldable pub note_word : Paint → List ℕ
note_word paint = on paint kind.Note ++ (codes "note: " ++ off paint)

-- `NAME:LINE:COLUMN: note: WORDS`.
unfoldable pub note_head : Paint → (name text : List ℕ) → Line → (column : ℕ) → List ℕ → List ℕ
note_head paint name text line column words =
    on paint Place ++ (name_shown name text line.file
    ++ (place_text line.number column ++ (off paint
    ++ (note_word paint ++ (words ++ codes "\n")))))

-- The note at a place that has so many bytes of its line before it.
unfoldable pub note_at : Paint → (name text : List ℕ) → (place before : ℕ) → Line → NoteSaid → List ℕ
note_at paint name text place before line r =
    note_head paint name text line (column_after before) r.words
    ++ (excerpt_text paint text place before line.number r.span.len ++ excerpt_end paint)

abbrev pub note_place : (text : List ℕ) → NoteSaid → ℕ
note_place text r = min r.span.start (length text)

abbrev pub note_by : Paint → (name text : List ℕ) → NoteSaid → List ℕ
note_by paint name text r =
    if r.is_near then []
    else note_at paint name text (note_place text r) (bytes_before text (note_place text r))
    (line_at text r.span.start) r

abbrev pub note_text : Paint → (name text : List ℕ) → Option NoteSaid → List ℕ
note_text paint name text None = []
note_text paint name text (Some r) = note_by paint name text r
