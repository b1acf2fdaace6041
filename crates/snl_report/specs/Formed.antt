-- A finding in one of the forms.
use Rattle.std.specs.Prelude.{ℕ, ◌+◌, ◌-◌, Bool, not, List, [], ◌++◌, Option, Some, None, count_by, length}
use Rattle.std.specs.Int.{is_in_range}
use Rattle.snl_excerpt.specs.Columns.{bytes_before}
use Rattle.snl_forms.specs.Forms.{At, Note, Said, annotation_text, object_text, result_text}
use Rattle.snl_kept.specs.declared.found.findings.Diagnostic.{Diagnostic}
use Rattle.snl_kept.specs.Diagnostics.{message_of}
use Rattle.snl_lex.specs.declared.lines.Line.{Line}
use Rattle.snl_lex.specs.Lines.{line_at}
use Rattle.snl_script.specs.Parts.{quoted, slice_of}
use Rattle.snl_report.specs.declared.form.Form.{Form}
use Rattle.snl_report.specs.declared.form.Style.{Style}
use Rattle.snl_report.specs.declared.form.Form.TheVariants as form
use Rattle.snl_report.specs.declared.paint.Paint.{Paint}
use Rattle.snl_report.specs.Blocks.{block_at, place_of}
use Rattle.snl_report.specs.Extents.{extent}
use Rattle.snl_report.specs.Noted.{NoteSaid}
use Rattle.snl_report.specs.Notes.{note_place, note_text}

-- A byte begins a character, or is none of UTF-8.
abbrev pub begins_character : ℕ → Bool
begins_character b = not (is_in_range 128 191 b)

-- What a column counts: bytes in JSON and in a report, and else characters.
abbrev pub units : Form → List ℕ → ℕ
units form.Report bytes = length bytes
units form.Json bytes = length bytes
units form.Github bytes = count_by begins_character bytes
units form.Sarif bytes = count_by begins_character bytes

-- The name of a line's file, which a line marker of the text says, or else that of the text.
abbrev pub file_of : (name text : List ℕ) → Option (ℕ × ℕ) → List ℕ
file_of name text None = name
file_of name text (Some file) = slice_of text file.0 file.1

-- The column of a place that has so many bytes of its line before it.
abbrev pub column_by : Form → (text : List ℕ) → (place before : ℕ) → ℕ
column_by form text place before = units form (slice_of text (place - before) before) + 1

-- So many bytes from a place on, on a line of a file.
abbrev pub at_place : Form → (text file : List ℕ) → (line place before len : ℕ) → At
at_place form text file line place before len = record {
  file = file;
  line = line;
  column = column_by form text place before;
  end_column = column_by form text place before + units form (slice_of text place len);
}

abbrev pub note_on : Form → (name text : List ℕ) → Line → (place before : ℕ) → NoteSaid → Note
note_on form name text line place before r = record {
  at = at_place form text (file_of name text line.file) line.number place before r.span.len;
  words = r.words;
}

abbrev pub note_for : Form → (name text : List ℕ) → NoteSaid → Note
note_for form name text r = note_on form name text (line_at text r.span.start)
    (note_place text r) (bytes_before text (note_place text r)) r

abbrev pub notes_for : Form → (name text : List ℕ) → Option NoteSaid → Option Note
notes_for form name text None = None
notes_for form name text (Some r) = Some (note_for form name text r)

-- The message that `check` prints.
abbrev pub message_for : (text : List ℕ) → Diagnostic → List ℕ
message_for text d = message_of d.code ++ quoted (slice_of text d.offset d.subject)

abbrev pub said_at : Form → (name text : List ℕ) → (place before : ℕ) → Diagnostic →
    Option NoteSaid → Said
said_at form name text place before d note = record {
  at = at_place form text (file_of name text d.file) d.line place before
      (extent text place d.subject);
  code = d.code;
  message = message_for text d;
  note = notes_for form name text note;
}

-- The line of a finding in a form. A report has blocks, and no such lines.
abbrev pub line_of : Form → Said → List ℕ
line_of form.Report said = []
line_of form.Json said = object_text said
line_of form.Github said = annotation_text said
line_of form.Sarif said = result_text said

-- A finding in a form: its block in a report, and else its line.
abbrev pub formed_at : Paint → Form → (name text : List ℕ) → (place before : ℕ) → Diagnostic →
    Option NoteSaid → List ℕ
formed_at paint form.Report name text place before d note =
    block_at paint name text place before d note ++ note_text paint name text note
formed_at paint form.Json name text place before d note =
    line_of form.Json (said_at form.Json name text place before d note)
formed_at paint form.Github name text place before d note =
    line_of form.Github (said_at form.Github name text place before d note)
formed_at paint form.Sarif name text place before d note =
    line_of form.Sarif (said_at form.Sarif name text place before d note)

abbrev pub formed : Style → (name text : List ℕ) → Diagnostic → Option NoteSaid → List ℕ
formed style name text d note = formed_at style.paint style.form name text
    (place_of text d) (bytes_before text (place_of text d)) d note
