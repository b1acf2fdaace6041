-- The lines of one finding in a report.
use Rattle.std.specs.Prelude.{ℕ, List, [], ◌++◌, Option, Some, None, if◌then◌else◌, codes, length, min}
use Rattle.snl_excerpt.specs.Columns.{column_after}
use Rattle.snl_kept.specs.declared.found.findings.Diagnostic.{Diagnostic}
use Rattle.snl_report.specs.Extents.{extent}
use Rattle.snl_report.specs.declared.paint.Paint.{Paint}
use Rattle.snl_report.specs.Excerpted.{excerpt_end, excerpt_text}
use Rattle.snl_report.specs.Heads.{head_text, quoted_shown}
use Rattle.snl_report.specs.Noted.{NoteSaid}
use Rattle.snl_script.specs.Parts.{slice_of}

-- After the marks of an unknown name, the name that is near it: ` near: 'NAME'`.
abbrev pub hint_by : (text : List ℕ) → NoteSaid → List ℕ
hint_by text r =
    if r.is_near
    then codes " near:" ++ quoted_shown (slice_of text r.span.start r.span.len)
    else []

abbrev pub hint_text : (text : List ℕ) → Option NoteSaid → List ℕ
hint_text text None = []
hint_text text (Some r) = hint_by text r

-- The block of a finding, by its place, how many bytes of the line are before it, and its note.
unfoldable pub block_at : Paint → (name text : List ℕ) → (place before : ℕ) → Diagnostic →
    Option NoteSaid → List ℕ
block_at paint name text place before d note =
    head_text paint name text (column_after before) d
    ++ (excerpt_text paint text place before d.line (extent text place d.subject)
    ++ (hint_text text note ++ excerpt_end paint))

-- The place of a finding: its offset, or the end of the text.
abbrev pub place_of : (text : List ℕ) → Diagnostic → ℕ
place_of text d = min d.offset (length text)
