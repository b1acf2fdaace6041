-- What a finding is told with: a place that it is related to, or what may come where it stands.
use Rattle.std.specs.Prelude.{ℕ, Bool, true, false, List, Option, Some, None, if◌then◌else◌, option_map}
use Rattle.snl_codes.specs.declared.code.Code.{Code}
use Rattle.snl_codes.specs.declared.code.Code.TheVariants.{E02}
use Rattle.snl_kept.specs.declared.found.findings.Diagnostic.{Diagnostic}
use Rattle.snl_questions.specs.FaultNotes.{FaultTold, fault_noted, fault_told}
use Rattle.snl_related.specs.declared.related.Related.{Related}
use Rattle.snl_related.specs.declared.related.RelatedKind.{RelatedKind}
use Rattle.snl_related.specs.declared.related.RelatedKind.TheVariants as kinds
use Rattle.snl_related.specs.Related.{related_to, words_of}
use Rattle.snl_report.specs.declared.noted.Note.{Note}
use Rattle.snl_report.specs.declared.noted.Noted.{Noted}
use Rattle.snl_report.specs.declared.noted.Noted.TheVariants as noted
use Rattle.snl_tables.specs.declared.rows.Span.{Span}

-- A note: on which bytes of the text, in which words, and whether it is told beside the marks.
pub record NoteSaid : Type 0 where
  pub span : Span
  pub words : List ℕ
  pub is_near : Bool

abbrev pub said_of : Note → NoteSaid
said_of n = record { span = n.span; words = n.words.now; is_near = n.is_near }

-- A near name is told beside the marks, and all else in lines of its own.
abbrev pub is_near : RelatedKind → Bool
is_near kinds.Near = true
is_near _ = false

abbrev pub related_said : Related → NoteSaid
related_said r = record { span = r.span; words = words_of r.kind; is_near = is_near r.kind }

-- What is wanted somewhere has no bytes yet.
abbrev pub fault_said : FaultTold → NoteSaid
fault_said f = record {
  span = record { start = f.wanted; len = 0 };
  words = f.words;
  is_near = false;
}

abbrev pub noted_in : Noted → Option NoteSaid
noted_in noted.Nothing = None
noted_in (noted.Related r) = Some (related_said r)
noted_in (noted.Fault f) = Some (fault_said (fault_told f))

abbrev pub is_syntax_error : Code → Bool
is_syntax_error E02 = true
is_syntax_error _ = false

abbrev pub fault_text : List ℕ → Diagnostic → Option NoteSaid
fault_text text d = option_map fault_said (fault_noted text d.offset)

abbrev pub related_text : List ℕ → Diagnostic → Option NoteSaid
related_text text d = option_map related_said (related_to text d)

-- The note on a diagnostic of a text.
abbrev pub noted_text : List ℕ → Diagnostic → Option NoteSaid
noted_text text d = if is_syntax_error d.code then fault_text text d else related_text text d
