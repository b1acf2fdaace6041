-- What is answered to a command.
use Rattle.std.specs.Prelude.{ℕ, Bool, true, false, ◌++◌, List, [], ◌∷◌, flat_map, Option, Some, None, codes, decimal}
use Rattle.std.specs.List.{concat}
use Rattle.snl_session.specs.declared.edits.Refused.{Refused}
use Rattle.snl_session.specs.declared.edits.Refused.TheVariants.{Range, Size, Memory}
use Rattle.snl_kept.specs.declared.work.Work.{Work}
use Rattle.snl_kept.specs.declared.found.findings.Diagnostic.{Diagnostic}
use Rattle.snl_session.specs.Listing.{listing_text}
use Rattle.snl_kept.specs.Diagnostics.{diagnostics_of, errors_of, message_of, name_of, warnings_of}
use Rattle.snl_script.specs.Parts.{counts_text, file_text, quoted, slice_of, sum_text}

-- `LINE: CODE TEXT`.
abbrev pub finding_text : Diagnostic → List ℕ
finding_text d = concat (decimal d.line ∷ codes ": " ∷ name_of d.code ∷ codes " " ∷ message_of d.code ∷ [])

-- The line of a diagnostic.
abbrev pub line_text : (text : List ℕ) → Diagnostic → List ℕ
line_text text d = concat (file_text text d.file ∷ finding_text d ∷ quoted (slice_of text d.offset d.subject) ∷ codes "\n" ∷ [])

-- The answer to `check`: the diagnostics of the text, a line each, and how many errors and warnings
-- there are.
abbrev pub report_of : List ℕ → List ℕ
report_of text = flat_map (line_text text) (diagnostics_of text) ++ sum_text (errors_of text) (warnings_of text)

-- The answer to an edit that is refused.
abbrev pub refusal_text : Refused → List ℕ
refusal_text Range = codes "refused range\n"
refusal_text Size = codes "refused size\n"
refusal_text Memory = codes "refused memory\n"

-- The answer to an edit.
abbrev pub edit_text : Option Refused → List ℕ
edit_text None = codes "ok\n"
edit_text (Some refused) = refusal_text refused

-- The answer to `list`: the listing of the text and `end`, or that memory is wanting for it.
abbrev pub list_text : (text : List ℕ) → (starved : Bool) → List ℕ
list_text text true = codes "refused memory\n"
list_text text false = listing_text text ++ codes "end\n"

-- The answer to `work`: the numbers of pieces, items and checks.
abbrev pub work_text : Work → List ℕ
work_text work = counts_text work.lexed work.parsed work.checked
