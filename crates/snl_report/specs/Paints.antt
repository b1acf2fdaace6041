-- Colours of a report on a terminal: what begins a part and what ends it.
use Rattle.std.specs.Prelude.{ℕ, List, [], ◌∷◌, if◌then◌else◌}
use Rattle.snl_codes.specs.declared.code.Code.{Code}
use Rattle.snl_codes.specs.Codes.{is_error}
use Rattle.snl_report.specs.declared.paint.Paint.{Paint}
use Rattle.snl_report.specs.declared.paint.Paint.TheVariants.{Plain, Colored}
use Rattle.snl_report.specs.declared.paint.Part.{Part}
use Rattle.snl_report.specs.declared.paint.Part.TheVariants.{Place, Error, Warning, Note, Marks}

abbrev pub part_of : Code → Part
part_of code = if is_error code then Error else Warning

-- `ESC [ 1 m`: bold, and with a colour after it `ESC [ 1 ; 3 N m`.
abbrev pub bold_in : ℕ → List ℕ
bold_in color = 27 ∷ 91 ∷ 49 ∷ 59 ∷ 51 ∷ color ∷ 109 ∷ []

abbrev pub sequence : Part → List ℕ
sequence Place = 27 ∷ 91 ∷ 49 ∷ 109 ∷ []
sequence Error = bold_in 49
sequence Warning = bold_in 53
sequence Note = bold_in 54
sequence Marks = bold_in 50

unfoldable pub on : Paint → Part → List ℕ
on Plain part = []
on Colored part = sequence part

-- `ESC [ 0 m`.
unfoldable pub off : Paint → List ℕ
off Plain = []
off Colored = 27 ∷ 91 ∷ 48 ∷ 109 ∷ []
