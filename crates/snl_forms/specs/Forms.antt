-- Findings in the forms that other programs read, each on a line.
use Rattle.std.specs.Prelude.{ℕ, ◌++◌, ◌==◌, List, [], ◌∷◌, Option, Some, None, codes, decimal, if◌then◌else◌}
use Rattle.snl_codes.specs.declared.code.Code.{Code}
use Rattle.snl_codes.specs.Codes.{is_error, name_of}
use Rattle.snl_forms.specs.declared.escape.Escape.TheVariants.{Json, Property, Data}
use Rattle.snl_forms.specs.declared.told.Other.{Other}
use Rattle.snl_forms.specs.declared.told.Place.{Place}
use Rattle.snl_forms.specs.declared.told.Told.{Told}
use Rattle.snl_forms.specs.Escapes.{escaped, uri}

-- A place: the file, the line, and the columns from the first to that after the last.
pub record At : Type 0 where
  pub file : List ℕ
  pub line : ℕ
  pub column : ℕ
  pub end_column : ℕ

-- A place that a finding is related to, and what is said of it.
pub record Note : Type 0 where
  pub at : At
  pub words : List ℕ

-- What all forms say of a finding.
pub record Said : Type 0 where
  pub at : At
  pub code : Code
  pub message : List ℕ
  pub note : Option Note

abbrev pub at_of : Place → At
at_of p = record {
  file = p.file.now;
  line = p.line;
  column = p.column;
  end_column = p.end_column;
}

abbrev pub note_of : Other → Note
note_of o = record { at = at_of o.place; words = o.words.now }

abbrev pub notes_of : Option Other → Option Note
notes_of None = None
notes_of (Some o) = Some (note_of o)

abbrev pub said_of : Told → Said
said_of t = record {
  at = at_of t.place;
  code = t.code;
  message = t.message.now;
  note = notes_of t.related;
}

abbrev pub level_of : Code → List ℕ
level_of code = if is_error code then codes "error" else codes "warning"

-- A string of JSON, with its quotes.
unfoldable pub string_text : List ℕ → List ℕ
string_text bytes = codes "\"" ++ (escaped Json bytes ++ codes "\"")

-- ---- an object of JSON

unfoldable pub members_text : At → List ℕ
members_text p =
    codes "\"file\":" ++ (string_text p.file
    ++ (codes ",\"line\":" ++ (decimal p.line
    ++ (codes ",\"column\":" ++ (decimal p.column
    ++ (codes ",\"end_column\":" ++ decimal p.end_column))))))

unfoldable pub note_text : Note → List ℕ
note_text o =
    codes ",\"notes\":[{" ++ (members_text o.at
    ++ (codes ",\"message\":" ++ (string_text o.words ++ codes "}]")))

abbrev pub notes_text : Option Note → List ℕ
notes_text None = []
notes_text (Some o) = note_text o

-- `"severity":"error","code":"E10","message":"TEXT"`.
unfoldable pub finding_text : Said → List ℕ
finding_text t =
    codes "\"severity\":\"" ++ (level_of t.code
    ++ (codes "\",\"code\":\"" ++ (name_of t.code
    ++ (codes "\",\"message\":" ++ string_text t.message))))

unfoldable pub object_text : Said → List ℕ
object_text t =
    codes "{" ++ (members_text t.at
    ++ (codes "," ++ (finding_text t
    ++ (notes_text t.note ++ codes "}\n"))))

-- ---- an annotation

-- `::error file=FILE,line=LINE,col=COLUMN,endColumn=COLUMN`.
unfoldable pub properties_text : Said → List ℕ
properties_text t =
    codes "::" ++ (level_of t.code
    ++ (codes " file=" ++ (escaped Property t.at.file
    ++ (codes ",line=" ++ (decimal t.at.line
    ++ (codes ",col=" ++ (decimal t.at.column
    ++ (codes ",endColumn=" ++ decimal t.at.end_column))))))))

unfoldable pub annotation_text : Said → List ℕ
annotation_text t =
    properties_text t
    ++ (codes ",title=" ++ (name_of t.code
    ++ (codes "::" ++ (escaped Data t.message ++ codes "\n"))))

-- ---- a result of SARIF

-- A name from the root on is a reference with a scheme.
abbrev pub scheme_of : List ℕ → List ℕ
scheme_of [] = []
scheme_of (b ∷ bytes) = if b == 47 then codes "file://" else []

abbrev pub reference_text : List ℕ → List ℕ
reference_text file = scheme_of file ++ uri file

-- A line marker can give a line the number 0, which a region can't have.
unfoldable pub columns_text : At → List ℕ
columns_text p =
    codes ", \"region\": {\"startLine\": " ++ (decimal p.line
    ++ (codes ", \"startColumn\": " ++ (decimal p.column
    ++ (codes ", \"endColumn\": " ++ (decimal p.end_column ++ codes "}")))))

abbrev pub region_text : At → List ℕ
region_text p = if p.line == 0 then [] else columns_text p

-- A location, up to the brace that ends it.
unfoldable pub location_text : At → List ℕ
location_text p =
    codes "{\"physicalLocation\": {\"artifactLocation\": {\"uri\": \""
    ++ (reference_text p.file ++ (codes "\"}" ++ (region_text p ++ codes "}")))

unfoldable pub message_text : List ℕ → List ℕ
message_text words = codes "\"message\": {\"text\": " ++ (string_text words ++ codes "}")

unfoldable pub other_text : Note → List ℕ
other_text o =
    codes ", \"relatedLocations\": [" ++ (location_text o.at
    ++ (codes ", " ++ (message_text o.words ++ codes "}]")))

abbrev pub related_text : Option Note → List ℕ
related_text None = []
related_text (Some o) = other_text o

-- `{"ruleId": "E10", "level": "error", "message": {"text": "TEXT"}`.
unfoldable pub rule_text : Said → List ℕ
rule_text t =
    codes "{\"ruleId\": \"" ++ (name_of t.code
    ++ (codes "\", \"level\": \"" ++ (level_of t.code
    ++ (codes "\", " ++ message_text t.message))))

unfoldable pub result_text : Said → List ℕ
result_text t =
    rule_text t
    ++ (codes ", \"locations\": [" ++ (location_text t.at
    ++ (codes "}]" ++ (related_text t.note ++ codes "}\n"))))
