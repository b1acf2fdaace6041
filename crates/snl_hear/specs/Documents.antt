-- What parameters say of a document.
use Rattle.std.specs.Prelude.{ℕ, Bool, List, Option, codes, option_and_then, option_map}
use Rattle.serde_json.specs.Data.{Data}
use Rattle.serde_json.specs.Find.{as_bool, as_number, as_str, as_u64, get}
use Rattle.snl_place.specs.declared.places.Place.{Place}

-- A member that is an integer of 64 bits, from 0 on.
abbrev pub number_at : List ℕ → Data → Option ℕ
number_at key d = option_and_then as_u64 (option_and_then as_number (get key d))

-- A member that is a string.
abbrev pub string_at : List ℕ → Data → Option (List ℕ)
string_at key d = option_and_then as_str (get key d)

-- A member that is true or false.
abbrev pub boolean_at : List ℕ → Data → Option Bool
boolean_at key d = option_and_then as_bool (get key d)

-- `{"line": LINE, "character": CHARACTER}`
abbrev pub place_in : Data → Option Place
place_in d =
    option_and_then (λ line. option_map (λ character. record { line = line; character = character })
    (number_at (codes "character") d))
    (number_at (codes "line") d)

-- ---- by the parameters, if there are any

-- `{"textDocument": DOCUMENT}`
abbrev pub document_in : Option Data → Option Data
document_in params = option_and_then (get (codes "textDocument")) params

-- `{"textDocument": {"uri": URI}}`
abbrev pub uri_in : Option Data → Option (List ℕ)
uri_in params = option_and_then (string_at (codes "uri")) (document_in params)

-- `{"textDocument": {"version": VERSION}}`
abbrev pub version_in : Option Data → Option ℕ
version_in params = option_and_then (number_at (codes "version")) (document_in params)

-- `{"textDocument": {"text": TEXT}}`
abbrev pub text_in : Option Data → Option (List ℕ)
text_in params = option_and_then (string_at (codes "text")) (document_in params)

-- `{"position": PLACE}`
abbrev pub position_in : Option Data → Option Place
position_in params = option_and_then place_in (option_and_then (get (codes "position")) params)

-- `{"context": {"includeDeclaration": BOOLEAN}}`
abbrev pub includes_declaration_in : Option Data → Option Bool
includes_declaration_in params =
    option_and_then (boolean_at (codes "includeDeclaration"))
    (option_and_then (get (codes "context")) params)
