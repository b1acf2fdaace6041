-- What is found in a document: the notification as JSON and as bytes.
use Rattle.std.specs.Prelude.{ℕ, List, [], ◌∷◌, ◌++◌, Option, Some, None, codes, decimal}
use Rattle.std.specs.List.{concat, flat_map}
use Rattle.json.specs.Print.{quoted}
use Rattle.serde_json.specs.Data.{Data, array, object, string, number, unsigned, member, Members, no_members, Items, no_items, item}
use Rattle.snl_place.specs.declared.places.Place.{Place}
use Rattle.snl_script.specs.Parts.{quoted as in_quotes}
use Rattle.snl_say.specs.Places.{range_data, range_text}
use Rattle.snl_say.specs.declared.diagnostics.Shown.{Shown}
use Rattle.snl_say.specs.declared.severity.Severity.{Severity}
use Rattle.snl_say.specs.declared.severity.Severity.TheVariants.{Error, Warning}

-- What is found from a place up to another one, with the bytes of its code and of its message.
pub record Found : Type 0 where
  pub start : Place
  pub stop : Place
  pub severity : Severity
  pub code : List ℕ
  pub message : List ℕ

abbrev pub found_of : Shown → Found
found_of s = record {
  start = s.start;
  stop = s.stop;
  severity = s.severity;
  code = s.code.now;
  message = s.message.now ++ in_quotes s.quoted.now;
}

-- ---- as JSON: the members of an object are in the order of their names

-- The numbers of the protocol.
abbrev pub severity_number : Severity → ℕ
severity_number Error = 1
severity_number Warning = 2

abbrev pub item_data : Found → Data
item_data f =
    object (member (codes "code") (string f.code)
    (member (codes "message") (string f.message)
    (member (codes "range") (range_data f.start f.stop)
    (member (codes "severity") (number (unsigned (severity_number f.severity)))
    (member (codes "source") (string (codes "snl")) no_members)))))

abbrev pub items_data : List Found → Items
items_data [] = no_items
items_data (f ∷ fs) = item (item_data f) (items_data fs)

-- The version, where there is one.
abbrev pub version_data : Option ℕ → Members
version_data None = no_members
version_data (Some n) = member (codes "version") (number (unsigned n)) no_members

abbrev pub params_data : List Found → (uri : List ℕ) → (version : Option ℕ) → Data
params_data found uri version =
    object (member (codes "diagnostics") (array (items_data found))
    (member (codes "uri") (string uri) (version_data version)))

abbrev pub publish_data : List Found → (uri : List ℕ) → (version : Option ℕ) → Data
publish_data found uri version =
    object (member (codes "jsonrpc") (string (codes "2.0"))
    (member (codes "method") (string (codes "textDocument/publishDiagnostics"))
    (member (codes "params") (params_data found uri version) no_members)))

-- ---- as bytes

-- The severity, and all that is after it in an item.
abbrev pub severity_text : Severity → List ℕ
severity_text Error = codes ",\"severity\":1,\"source\":\"snl\"}"
severity_text Warning = codes ",\"severity\":2,\"source\":\"snl\"}"

unfoldable pub item_text : Found → List ℕ
item_text f =
    concat (codes "{\"code\":" ∷ quoted f.code ∷ codes ",\"message\":" ∷ quoted f.message
    ∷ codes ",\"range\":" ∷ range_text f.start f.stop ∷ severity_text f.severity ∷ [])

-- An item after another one.
abbrev pub after_comma : Found → List ℕ
after_comma f = codes "," ++ item_text f

-- The items after the first, and the closing bracket.
abbrev pub items_after : List Found → List ℕ
items_after found = flat_map after_comma found ++ codes "]"

unfoldable pub items_text : List Found → List ℕ
items_text [] = codes "]"
items_text (f ∷ fs) = item_text f ++ items_after fs

-- The version, where there is one, and the brackets that close.
abbrev pub version_text : Option ℕ → List ℕ
version_text None = codes "}}"
version_text (Some n) = concat (codes ",\"version\":" ∷ decimal n ∷ codes "}}" ∷ [])

-- What is before the items.
unfoldable pub publish_head : List ℕ
publish_head =
    concat (codes "{\"jsonrpc\":\"2.0\",\"method\":\"textDocument/publishDiagnostics\","
    ∷ codes "\"params\":{\"diagnostics\":[" ∷ [])

-- By the URI as a string of JSON, quotes included.
abbrev pub publish_with : List Found → (quoted_uri : List ℕ) → (version : Option ℕ) → List ℕ
publish_with found quoted_uri version =
    publish_head ++ (items_text found
    ++ (codes ",\"uri\":" ++ (quoted_uri ++ version_text version)))

abbrev pub publish_text : List Found → (uri : List ℕ) → (version : Option ℕ) → List ℕ
publish_text found uri version = publish_with found (quoted uri) version
