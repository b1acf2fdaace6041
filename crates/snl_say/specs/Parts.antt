-- Parts of a document in an array, as locations or as their ranges alone: the answers as JSON and
-- as bytes.
use Rattle.std.specs.Prelude.{ℕ, List, [], ◌∷◌, ◌++◌, codes}
use Rattle.std.specs.List.{concat, flat_map}
use Rattle.serde_json.specs.Data.{Data, array, object, member, no_members, Items, no_items, item}
use Rattle.serde_json.specs.Written.{compact_text}
use Rattle.snl_place.specs.declared.places.Place.{Place}
use Rattle.snl_say.specs.Answers.{answer_data, located_data}
use Rattle.snl_say.specs.Places.{range_data, range_text}

-- ---- as JSON

-- Each part as this value.
abbrev pub parts_items : (Place × Place → Data) → List (Place × Place) → Items
parts_items value [] = no_items
parts_items value (part ∷ parts) = item (value part) (parts_items value parts)

abbrev pub part_location : (uri : List ℕ) → Place × Place → Data
part_location uri part = located_data uri part.0 part.1

abbrev pub part_range : Place × Place → Data
part_range part = object (member (codes "range") (range_data part.0 part.1) no_members)

abbrev pub locations_data : (id : Data) → (uri : List ℕ) → List (Place × Place) → Data
locations_data id uri parts = answer_data id (array (parts_items (part_location uri) parts))

abbrev pub ranges_data : (id : Data) → List (Place × Place) → Data
ranges_data id parts = answer_data id (array (parts_items part_range parts))

-- ---- as bytes

-- A part, with what comes after its range.
unfoldable pub part_text : (end : List ℕ) → Place × Place → List ℕ
part_text end part = codes "{\"range\":" ++ (range_text part.0 part.1 ++ end)

-- A part after another one.
abbrev pub after_comma : (end : List ℕ) → Place × Place → List ℕ
after_comma end part = codes "," ++ part_text end part

-- The parts after the first, and the closing bracket.
abbrev pub parts_after : (end : List ℕ) → List (Place × Place) → List ℕ
parts_after end parts = flat_map (after_comma end) parts ++ codes "]"

unfoldable pub parts_text : (end : List ℕ) → List (Place × Place) → List ℕ
parts_text end [] = codes "]"
parts_text end (part ∷ parts) = part_text end part ++ parts_after end parts

unfoldable pub parts_with : (id : Data) → (end : List ℕ) → List (Place × Place) → List ℕ
parts_with id end parts =
    concat (codes "{\"id\":" ∷ compact_text id ∷ codes ",\"jsonrpc\":\"2.0\",\"result\":["
    ∷ parts_text end parts ∷ codes "}" ∷ [])

-- What comes after the range of a location, by the URI as a string of JSON, quotes included.
abbrev pub location_end : (quoted_uri : List ℕ) → List ℕ
location_end quoted_uri = codes ",\"uri\":" ++ (quoted_uri ++ codes "}")

abbrev pub locations_with : (id : Data) → (quoted_uri : List ℕ) → List (Place × Place) → List ℕ
locations_with id quoted_uri parts = parts_with id (location_end quoted_uri) parts

abbrev pub ranges_text : (id : Data) → List (Place × Place) → List ℕ
ranges_text id parts = parts_with id (codes "}") parts
