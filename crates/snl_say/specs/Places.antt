-- Places in a text and ranges between two of them, as JSON and as bytes.
use Rattle.std.specs.Prelude.{ℕ, List, [], ◌∷◌, codes, decimal}
use Rattle.std.specs.List.{concat}
use Rattle.serde_json.specs.Data.{Data, object, number, unsigned, member, no_members}
use Rattle.snl_place.specs.declared.places.Place.{Place}

-- ---- as JSON: the members of an object are in the order of their names

abbrev pub place_data : Place → Data
place_data p =
    object (member (codes "character") (number (unsigned p.character))
    (member (codes "line") (number (unsigned p.line)) no_members))

abbrev pub range_data : (start stop : Place) → Data
range_data start stop =
    object (member (codes "end") (place_data stop)
    (member (codes "start") (place_data start) no_members))

-- ---- as bytes

unfoldable pub place_text : Place → List ℕ
place_text p =
    concat (codes "{\"character\":" ∷ decimal p.character ∷ codes ",\"line\":" ∷ decimal p.line
    ∷ codes "}" ∷ [])

unfoldable pub range_text : (start stop : Place) → List ℕ
range_text start stop =
    concat (codes "{\"end\":" ∷ place_text stop ∷ codes ",\"start\":" ∷ place_text start ∷ codes "}"
    ∷ [])
