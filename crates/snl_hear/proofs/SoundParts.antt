-- Parts of a document are values that a text can have, so that the answers with them read back.
use Rattle.std.proofs.Common.{◌≡◌, ◌≤◌, ℕ, List, [], ◌∷◌, Some, codes, IsUtf8, refl, arith}
use Rattle.serde_json.specs.Data.{Data, array, items_depth}
use Rattle.serde_json.specs.Written.{compact_text}
use Rattle.snl_place.specs.declared.places.Place.{Place}
use Rattle.snl_say.specs.Parts.{locations_data, part_location, part_range, parts_items, ranges_data}
use Rattle.snl_hear.specs.Ids.{IsSoundId}
use Rattle.snl_hear.specs.Json.{json_in}
use Rattle.snl_hear.specs.Sound.{AreSound, AreSoundParts, IsSound, IsSoundPlace}
use Rattle.snl_hear.proofs.SoundAnswers.{answer_back, located_sound}
use Rattle.snl_hear.proofs.SoundPlaces.{ascii, range_sound}

-- each part as a value that a text can have
parts_sound : (value : Place × Place → Data) →
    ((part : Place × Place) → IsSoundPlace part.0 → IsSoundPlace part.1 → IsSound (value part)) →
    (parts : List (Place × Place)) → AreSoundParts parts → AreSound (parts_items value parts)
parts_sound value one [] h = tt
parts_sound value one (part ∷ parts) h =
    (one part h.0 h.1, parts_sound value one parts h.2)

only_range_sound : (part : Place × Place) → IsSoundPlace part.0 → IsSoundPlace part.1 →
    IsSound (part_range part)
only_range_sound part h k =
    (ascii (codes "range") refl, range_sound part.0 part.1 h k, tt, tt)

locations_shallow : (uri : List ℕ) (parts : List (Place × Place)) →
    items_depth (parts_items (part_location uri) parts) ≤ 3
locations_shallow uri [] = omega arith
locations_shallow uri (part ∷ parts) = omega (arith, locations_shallow uri parts)

ranges_shallow : (parts : List (Place × Place)) → items_depth (parts_items part_range parts) ≤ 3
ranges_shallow [] = omega arith
ranges_shallow (part ∷ parts) = omega (arith, ranges_shallow parts)

pub locations_answer : (id : Data) (uri : List ℕ) (parts : List (Place × Place)) → IsSoundId id →
    IsUtf8 uri → AreSoundParts parts →
    json_in (compact_text (locations_data id uri parts)) ≡ Some (locations_data id uri parts)
locations_answer id uri parts h u are =
    answer_back id (array (parts_items (part_location uri) parts)) h
    (parts_sound (part_location uri) (λ part a b. located_sound uri part.0 part.1 u a b) parts are)
    (omega (arith, locations_shallow uri parts))

pub ranges_answer : (id : Data) (parts : List (Place × Place)) → IsSoundId id →
    AreSoundParts parts →
    json_in (compact_text (ranges_data id parts)) ≡ Some (ranges_data id parts)
ranges_answer id parts h are =
    answer_back id (array (parts_items part_range parts)) h
    (parts_sound part_range only_range_sound parts are) (omega (arith, ranges_shallow parts))
