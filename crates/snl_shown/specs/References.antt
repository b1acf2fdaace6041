-- The references of a name, as they are shown.
use Rattle.std.specs.Prelude.{ℕ, ◌==◌, List, length, map, filter, Bool, not, if◌then◌else◌}
use Rattle.snl_place.specs.declared.places.Encoding.{Encoding}
use Rattle.snl_place.specs.declared.places.Place.{Place}
use Rattle.snl_questions.specs.declared.mentions.mention.Reference.{Reference}
use Rattle.snl_questions.specs.Mentions.{references_near}
use Rattle.snl_say.specs.Answered.{Answered, Nothing, Locations, Ranges}
use Rattle.snl_shown.specs.Spans.{offset_at, places_of}

-- The references of the name near a place.
abbrev pub references_at : Encoding → (text : List ℕ) → Place → List Reference
references_at encoding text place = references_near text (offset_at encoding text place)

abbrev pub is_use : Reference → Bool
is_use reference = not reference.is_declaration

-- Those that are asked for: all, or all but the name where it is declared.
abbrev pub references_asked : (includes_declaration : Bool) → List Reference → List Reference
references_asked includes_declaration references =
    if includes_declaration then references else filter is_use references

-- A reference, by the places between which it is.
abbrev pub part_of : Encoding → (text : List ℕ) → Reference → Place × Place
part_of encoding text reference = places_of encoding text reference.span

abbrev pub parts_of : Encoding → (text : List ℕ) → List Reference → List (Place × Place)
parts_of encoding text references = map (part_of encoding text) references

-- The references of a name that are asked for. A name that means something is among its references:
-- so where it has none, there is nothing to tell.
abbrev pub locations_answer : Encoding → (text : List ℕ) → (includes_declaration : Bool) →
    List Reference → Answered
locations_answer encoding text includes_declaration references =
    if length references == 0 then Nothing
    else Locations (parts_of encoding text (references_asked includes_declaration references))

-- All of them, by their ranges.
abbrev pub ranges_answer : Encoding → (text : List ℕ) → List Reference → Answered
ranges_answer encoding text references =
    if length references == 0 then Nothing else Ranges (parts_of encoding text references)
