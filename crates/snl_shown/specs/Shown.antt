-- What the text of a session says, as a client is told it.
use Rattle.std.specs.Prelude.{ℕ, List, Option, Some, None, option_map}
use Rattle.snl_place.specs.declared.places.Encoding.{Encoding}
use Rattle.snl_place.specs.declared.places.Place.{Place}
use Rattle.snl_questions.specs.Meanings.{meaning_near}
use Rattle.snl_questions.specs.Hover.{Told, hover_of}
use Rattle.snl_say.specs.Answered as answered
use Rattle.snl_say.specs.Answered.{Answered, location_answer}
use Rattle.snl_hear.specs.Requests.{Query, Symbols, Definition, Hover, References, Highlights}
use Rattle.snl_document.specs.Says.{Says}
use Rattle.snl_shown.specs.Found.{found_in}
use Rattle.snl_shown.specs.References.{locations_answer, ranges_answer, references_at}
use Rattle.snl_shown.specs.Spans.{offset_at, places_of, start_of, stop_of}
use Rattle.snl_shown.specs.Symbols.{symbols_in}

-- Where the name is declared that the name near a place means.
abbrev pub declared_at : Encoding → (text : List ℕ) → Place → Option (Place × Place)
declared_at encoding text place = option_map (λ m. places_of encoding text m.declared)
    (meaning_near text (offset_at encoding text place))

-- What is told of a name, and between which places the name is.
pub record NameTold : Type 0 where
  pub bytes : List ℕ
  pub start : Place
  pub stop : Place

-- What is told of the name near a place, and where that name is.
abbrev pub name_told : Encoding → (text : List ℕ) → Told → NameTold
name_told encoding text h = record {
  bytes = h.bytes;
  start = start_of encoding text h.name;
  stop = stop_of encoding text h.name;
}

abbrev pub told_at : Encoding → (text : List ℕ) → Place → Option NameTold
told_at encoding text place = option_map (name_told encoding text)
    (hover_of text (offset_at encoding text place))

abbrev pub hover_answer : Option NameTold → Answered
hover_answer None = answered.Nothing
hover_answer (Some told) = answered.Hover told.bytes told.start told.stop

-- The answer to each question on a text.
abbrev pub answer_in : Encoding → (text : List ℕ) → Query → Answered
answer_in encoding text Symbols = answered.Symbols (symbols_in encoding text)
answer_in encoding text (Definition place) = location_answer (declared_at encoding text place)
answer_in encoding text (Hover place) = hover_answer (told_at encoding text place)
answer_in encoding text (References place includes_declaration) =
    locations_answer encoding text includes_declaration (references_at encoding text place)
answer_in encoding text (Highlights place) =
    ranges_answer encoding text (references_at encoding text place)

-- All that the server tells of a text that a session checks.
abbrev pub says_of_text : Says
says_of_text = record { found_in = found_in; answer_in = answer_in }
