-- What is answered to a request on a document, whatever its method is: as JSON and as bytes.
use Rattle.std.specs.Prelude.{ℕ, List, Option, Some, None, map}
use Rattle.json.specs.Print.{quoted}
use Rattle.serde_json.specs.Data.{Data}
use Rattle.snl_place.specs.declared.places.Place.{Place}
use Rattle.snl_say.specs.Answers.{hover_data, hover_text, location_data, location_with, null_data, null_text}
use Rattle.snl_say.specs.Parts.{locations_data, locations_with, ranges_data, ranges_text}
use Rattle.snl_say.specs.Symbols.{SymbolFound, symbol_of, symbols_data, symbols_text}
use Rattle.snl_say.specs.declared.answer.Answer.{Answer}
use Rattle.snl_say.specs.declared.answer.Answer.TheVariants as answer

-- By its shape: nothing, a part of the document, what is told of a part, symbols, parts as
-- locations, parts by their ranges alone.
pub data Answered : Type 0 where
  Nothing : Answered
  Location : (start stop : Place) → Answered
  Hover : (contents : List ℕ) → (start stop : Place) → Answered
  Symbols : List SymbolFound → Answered
  Locations : List (Place × Place) → Answered
  Ranges : List (Place × Place) → Answered

abbrev pub answered_of : Answer → Answered
answered_of answer.Nothing = Nothing
answered_of (answer.Location start stop) = Location start stop
answered_of (answer.Hover contents start stop) = Hover contents.items start stop
answered_of (answer.Symbols symbols) = Symbols (map symbol_of symbols.items)
answered_of (answer.Locations parts) = Locations parts.items
answered_of (answer.Ranges parts) = Ranges parts.items

-- Between two places, if there is such a part.
abbrev pub location_answer : Option (Place × Place) → Answered
location_answer None = Nothing
location_answer (Some (start, stop)) = Location start stop

-- The answer to a request of this id on the document of this URI, as JSON.
abbrev pub answered_data : (id : Data) → (uri : List ℕ) → Answered → Data
answered_data id uri Nothing = null_data id
answered_data id uri (Location start stop) = location_data id uri start stop
answered_data id uri (Hover contents start stop) = hover_data id contents start stop
answered_data id uri (Symbols symbols) = symbols_data id symbols
answered_data id uri (Locations parts) = locations_data id uri parts
answered_data id uri (Ranges parts) = ranges_data id parts

-- Its bytes, by the URI as a string of JSON, quotes included.
abbrev pub answered_with : (id : Data) → (quoted_uri : List ℕ) → Answered → List ℕ
answered_with id quoted_uri Nothing = null_text id
answered_with id quoted_uri (Location start stop) = location_with id quoted_uri start stop
answered_with id quoted_uri (Hover contents start stop) = hover_text id contents start stop
answered_with id quoted_uri (Symbols symbols) = symbols_text id symbols
answered_with id quoted_uri (Locations parts) = locations_with id quoted_uri parts
answered_with id quoted_uri (Ranges parts) = ranges_text id parts

abbrev pub answered_text : (id : Data) → (uri : List ℕ) → Answered → List ℕ
answered_text id uri answered = answered_with id (quoted uri) answered
