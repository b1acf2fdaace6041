-- The bytes of an answer are the text of the value, whatever its shape is.
use Rattle.std.proofs.Common.{◌≡◌, ℕ, List}
use Rattle.serde_json.specs.Data.{Data}
use Rattle.serde_json.specs.Written.{compact_text}
use Rattle.snl_say.specs.Answered.{Answered, Nothing, Location, Hover, Symbols, Locations, Ranges, answered_data, answered_text}
use Rattle.snl_say.proofs.AnswerText.{hover_same, location_same, null_same}
use Rattle.snl_say.proofs.PartText.{locations_same, ranges_same}
use Rattle.snl_say.proofs.SymbolText.{symbols_same}

pub answered_same : (id : Data) (uri : List ℕ) (answered : Answered) →
    compact_text (answered_data id uri answered) ≡ answered_text id uri answered
answered_same id uri Nothing = null_same id
answered_same id uri (Location start stop) = location_same id uri start stop
answered_same id uri (Hover contents start stop) = hover_same id contents start stop
answered_same id uri (Symbols symbols) = symbols_same id symbols
answered_same id uri (Locations parts) = locations_same id uri parts
answered_same id uri (Ranges parts) = ranges_same id parts
