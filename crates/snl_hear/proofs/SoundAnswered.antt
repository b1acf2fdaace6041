-- The answer to a request on a document reads back, whatever its shape is.
use Rattle.std.proofs.Common.{◌≡◌, ℕ, List, Some, IsUtf8}
use Rattle.serde_json.specs.Data.{Data}
use Rattle.serde_json.specs.Written.{compact_text}
use Rattle.snl_say.specs.Answered.{Answered, Nothing, Location, Hover, Symbols, Locations, Ranges, answered_data}
use Rattle.snl_hear.specs.Ids.{IsSoundId}
use Rattle.snl_hear.specs.Json.{json_in}
use Rattle.snl_hear.specs.Sound.{IsSoundAnswer}
use Rattle.snl_hear.proofs.SoundAnswers.{hover_answer, location_answer, null_answer}
use Rattle.snl_hear.proofs.SoundParts.{locations_answer, ranges_answer}
use Rattle.snl_hear.proofs.SoundSymbols.{symbols_answer}

pub answered_back : (id : Data) (uri : List ℕ) (answered : Answered) → IsSoundId id →
    IsUtf8 uri → IsSoundAnswer answered →
    json_in (compact_text (answered_data id uri answered)) ≡ Some (answered_data id uri answered)
answered_back id uri Nothing h u k = null_answer id h
answered_back id uri (Location start stop) h u k = location_answer id uri start stop h u k.0 k.1
answered_back id uri (Hover contents start stop) h u k =
    hover_answer id contents start stop h k.0 k.1 k.2
answered_back id uri (Symbols symbols) h u k = symbols_answer id symbols h k
answered_back id uri (Locations parts) h u k = locations_answer id uri parts h u k
answered_back id uri (Ranges parts) h u k = ranges_answer id parts h k
