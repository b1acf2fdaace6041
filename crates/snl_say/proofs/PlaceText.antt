-- The bytes of places and ranges are the text of the value.
use Rattle.std.proofs.Common.{◌≡◌, refl}
use Rattle.json.proofs.OnLiterals.{json_on_literals}
use Rattle.serde_json.specs.Written.{compact_text}
use Rattle.snl_place.specs.declared.places.Place.{Place}
use Rattle.snl_say.specs.Places.{place_data, place_text, range_data, range_text}

place_same : (p : Place) → compact_text (place_data p) ≡ place_text p
unfolding json_on_literals place_text
place_same p = refl

pub range_same : (start stop : Place) →
    compact_text (range_data start stop) ≡ range_text start stop
unfolding json_on_literals place_text range_text
range_same start stop = refl
