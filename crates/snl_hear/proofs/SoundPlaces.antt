-- Places and ranges are values that a text can have.
use Rattle.std.proofs.Common.{◌≡◌, ℕ, List, true, codes, IsUtf8, refl}
use Rattle.json.proofs.Printed.Utf8.{IsUtf8-are_ascii, are_ascii}
use Rattle.snl_place.specs.declared.places.Place.{Place}
use Rattle.snl_say.specs.Places.{place_data, range_data}
use Rattle.snl_hear.specs.Sound.{IsSound, IsSoundPlace}

pub ascii : (s : List ℕ) → are_ascii s ≡ true → IsUtf8 s
ascii s h = IsUtf8-are_ascii s h

place_sound : (p : Place) → IsSoundPlace p → IsSound (place_data p)
place_sound p h = (
  ascii (codes "character") refl,
  h.1,
  (refl, tt),
  (ascii (codes "line") refl, h.0, tt, tt),
)

pub range_sound : (start stop : Place) → IsSoundPlace start → IsSoundPlace stop →
    IsSound (range_data start stop)
range_sound start stop h k = (
  ascii (codes "end") refl,
  place_sound stop k,
  (refl, tt),
  (ascii (codes "start") refl, place_sound start h, tt, tt),
)
