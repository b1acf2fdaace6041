-- Places in a text, and spans of it.
use Rattle.std.specs.Prelude.{ℕ, ◌+◌, List, take}
use Rattle.snl_place.specs.declared.places.Encoding.{Encoding}
use Rattle.snl_place.specs.declared.places.Place.{Place}
use Rattle.snl_place.specs.Places.{offset_in, place_in}
use Rattle.snl_tables.specs.declared.rows.Span.{Span}

-- The offset of a place in a text, and the place of an offset.
abbrev pub offset_at : Encoding → (text : List ℕ) → Place → ℕ
offset_at encoding text place = offset_in encoding place.line place.character text

abbrev pub place_at : Encoding → (text : List ℕ) → (offset : ℕ) → Place
place_at encoding text offset = place_in encoding (take offset text)

-- Where a span of a text begins, and where it stops.
abbrev pub start_of : Encoding → (text : List ℕ) → Span → Place
start_of encoding text span = place_at encoding text span.start

abbrev pub stop_of : Encoding → (text : List ℕ) → Span → Place
stop_of encoding text span = place_at encoding text (span.start + span.len)

-- Between which places a span of a text is.
abbrev pub places_of : Encoding → (text : List ℕ) → Span → Place × Place
places_of encoding text span = (start_of encoding text span, stop_of encoding text span)
