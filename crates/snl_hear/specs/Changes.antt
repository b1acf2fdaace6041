-- The changes of a document's text.
use Rattle.std.specs.Prelude.{ℕ, List, [], ◌∷◌, Option, Some, None, codes, option_and_then, option_map}
use Rattle.serde_json.specs.Data.{Data, Items, no_items, item}
use Rattle.serde_json.specs.Find.{as_array, get}
use Rattle.snl_place.specs.declared.places.Place.{Place}
use Rattle.snl_hear.specs.declared.changes.Change.{Change}
use Rattle.snl_hear.specs.declared.changes.Change.TheVariants as change
use Rattle.snl_hear.specs.Documents.{place_in, string_at}

-- A change, with the bytes of its text: the whole text becomes another one, or a part of it does.
pub data Changed : Type 0 where
  Whole : (text : List ℕ) → Changed
  Part : (start stop : Place) → (text : List ℕ) → Changed

abbrev pub changed_of : Change → Changed
changed_of (change.Whole text) = Whole text.now
changed_of (change.Part start stop text) = Part start stop text.now

-- `{"start": PLACE, "end": PLACE}`
abbrev pub range_in : Data → Option (Place × Place)
range_in d =
    option_and_then (λ start. option_map (λ stop. (start, stop))
    (option_and_then place_in (get (codes "end") d)))
    (option_and_then place_in (get (codes "start") d))

-- By its text, and by its range, if it has one.
abbrev pub change_by : (text : List ℕ) → (range : Option Data) → Option Changed
change_by text None = Some (Whole text)
change_by text (Some range) = option_map (λ r. Part r.0 r.1 text) (range_in range)

-- `{"range": RANGE, "text": TEXT}`, or without a range.
abbrev pub change_in : Data → Option Changed
change_in d =
    option_and_then (λ text. change_by text (get (codes "range") d)) (string_at (codes "text") d)

-- Each of them, if all are well formed.
abbrev pub changes_in : Items → Option (List Changed)
changes_in no_items = Some []
changes_in (item d ds) =
    option_and_then (λ c. option_map (λ cs. c ∷ cs) (changes_in ds)) (change_in d)

-- `{"contentChanges": [CHANGE, ..]}`
abbrev pub all_changes_in : Option Data → Option (List Changed)
all_changes_in params =
    option_and_then changes_in
    (option_and_then as_array (option_and_then (get (codes "contentChanges")) params))
