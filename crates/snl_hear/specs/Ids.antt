-- The id of a request, as the value that it is in JSON.
use Rattle.std.specs.Prelude.{◌≡◌, pos, int_lt, Bool, true, false, Option, Some, None, if◌then◌else◌}
use Rattle.serde_json.specs.Data.{Num, unsigned, negative, float, Data, null, boolean, number, string, array, object}
use Rattle.snl_hear.specs.Sound.{IsSound}

-- An integer of 64 bits: what is greater is a float, and so is `-0`.
abbrev pub is_whole : Num → Bool
is_whole (unsigned n) = true
is_whole (negative z) = int_lt z (pos 0)
is_whole (float x) = false

-- A string or an integer.
abbrev pub is_id : Data → Bool
is_id null = false
is_id (boolean b) = false
is_id (number n) = is_whole n
is_id (string s) = true
is_id (array ds) = false
is_id (object ms) = false

-- The id that a value is, which is the value itself.
abbrev pub id_in : Data → Option Data
id_in d = if is_id d then Some d else None

-- An id that a text can have.
abbrev pub IsSoundId : Data → Type 0
IsSoundId d = (is_id d ≡ true) × IsSound d
