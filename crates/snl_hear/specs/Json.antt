-- The JSON of a body.
use Rattle.std.specs.Prelude.{ℕ, List, Option, None, if◌then◌else◌, option_map}
use Rattle.std.specs.Str.{is_utf8}
use Rattle.serde_json.specs.Data.{Data}
use Rattle.serde_json.specs.Read.{read}
use Rattle.snl_hear.specs.Values.{seen}
use Rattle.snl_hear.specs.declared.body.Body.{Body}

-- The value that bytes are. There is none if they are no UTF-8 or no JSON, or nest deeper than 127
-- levels.
abbrev pub json_in : List ℕ → Option Data
json_in bytes = if is_utf8 bytes then read bytes else None

-- The value of a body that was read.
abbrev pub json_of : Body → Option Data
json_of body = option_map seen body.json
