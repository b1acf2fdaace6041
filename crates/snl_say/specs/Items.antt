-- The parts of an item, as they are written. Only private clauses cite this.
use Rattle.std.specs.Prelude.{ℕ, Bool, List, ◌++◌, codes}
use Rattle.json.specs.Print.{escape}
use Rattle.serde_json.specs.Written.{comma_if}
use Rattle.snl_say.specs.Places.{range_text}
use Rattle.snl_say.specs.Publish.{Found, severity_text}

-- All that is before the message.
abbrev pub item_front : (later : Bool) → (code : List ℕ) → List ℕ
item_front later code =
    comma_if later ++ (codes "{\"code\":\"" ++ (escape code ++ codes "\",\"message\":\""))

-- The quote after the message, and all that is after it.
abbrev pub item_end : Found → List ℕ
item_end f = codes "\",\"range\":" ++ (range_text f.start f.stop ++ severity_text f.severity)
