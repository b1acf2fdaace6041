-- A message that is shown to the user: the notification as JSON and as bytes.
use Rattle.std.specs.Prelude.{ℕ, List, [], ◌∷◌, codes}
use Rattle.std.specs.List.{concat}
use Rattle.json.specs.Print.{quoted}
use Rattle.serde_json.specs.Data.{Data, object, string, number, unsigned, member, no_members}
use Rattle.snl_say.specs.declared.severity.Severity.{Severity}
use Rattle.snl_say.specs.declared.severity.Severity.TheVariants.{Error, Warning}
use Rattle.snl_say.specs.Publish.{severity_number}

-- The members of an object are in the order of their names.
abbrev pub message_params : Severity → (message : List ℕ) → Data
message_params severity message =
    object (member (codes "message") (string message)
    (member (codes "type") (number (unsigned (severity_number severity))) no_members))

abbrev pub message_data : Severity → (message : List ℕ) → Data
message_data severity message =
    object (member (codes "jsonrpc") (string (codes "2.0"))
    (member (codes "method") (string (codes "window/showMessage"))
    (member (codes "params") (message_params severity message) no_members)))

-- What is before the message.
unfoldable pub message_head : List ℕ
message_head =
    codes "{\"jsonrpc\":\"2.0\",\"method\":\"window/showMessage\",\"params\":{\"message\":"

-- What is after it.
abbrev pub message_end : Severity → List ℕ
message_end Error = codes ",\"type\":1}}"
message_end Warning = codes ",\"type\":2}}"

abbrev pub message_text : Severity → (message : List ℕ) → List ℕ
message_text severity message =
    concat (message_head ∷ quoted message ∷ message_end severity ∷ [])
