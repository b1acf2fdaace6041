-- What a message says, by its JSON.
use Rattle.std.specs.Prelude.{⊤, ℕ, List, Bool, ◌||◌, is_some, Option, Some, None, codes, if◌then◌else◌}
use Rattle.serde_json.specs.Data.{Data}
use Rattle.serde_json.specs.Find.{get}
use Rattle.snl_say.specs.Answers.{id_data}
use Rattle.snl_hear.specs.declared.messages.Message.{Message}
use Rattle.snl_hear.specs.declared.messages.Message.TheVariants as message
use Rattle.snl_hear.specs.Documents.{string_at}
use Rattle.snl_hear.specs.Ids.{IsSoundId, id_in}
use Rattle.snl_hear.specs.Notifications.{Noted, noted_in, noted_of}
use Rattle.snl_hear.specs.Requests.{Asked, asked_in, asked_of}

-- What a message is. The id of a request is its value in JSON.
pub data Heard : Type 0 where
  NoJson : Heard
  NoMessage : Heard
  Response : Heard
  Request : (id : Data) → Asked → Heard
  Notification : Noted → Heard

abbrev pub heard_of : Message → Heard
heard_of message.NoJson = NoJson
heard_of message.NoMessage = NoMessage
heard_of message.Response = Response
heard_of (message.Request id request) = Request (id_data id) (asked_of request)
heard_of (message.Notification told) = Notification (noted_of told)

-- The id of a request can be written, and read back.
abbrev pub HasSoundId : Message → Type 0
HasSoundId message.NoJson = ⊤
HasSoundId message.NoMessage = ⊤
HasSoundId message.Response = ⊤
HasSoundId (message.Request id request) = IsSoundId (id_data id)
HasSoundId (message.Notification told) = ⊤

-- ---- by its JSON

abbrev pub is_response : Data → Bool
is_response d = is_some (get (codes "result") d) || is_some (get (codes "error") d)

-- What has no method answers, or is no message.
abbrev pub without_method : Data → Heard
without_method d = if is_response d then Response else NoMessage

abbrev pub request_by : (id : Option Data) → Asked → Heard
request_by None asked = NoMessage
request_by (Some id) asked = Request id asked

abbrev pub by_id : (id : Data) → (method : List ℕ) → (params : Option Data) → Heard
by_id id method params = request_by (id_in id) (asked_in method params)

-- A message with an id is a request, and one without is a notification.
abbrev pub with_method : (id : Option Data) → (method : List ℕ) → (params : Option Data) → Heard
with_method None method params = Notification (noted_in method params)
with_method (Some id) method params = by_id id method params

abbrev pub by_method : (method : Option (List ℕ)) → Data → Heard
by_method None d = without_method d
by_method (Some method) d = with_method (get (codes "id") d) method (get (codes "params") d)

-- By the value of a body, if it is one.
abbrev pub heard_in : Option Data → Heard
heard_in None = NoJson
heard_in (Some d) = by_method (string_at (codes "method") d) d
