-- What the server keeps from one message to the next, and what it answers.
use Rattle.std.specs.Prelude.{ℕ, List, [], ◌∷◌, Bool, true, false, Option, Some, None, map, if◌then◌else◌}
use Rattle.serde_json.specs.Data.{Data, null}
use Rattle.snl_place.specs.declared.places.Encoding.{Encoding}
use Rattle.snl_place.specs.declared.places.Encoding.TheVariants.{Utf16}
use Rattle.snl_hear.specs.Heard.{Heard, NoJson, NoMessage, Response, Request, Notification}
use Rattle.snl_hear.specs.Notifications.{Noted, Initialized, Exit, DidOpen, DidChange, DidClose, InvalidParams, Other}
use Rattle.snl_hear.specs.Requests.{Asked, Initialize, Shutdown, OfDocument, MethodNotFound}
use Rattle.snl_hear.specs.Requests as asked
use Rattle.snl_say.specs.declared.answers.ErrorCode.TheVariants as error
use Rattle.snl_docs.specs.declared.phase.Phase.{Phase}
use Rattle.snl_docs.specs.declared.phase.Phase.TheVariants.{New, Ready, Shut, Gone}
use Rattle.snl_docs.specs.Asked.{answer_on}
use Rattle.snl_document.specs.Says.{Says}
use Rattle.snl_document.specs.Documents.{Doc, after_changes, lost, opened, put, updated, without}
use Rattle.snl_replies.specs.Replies.{Reply, Publish, AnswerError, AnswerInitialize, AnswerNull, body_of}
use Rattle.snl_document.specs.Told.{told, told_of_all, told_of_named}
use Rattle.snl_talk.specs.Talks.{Talk}
use Rattle.snl_turns.specs.Turns.{Turn, heard_at}

-- The documents that are open, how places are counted, and how far the talk is.
pub record Served : Type 0 where
  pub docs : List Doc
  pub encoding : Encoding
  pub phase : Phase

unfoldable pub start : Served
start = record { docs = []; encoding = Utf16; phase = New }

-- It ended: `exit` came, after `shutdown` if it is clean.
abbrev pub ended_in : Phase → Option Bool
ended_in New = None
ended_in Ready = None
ended_in Shut = None
ended_in (Gone clean) = Some clean

unfoldable pub ended_of : Served → Option Bool
ended_of s = ended_in s.phase

abbrev pub is_ready : Phase → Bool
is_ready New = false
is_ready Ready = true
is_ready Shut = false
is_ready (Gone clean) = false

abbrev pub is_shut : Phase → Bool
is_shut New = false
is_shut Ready = false
is_shut Shut = true
is_shut (Gone clean) = clean

abbrev pub with_docs : Served → List Doc → Served
with_docs s docs = record { docs = docs; encoding = s.encoding; phase = s.phase }

abbrev pub in_phase : Served → Phase → Served
in_phase s phase = record { docs = s.docs; encoding = s.encoding; phase = phase }

-- ---- requests

-- Before `initialize`.
abbrev pub asked_first : Served → Asked → Served
asked_first s (Initialize encoding) =
    record { docs = s.docs; encoding = encoding; phase = Ready }
asked_first s _ = s

abbrev pub asked_ready : Served → Asked → Served
asked_ready s Shutdown = in_phase s Shut
asked_ready s _ = s

abbrev pub after_request : Phase → Served → Asked → Served
after_request New s asked = asked_first s asked
after_request Ready s asked = asked_ready s asked
after_request Shut s asked = s
after_request (Gone clean) s asked = s

abbrev pub answer_first : (id : Data) → Asked → Reply
answer_first id (Initialize encoding) = AnswerInitialize id encoding
answer_first id _ = AnswerError id error.ServerNotInitialized

-- Between `initialize` and `shutdown`.
abbrev pub answer_ready : Says → Encoding → List Doc → (id : Data) → Asked → Reply
answer_ready says encoding docs id (Initialize other) = AnswerError id error.InvalidRequest
answer_ready says encoding docs id Shutdown = AnswerNull id
answer_ready says encoding docs id (OfDocument uri query) =
    answer_on says encoding docs id uri query
answer_ready says encoding docs id asked.InvalidParams = AnswerError id error.InvalidParams
answer_ready says encoding docs id MethodNotFound = AnswerError id error.MethodNotFound

-- One answer for each request.
abbrev pub answer_in_phase : Says → Phase → Encoding → List Doc → (id : Data) → Asked → Reply
answer_in_phase says New encoding docs id asked = answer_first id asked
answer_in_phase says Ready encoding docs id asked = answer_ready says encoding docs id asked
answer_in_phase says Shut encoding docs id asked = AnswerError id error.InvalidRequest
answer_in_phase says (Gone clean) encoding docs id asked = AnswerError id error.InvalidRequest

-- ---- what is told of documents

abbrev pub lost_by : (uri : Option (List ℕ)) → List Doc → List Doc
lost_by None docs = map lost docs
lost_by (Some uri) docs = updated uri lost docs

abbrev pub told_of_lost : Says → Encoding → (uri : Option (List ℕ)) → List Doc → List Reply
told_of_lost says encoding None docs = told_of_all says encoding docs
told_of_lost says encoding (Some uri) docs = told_of_named says encoding uri lost docs

-- ---- notifications between `initialize` and `shutdown`

abbrev pub docs_after : Encoding → List Doc → Noted → List Doc
docs_after encoding docs Initialized = docs
docs_after encoding docs Exit = docs
docs_after encoding docs (DidOpen uri version text) = put (opened uri version text) docs
docs_after encoding docs (DidChange uri version changes) =
    updated uri (after_changes encoding version changes) docs
docs_after encoding docs (DidClose uri) = without uri docs
docs_after encoding docs (InvalidParams uri) = lost_by uri docs
docs_after encoding docs Other = docs

abbrev pub told_by : Says → Encoding → List Doc → Noted → List Reply
told_by says encoding docs Initialized = []
told_by says encoding docs Exit = []
told_by says encoding docs (DidOpen uri version text) = told says encoding (opened uri version text)
told_by says encoding docs (DidChange uri version changes) =
    told_of_named says encoding uri (after_changes encoding version changes) docs
told_by says encoding docs (DidClose uri) = Publish [] uri None ∷ []
told_by says encoding docs (InvalidParams uri) = told_of_lost says encoding uri docs
told_by says encoding docs Other = []

-- At other times nothing is done for one but `exit`.
abbrev pub after_note : Served → Noted → Served
after_note s Exit = in_phase s (Gone (is_shut s.phase))
after_note s noted =
    if is_ready s.phase then with_docs s (docs_after s.encoding s.docs noted) else s

abbrev pub told_note : Says → Served → Noted → List Reply
told_note says s noted = if is_ready s.phase then told_by says s.encoding s.docs noted else []

-- ---- messages

-- What is no JSON can have been of any document.
abbrev pub after_heard : Served → Heard → Served
after_heard s NoJson = with_docs s (map lost s.docs)
after_heard s NoMessage = s
after_heard s Response = s
after_heard s (Request id asked) = after_request s.phase s asked
after_heard s (Notification noted) = after_note s noted

abbrev pub replies_to : Says → Served → Heard → List Reply
replies_to says s NoJson = AnswerError null error.ParseError ∷ told_of_all says s.encoding s.docs
replies_to says s NoMessage = AnswerError null error.InvalidRequest ∷ []
replies_to says s Response = []
replies_to says s (Request id asked) = answer_in_phase says s.phase s.encoding s.docs id asked ∷ []
replies_to says s (Notification noted) = told_note says s noted

-- What is kept after a message.
unfoldable pub after : Served → Turn → Served
after s turn = after_heard s (heard_at turn)

-- What is said to it, in order.
abbrev pub replied : Says → Served → Turn → List Reply
replied says s turn = replies_to says s (heard_at turn)

-- The bodies of these.
unfoldable pub replies : Says → Served → Turn → List (List ℕ)
replies says s turn = map body_of (replied says s turn)

-- The talk with a client over texts that say so much.
abbrev pub talk_by : Says → Talk Served
talk_by says = record { after = after; ended = ended_of; replies = replies says }
