-- Which replies answer, and which messages are to be answered.
use Rattle.std.specs.Prelude.{List, [], ◌∷◌, ◌++◌, Option, Some, None, codes}
use Rattle.std.specs.List.{filter_map}
use Rattle.serde_json.specs.Data.{Data, null}
use Rattle.serde_json.specs.Find.{get}
use Rattle.snl_say.specs.Answered.{answered_data}
use Rattle.snl_say.specs.Answers.{error_data, initialize_data, null_data}
use Rattle.snl_say.specs.Notices.{message_data}
use Rattle.snl_say.specs.Publish.{publish_data}
use Rattle.snl_hear.specs.Heard.{Heard, NoJson, NoMessage, Response, Request, Notification}
use Rattle.snl_document.specs.Says.{Says}
use Rattle.snl_docs.specs.Served.{Served, after, replied}
use Rattle.snl_replies.specs.Replies.{Reply, Publish, Notice, AnswerNull, AnswerInitialize, Answer, AnswerError}
use Rattle.snl_turns.specs.Turns.{Turn, heard_at}

-- The value of JSON that a reply is.
abbrev pub data_of : Reply → Data
data_of (Publish found uri version) = publish_data found uri version
data_of (Notice severity message) = message_data severity message
data_of (AnswerNull id) = null_data id
data_of (AnswerInitialize id encoding) = initialize_data id encoding
data_of (Answer id uri answered) = answered_data id uri answered
data_of (AnswerError id code) = error_data id code

-- What its member `id` is: what has none answers nothing.
abbrev pub id_of : Reply → Option Data
id_of reply = get (codes "id") (data_of reply)

-- The ids of the answers among replies, in order.
abbrev pub answered_ids : List Reply → List Data
answered_ids replies = filter_map id_of replies

-- The id that a message is to be answered with, if it is to be answered.
abbrev pub asked_id : Heard → Option Data
asked_id NoJson = Some null
asked_id NoMessage = Some null
asked_id Response = None
asked_id (Request id asked) = Some id
asked_id (Notification noted) = None

abbrev pub asked_ids : List Turn → List Data
asked_ids turns = filter_map (λ turn. asked_id (heard_at turn)) turns

-- What is said to messages, one after another.
abbrev pub replied_to_all : Says → Served → List Turn → List Reply
replied_to_all says s [] = []
replied_to_all says s (turn ∷ turns) = replied says s turn ++ replied_to_all says (after s turn) turns

-- What is kept after messages.
abbrev pub kept_after : Served → List Turn → Served
kept_after s [] = s
kept_after s (turn ∷ turns) = kept_after (after s turn) turns
