-- What is said to a client.
use Rattle.std.specs.Prelude.{ℕ, List, Option, flat_map}
use Rattle.serde_json.specs.Data.{Data}
use Rattle.snl_frame.specs.Framed.{framed}
use Rattle.snl_place.specs.declared.places.Encoding.{Encoding}
use Rattle.snl_say.specs.declared.answers.ErrorCode.{ErrorCode}
use Rattle.snl_say.specs.declared.severity.Severity.{Severity}
use Rattle.snl_say.specs.Answered.{Answered, answered_text, answered_with}
use Rattle.snl_say.specs.Answers.{error_text, initialize_text, null_text}
use Rattle.snl_say.specs.Notices.{message_text}
use Rattle.snl_say.specs.Publish.{Found, publish_text, publish_with}

-- What is found in a document, a message to the user, or the answer to a request: `Answer` is that
-- to a question on the document of this URI.
pub data Reply : Type 0 where
  Publish : (found : List Found) → (uri : List ℕ) → (version : Option ℕ) → Reply
  Notice : Severity → (message : List ℕ) → Reply
  AnswerNull : (id : Data) → Reply
  AnswerInitialize : (id : Data) → Encoding → Reply
  Answer : (id : Data) → (uri : List ℕ) → Answered → Reply
  AnswerError : (id : Data) → ErrorCode → Reply

abbrev pub body_of : Reply → List ℕ
body_of (Publish found uri version) = publish_text found uri version
body_of (Notice severity message) = message_text severity message
body_of (AnswerNull id) = null_text id
body_of (AnswerInitialize id encoding) = initialize_text id encoding
body_of (Answer id uri answered) = answered_text id uri answered
body_of (AnswerError id code) = error_text id code

-- A reply in its frame.
unfoldable pub framed_reply : Reply → List ℕ
framed_reply reply = framed (body_of reply)

-- What is found in a document, in its frame, by the URI as a string of JSON.
unfoldable pub framed_publish : List Found → (quoted_uri : List ℕ) → (version : Option ℕ) → List ℕ
framed_publish found quoted_uri version = framed (publish_with found quoted_uri version)

-- The answer to a question on a document, in its frame, by the URI as a string of JSON.
unfoldable pub framed_answer : (id : Data) → (quoted_uri : List ℕ) → Answered → List ℕ
framed_answer id quoted_uri answered = framed (answered_with id quoted_uri answered)

-- The bytes of replies, each in its frame.
unfoldable pub said_of : List Reply → List ℕ
said_of replies = flat_map framed_reply replies
