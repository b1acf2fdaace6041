-- What is kept of a document, and which document a message is about.
use Rattle.std.specs.Prelude.{⊤, ◌≡◌, ◌≢◌, ℕ, List, Option, Some, None, option_and_then, option_map}
use Rattle.snl_hear.specs.Heard.{Heard, NoJson, NoMessage, Response, Request, Notification}
use Rattle.snl_hear.specs.Notifications.{Noted, Initialized, Exit, DidOpen, DidChange, DidClose, InvalidParams, Other}
use Rattle.snl_hear.specs.Requests.{Asked, Initialize, Shutdown, OfDocument, MethodNotFound}
use Rattle.snl_hear.specs.Requests as asked
use Rattle.snl_document.specs.Documents.{Doc, document_of}
use Rattle.snl_document.specs.Says.{Says}
use Rattle.snl_replies.specs.Replies.{Reply, Publish, Notice, AnswerNull, AnswerInitialize, Answer, AnswerError}
use Rattle.snl_docs.specs.Served.{Served}
use Rattle.snl_document.specs.Texts.{checked}
use Rattle.snl_document.specs.Told.{found_of_text}

-- The text of the document of a URI, if it is open and its text is known.
abbrev pub text_of : (uri : List ℕ) → List Doc → Option (List ℕ)
text_of uri docs = option_and_then (λ d. d.text) (document_of uri docs)

-- The same, if that text is checked too.
abbrev pub checked_text : (uri : List ℕ) → List Doc → Option (List ℕ)
checked_text uri docs = checked (text_of uri docs)

-- What is kept for a URI: a text or that none is known, where the document is open.
abbrev pub kept_for : (uri : List ℕ) → List Doc → Option (Option (List ℕ))
kept_for uri docs = option_map (λ d. d.text) (document_of uri docs)

-- What is published is what is found in the text that is kept.
abbrev pub IsByText : Says → Served → Reply → Type 0
IsByText says s (Publish found uri version) =
    found ≡ found_of_text says s.encoding (text_of uri s.docs)
IsByText says s (Notice severity message) = ⊤
IsByText says s (AnswerNull id) = ⊤
IsByText says s (AnswerInitialize id encoding) = ⊤
IsByText says s (Answer id uri answered) = ⊤
IsByText says s (AnswerError id code) = ⊤

-- It is asked of the document of this URI.
abbrev pub IsAskedOf : (uri : List ℕ) → Asked → Type 0
IsAskedOf uri (Initialize encoding) = ⊥
IsAskedOf uri Shutdown = ⊥
IsAskedOf uri (OfDocument other query) = other ≡ uri
IsAskedOf uri asked.InvalidParams = ⊥
IsAskedOf uri MethodNotFound = ⊥

-- It is about another document than that of this URI, or about none.
abbrev pub IsNotedElsewhere : (uri : List ℕ) → Noted → Type 0
IsNotedElsewhere uri Initialized = ⊤
IsNotedElsewhere uri Exit = ⊤
IsNotedElsewhere uri (DidOpen other version text) = other ≢ uri
IsNotedElsewhere uri (DidChange other version changes) = other ≢ uri
IsNotedElsewhere uri (DidClose other) = other ≢ uri
IsNotedElsewhere uri (InvalidParams None) = ⊥
IsNotedElsewhere uri (InvalidParams (Some other)) = other ≢ uri
IsNotedElsewhere uri Other = ⊤

-- The same of a message. What is no JSON can be about any document.
abbrev pub IsElsewhere : (uri : List ℕ) → Heard → Type 0
IsElsewhere uri NoJson = ⊥
IsElsewhere uri NoMessage = ⊤
IsElsewhere uri Response = ⊤
IsElsewhere uri (Request id asked) = ⊤
IsElsewhere uri (Notification noted) = IsNotedElsewhere uri noted
