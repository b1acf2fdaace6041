-- What is heard, kept of documents and said is text: strings are UTF-8, and versions have 64 bits.
use Rattle.std.specs.Prelude.{ℕ, ◌≤◌, List, length, All, IfSome, IsUtf8, ⊤}
use Rattle.snl_place.specs.declared.places.Encoding.{Encoding}
use Rattle.snl_hear.specs.Changes.{Changed, Whole, Part}
use Rattle.snl_hear.specs.Heard.{Heard, NoJson, NoMessage, Response, Request, Notification}
use Rattle.snl_hear.specs.Ids.{IsSoundId}
use Rattle.snl_hear.specs.Notifications.{Noted, Initialized, Exit, DidOpen, DidChange, DidClose, InvalidParams, Other}
use Rattle.snl_hear.specs.Requests.{Asked, Initialize, Shutdown, OfDocument, MethodNotFound, Query}
use Rattle.snl_hear.specs.Requests as asked
use Rattle.snl_hear.specs.Sound.{AreSoundFound, IsSoundAnswer, IsSoundVersion}
use Rattle.snl_document.specs.Documents.{Doc}
use Rattle.snl_document.specs.Says.{Says}
use Rattle.snl_document.specs.Texts.{limit}

-- ---- what is heard

abbrev pub IsTextChange : Changed → Type 0
IsTextChange (Whole text) = IsUtf8 text
IsTextChange (Part start stop text) = IsUtf8 text

abbrev pub IsTextNoted : Noted → Type 0
IsTextNoted Initialized = ⊤
IsTextNoted Exit = ⊤
IsTextNoted (DidOpen uri version text) = IsUtf8 uri × IsSoundVersion version × IsUtf8 text
IsTextNoted (DidChange uri version changes) =
    IsUtf8 uri × IsSoundVersion version × All IsTextChange changes
IsTextNoted (DidClose uri) = IsUtf8 uri
IsTextNoted (InvalidParams uri) = IfSome uri IsUtf8
IsTextNoted Other = ⊤

abbrev pub IsTextAsked : Asked → Type 0
IsTextAsked (Initialize encoding) = ⊤
IsTextAsked Shutdown = ⊤
IsTextAsked (OfDocument uri query) = IsUtf8 uri
IsTextAsked asked.InvalidParams = ⊤
IsTextAsked MethodNotFound = ⊤

abbrev pub IsTextHeard : Heard → Type 0
IsTextHeard NoJson = ⊤
IsTextHeard NoMessage = ⊤
IsTextHeard Response = ⊤
IsTextHeard (Request id asked) = IsSoundId id × IsTextAsked asked
IsTextHeard (Notification noted) = IsTextNoted noted

-- ---- what is kept

pub record IsTextDoc (doc : Doc) : Type 0 where
  pub uri : IsUtf8 doc.uri
  pub version : IsSoundVersion doc.version
  pub text : IfSome doc.text IsUtf8

abbrev pub AreTextDocs : List Doc → Type 0
AreTextDocs docs = All IsTextDoc docs

-- ---- what is said

-- What a text says that is checked can be written as JSON, where the text is UTF-8.
pub record SaysText (says : Says) : Type 0 where
  pub found : (encoding : Encoding) (text : List ℕ) → IsUtf8 text → length text ≤ limit →
      AreSoundFound (says.found_in encoding text)
  pub answers : (encoding : Encoding) (text : List ℕ) (query : Query) → IsUtf8 text →
      length text ≤ limit → IsSoundAnswer (says.answer_in encoding text query)
