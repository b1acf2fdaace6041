-- What is asked of a document, and the answer by its text.
use Rattle.std.specs.Prelude.{ℕ, List, Option}
use Rattle.std.specs.Option.{option_map_or}
use Rattle.serde_json.specs.Data.{Data}
use Rattle.snl_place.specs.declared.places.Encoding.{Encoding}
use Rattle.snl_say.specs.declared.answers.ErrorCode.TheVariants as error
use Rattle.snl_say.specs.Answered.{Answered, Nothing}
use Rattle.snl_hear.specs.Requests.{Query}
use Rattle.snl_document.specs.Documents.{Doc, document_of}
use Rattle.snl_document.specs.Says.{Says}
use Rattle.snl_document.specs.Texts.{checked}
use Rattle.snl_replies.specs.Replies.{Reply, Answer, AnswerError}

-- The answer by the text of a document, if that is known: nothing, where it isn't checked.
abbrev pub answer_by : Says → Encoding → Query → (text : Option (List ℕ)) → Answered
answer_by says encoding query text =
    option_map_or (λ known. says.answer_in encoding known query) (checked text) Nothing

unfoldable pub answer_of : Says → Encoding → (id : Data) → Query → Doc → Reply
answer_of says encoding id query doc =
    Answer id doc.uri (answer_by says encoding query doc.text)

-- An error, where the document of this URI isn't open.
unfoldable pub answer_on : Says → Encoding → List Doc → (id : Data) → (uri : List ℕ) → Query →
    Reply
answer_on says encoding docs id uri query =
    option_map_or (answer_of says encoding id query) (document_of uri docs)
    (AnswerError id error.InvalidParams)
