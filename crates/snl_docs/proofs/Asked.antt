-- The answers to what is asked of a document.
use Rattle.std.proofs.Common.{◌≡◌, ℕ, List, ◌++◌, Option, None, Some, refl, sym, subst, ap, ◌∙◌}
use Rattle.std.specs.Option.{option_map, option_map_or}
use Rattle.json.specs.Print.{quoted}
use Rattle.serde_json.specs.Data.{Data}
use Rattle.snl_place.specs.declared.places.Encoding.{Encoding}
use Rattle.snl_say.specs.Answered.{Answered, Nothing}
use Rattle.snl_say.specs.declared.answers.ErrorCode.TheVariants.{InvalidParams}
use Rattle.snl_hear.specs.Requests.{Query}
use Rattle.snl_docs.specs.Asked.{answer_by, answer_of, answer_on}
use Rattle.snl_document.specs.Documents.{Doc, document_of}
use Rattle.snl_document.specs.Says.{Says}
use Rattle.snl_docs.specs.Known.{IsByText, kept_for}
use Rattle.snl_replies.specs.Replies.{Reply, Answer, AnswerError, framed_answer, framed_reply}
use Rattle.snl_replies.specs.ReplyLaws.{answer_framed}
use Rattle.snl_docs.specs.Served.{Served}
use Rattle.snl_document.specs.Texts.{checked}
use Rattle.snl_docs.proofs.Known.{named_so}

-- ---- by a document

-- The answer by the text that is checked, if there is one.
pub answer_there : (says : Says) (encoding : Encoding) (query : Query)
    (text known : Option (List ℕ)) → known ≡ checked text →
    option_map_or (λ t. says.answer_in encoding t query) known Nothing
    ≡ answer_by says encoding query text
answer_there says encoding query text known is =
    ap (λ (o : Option (List ℕ)). option_map_or (λ t. says.answer_in encoding t query) o Nothing) is

-- What is answered by the text of a document was written.
pub answer_is : (says : Says) (encoding : Encoding) (id : Data) (query : Query) (doc : Doc)
    (answered : Answered) (quoted_uri old new : List ℕ) →
    new ≡ old ++ framed_answer id quoted_uri answered → quoted_uri ≡ quoted doc.uri →
    answered ≡ answer_by says encoding query doc.text →
    new ≡ old ++ framed_reply (answer_of says encoding id query doc)
unfolding answer_of
answer_is says encoding id query doc answered quoted_uri old new written is known =
    written ∙ ap (λ (l : List ℕ). old ++ l)
    (answer_framed id doc.uri quoted_uri answered is
    ∙ ap (λ (a : Answered). framed_reply (Answer id doc.uri a)) known)

-- ---- by documents

abbrev by_document : Says → Encoding → (id : Data) → Query → Option Doc → Reply
by_document says encoding id query doc =
    option_map_or (answer_of says encoding id query) doc (AnswerError id InvalidParams)

-- By the document that was found.
pub answered_found : (says : Says) (encoding : Encoding) (docs : List Doc) (id : Data)
    (uri : List ℕ) (query : Query) (d : Doc) → Some d ≡ document_of uri docs →
    answer_of says encoding id query d ≡ answer_on says encoding docs id uri query
unfolding answer_on
answered_found says encoding docs id uri query d found =
    ap (by_document says encoding id query) found

pub answered_missed : (says : Says) (encoding : Encoding) (docs : List Doc) (id : Data)
    (uri : List ℕ) (query : Query) → None ≡ document_of uri docs →
    AnswerError id InvalidParams ≡ answer_on says encoding docs id uri query
unfolding answer_on
answered_missed says encoding docs id uri query missed =
    ap (by_document says encoding id query) missed

-- ---- by what is kept for a URI

-- The answer, by that alone.
abbrev pub answer_kept : Says → Encoding → (id : Data) → (uri : List ℕ) → Query →
    Option (Option (List ℕ)) → Reply
answer_kept says encoding id uri query None = AnswerError id InvalidParams
answer_kept says encoding id uri query (Some text) =
    Answer id uri (answer_by says encoding query text)

by_kept : (says : Says) (encoding : Encoding) (docs : List Doc) (id : Data) (uri : List ℕ)
    (query : Query) (doc : Option Doc) → document_of uri docs ≡ doc →
    by_document says encoding id query doc
    ≡ answer_kept says encoding id uri query (option_map (λ (d : Doc). d.text) doc)
unfolding answer_of
by_kept says encoding docs id uri query None is = refl
by_kept says encoding docs id uri query (Some d) is =
    ap (λ (u : List ℕ). Answer id u (answer_by says encoding query d.text)) (named_so uri docs d is)

pub on_by_kept : (says : Says) (encoding : Encoding) (docs : List Doc) (id : Data) (uri : List ℕ)
    (query : Query) →
    answer_on says encoding docs id uri query
    ≡ answer_kept says encoding id uri query (kept_for uri docs)
unfolding answer_on
on_by_kept says encoding docs id uri query =
    by_kept says encoding docs id uri query (document_of uri docs) refl

-- ---- nothing is published by an answer

kept_by_text : (says : Says) (s : Served) (encoding : Encoding) (id : Data) (uri : List ℕ)
    (query : Query) (kept : Option (Option (List ℕ))) →
    IsByText says s (answer_kept says encoding id uri query kept)
kept_by_text says s encoding id uri query None = tt
kept_by_text says s encoding id uri query (Some text) = tt

pub on_by_text : (says : Says) (s : Served) (encoding : Encoding) (docs : List Doc) (id : Data)
    (uri : List ℕ) (query : Query) → IsByText says s (answer_on says encoding docs id uri query)
on_by_text says s encoding docs id uri query =
    subst (IsByText says s) (sym (on_by_kept says encoding docs id uri query))
    (kept_by_text says s encoding id uri query (kept_for uri docs))
